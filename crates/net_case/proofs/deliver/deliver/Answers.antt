use Rattle.std.proofs.Common.{◌≡◌, refl, sym, ◌∙◌, subst, ⊎_elim, arith}
use Rattle.std.proofs.lemmas.Bool.{cases_eq}
use Rattle.net_case.specs.Deliver.{IsDelivered}
use Rattle.net_case.proofs.Delivered.{stays_delivered}
use Rattle.net_case.proofs.deliver.deliver.Goals as goal

pub loop-p-init : goal.loop-p-init
loop-p-init c = record { order = c.requires.order; delivered = λ q l. absurd (omega arith); carries = λ q. refl; others = λ s d. refl }

pub loop-p-preserved : goal.loop-p-preserved
loop-p-preserved c =
    let inv = c.loop-p.invariant in
    let e = c.deliver_at.ensures in
    record {
      order = e.order;
      delivered = λ q l.
          ⊎_elim
          (λ (g : q ≡ c.loop-p.p). subst (λ x. IsDelivered c.args.program.now c.args.i x c.args.queues.now.items c.args.taken.now.items c.deliver_at.new.offered.items c.deliver_at.new.ports c.deliver_at.new.limits.items) (sym g) e.delivered)
          (λ (d : q ≡ c.loop-p.p → ⊥). stays_delivered c.args.program.now c.requires.connected c.args.i c.loop-p.p q _ _ _ _ _ _ _ _ d e.adjusted (e.limits q d) e.others (inv.delivered q (omega arith)))
          (cases_eq q c.loop-p.p);
      carries = λ q. e.adjusted.carries q ∙ inv.carries q;
      others = λ s d. e.others s (λ r g. d c.loop-p.p r g) ∙ inv.others s d;
    }

pub returns-clause-delivered : goal.returns-clause-delivered
returns-clause-delivered c = λ p l.
    let before = c.requires.order.limits_len in
    let t = c.loop-p-test.false in
    c.loop-p.invariant.delivered p (omega arith)
