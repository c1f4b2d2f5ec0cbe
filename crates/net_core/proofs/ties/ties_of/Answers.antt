use Rattle.std.proofs.Common.{length, [], ◌∷◌, ap, ◌∙◌, subst, sym, arith, length-append}
use Rattle.net_core.specs.Ties.{IsTie}
use Rattle.net_core.proofs.Loaded.{each_push}
use Rattle.net_core.proofs.ties.ties_of.Goals as goal

pub loop-p-preserved : goal.loop-p-preserved
loop-p-preserved c =
    let ties = c.loop-p.ties.items in
    let tie = c.tie_at.result in
    let len = c.loop-p.invariant.len in
    let more = ap length c.in_ok-push.ensures.items ∙ length-append ties (tie ∷ []) in
    record {
      len = omega arith;
      each = each_push ties _ tie (IsTie c.args.program.now c.args.i) c.in_ok-push.ensures.items c.loop-p.invariant.each (subst (λ p. IsTie c.args.program.now c.args.i p tie) (sym len) c.tie_at.ensures);
    }
