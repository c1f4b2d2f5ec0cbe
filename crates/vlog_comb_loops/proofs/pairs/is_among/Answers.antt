use Rattle.std.proofs.Common.{◌≡◌, true, inl, inr, refl, subst}
use Rattle.tapa_base.specs.Lists.{Has}
use Rattle.vlog_tree.specs.Table.{Name}
use Rattle.tapa_base.proofs.Lists.{has_got, got_index, taken_split}
use Rattle.vlog_comb_loops.proofs.pairs.is_among.Goals as goal

pub returns-then-is_pair : goal.returns-then-is_pair
returns-then-is_pair c =
    let pairs = c.args.pairs.now in
    let same = c.is_pair.ensures.0 c.if-is_pair.true in
    let there = has_got pairs c.loop-p.p-index c.p-item.result (got_index pairs c.loop-p.p-index c.p-item.result c.loop-p-test.true c.p-item.is) in
    (λ _. subst (λ (q : Name × Name). Has pairs q) same there, λ _. refl)

pub loop-p-preserved : goal.loop-p-preserved
loop-p-preserved c = λ h.
    elim (taken_split c.args.pairs.now c.loop-p.p-index c.p-item.result c.args.pair.now c.loop-p-test.true c.p-item.is h) [
      | inl l ↦ c.loop-p.invariant l
      | inr e ↦ (let yes : c.is_pair.result ≡ true = c.is_pair.ensures.1 e in cc (yes, c.if-is_pair.false))
    ]
