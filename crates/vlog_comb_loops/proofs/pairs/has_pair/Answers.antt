use Rattle.std.proofs.Common.{refl, subst}
use Rattle.tapa_base.specs.Lists.{Has}
use Rattle.vlog_tree.specs.Table.{Name}
use Rattle.tapa_base.proofs.Lists.{has_got, got_index}
use Rattle.vlog_comb_loops.proofs.pairs.has_pair.Goals as goal

pub returns-then-is_pair : goal.returns-then-is_pair
returns-then-is_pair c =
    let pairs = c.args.pairs.now in
    let same = c.is_pair.ensures.0 c.if-is_pair.true in
    let there = has_got pairs c.args.at c.index-pairs-at.result (got_index pairs c.args.at c.index-pairs-at.result c.if-at-pairs.true c.index-pairs-at.is) in
    (λ _. subst (λ (q : Name × Name). Has pairs q) same there, λ _. refl)
