use Rattle.std.proofs.Common.{◌≡◌, length, subst, rules}
use Rattle.std.specs.Prelude.{nat_lt}
use Rattle.vlog_tree.specs.Loops.{Edges}
use Rattle.vlog_comb_loops.specs.Merges.{IsMerged}
use Rattle.vlog_comb_loops.proofs.Rooms.{merged_all, empty_of, some_of}
use Rattle.vlog_comb_loops.proofs.sums.take_over.Goals as goal

pub returns : goal.returns
returns c =
    let p : Edges = c.other.inside.pairs.items in
    let n = c.len-added.result in
    let count : n ≡ length p = search rules in
    let same : p ≡ c.args.other = search rules in
    subst (λ (l : Edges). IsMerged c.args.sum.now l p (nat_lt 0 n)) same (merged_all c.args.sum.now p (nat_lt 0 n) c.requires (empty_of p n count) (some_of p n count))
