use Rattle.std.proofs.Common.{◌≡◌, ◌++◌, ℕ, None, drop, get_or}
use Rattle.std.specs.List.{flat_map}
use Rattle.vlog_comb_loops.specs.Places.{picked}
use Rattle.vlog_comb_loops.proofs.sums.add_inputs.Given as goal

abbrev pub invariant-loop-node : goal.invariant-loop-node
invariant-loop-node l = l.pairs.items ++ flat_map (λ (k : ℕ). picked l.x l.ports (get_or l.places k None)) (drop l.node-index l.found) ≡ l.fn.pairs.items ++ flat_map (λ (k : ℕ). picked l.x l.ports (get_or l.places k None)) l.found
