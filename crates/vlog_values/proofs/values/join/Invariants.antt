use Rattle.std.proofs.Common.{◌≡◌, List, Some, drop}
use Rattle.vlog_tree.specs.Cycle.{joined}
use Rattle.vlog_values.specs.declared.numbers.MemoryCells.{MemoryCells}
use Rattle.vlog_values.specs.Numbers.{cycle_of, sizes_of, fitting}
use Rattle.vlog_values.proofs.values.join.Given as goal

abbrev pub invariant-loop-a : goal.invariant-loop-a
invariant-loop-a l =
    (Some l.n ≡ fitting l.n)
    × ((memories : List MemoryCells) → joined (sizes_of l.nets memories) (cycle_of l.nets memories) l.n (drop l.a-index l.atoms) ≡ joined (sizes_of l.nets memories) (cycle_of l.nets memories) 0 l.atoms)
