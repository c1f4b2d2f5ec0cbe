use Rattle.std.proofs.Common.{◌≡◌, drop}
use Rattle.std.specs.List.{flat_map}
use Rattle.vlog_tree.specs.Table.{first_violation}
use Rattle.vlog_tree.specs.V6.{module_tops}
use Rattle.vlog_design.proofs.outside.first_misplaced.Given as goal

abbrev pub invariant-loop-at : goal.invariant-loop-at
invariant-loop-at l = first_violation (flat_map (module_tops l.library) l.library) ≡ first_violation (flat_map (module_tops l.library) (drop l.at l.modules))
