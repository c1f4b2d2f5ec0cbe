use Rattle.std.proofs.Common.{◌≡◌, drop}
use Rattle.std.specs.List.{flat_map}
use Rattle.vlog_tree.specs.Table.{first_violation}
use Rattle.vlog_tree.specs.V3.{module_widths}
use Rattle.vlog_rules.proofs.widths.first_misfit.Given as goal

abbrev pub invariant-loop-at : goal.invariant-loop-at
invariant-loop-at l = first_violation (flat_map (module_widths l.library) l.library) ≡ first_violation (flat_map (module_widths l.library) (drop l.at l.modules))
