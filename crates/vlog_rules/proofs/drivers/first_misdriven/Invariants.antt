use Rattle.std.proofs.Common.{◌≡◌, drop}
use Rattle.std.specs.List.{flat_map}
use Rattle.vlog_tree.specs.Table.{first_violation}
use Rattle.vlog_tree.specs.V4.{module_drives}
use Rattle.vlog_rules.proofs.drivers.first_misdriven.Given as goal

abbrev pub invariant-loop-at : goal.invariant-loop-at
invariant-loop-at l = first_violation (flat_map (module_drives l.library) l.library) ≡ first_violation (flat_map (module_drives l.library) (drop l.at l.modules))
