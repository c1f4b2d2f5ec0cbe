use Rattle.std.proofs.Common.{◌≡◌, drop}
use Rattle.std.specs.List.{flat_map}
use Rattle.vlog_tree.specs.Table.{first_violation}
use Rattle.vlog_tree.specs.V2.{module_uses}
use Rattle.vlog_rules.proofs.names.first_unknown.Given as goal

abbrev pub invariant-loop-at : goal.invariant-loop-at
invariant-loop-at l = first_violation (flat_map (module_uses l.library) l.library) ≡ first_violation (flat_map (module_uses l.library) (drop l.at l.modules))
