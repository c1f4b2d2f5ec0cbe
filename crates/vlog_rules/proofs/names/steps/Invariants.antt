use Rattle.std.proofs.Common.{◌≡◌, drop}
use Rattle.std.specs.List.{flat_map}
use Rattle.vlog_tree.specs.Table.{first_violation}
use Rattle.vlog_tree.specs.V2.{step_uses}
use Rattle.vlog_rules.proofs.names.steps.Given as goal

abbrev pub invariant-loop-s : goal.invariant-loop-s
invariant-loop-s l = first_violation (flat_map (step_uses l.scope) l.steps) ≡ first_violation (flat_map (step_uses l.scope) (drop l.s-index l.steps))
