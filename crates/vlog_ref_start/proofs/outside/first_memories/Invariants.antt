use Rattle.std.proofs.Common.{◌≡◌, ◌++◌, map, drop}
use Rattle.vlog_ref_start.specs.Outside.{outside_tree, outside_from}
use Rattle.vlog_design.specs.Environments.{environment_of}
use Rattle.vlog_ref_start.proofs.outside.first_memories.Given as goal

abbrev pub invariant-loop-at : goal.invariant-loop-at
invariant-loop-at l = map outside_tree l.out.items ++ outside_from l.at (drop l.at l.labels) (environment_of l.around) ≡ outside_from 0 l.labels (environment_of l.around)
