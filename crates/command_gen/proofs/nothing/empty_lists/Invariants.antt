use Rattle.std.proofs.Common.{◌≡◌, []}
use Rattle.std.specs.Prelude.{replicate}
use Rattle.vlog_design.specs.Environments.{lists_of}
use Rattle.command_gen.proofs.nothing.empty_lists.Given as goal

abbrev pub invariant-loop-i : goal.invariant-loop-i
invariant-loop-i g l = lists_of l.lists.items ≡ replicate l.i []
