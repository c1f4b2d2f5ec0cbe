use Rattle.std.proofs.Common.{◌≡◌, ◌++◌, map, drop}
use Rattle.tapa_syntax.specs.Trees as tree
use Rattle.check_upper.specs.Uppers as upper
use Rattle.check_upper.specs.Views.{invocation_view, task_view}
use Rattle.check_upper.proofs.invocation.invocations.Given as goal

abbrev pub invariant-loop-one : goal.invariant-loop-one
invariant-loop-one l = record {
  faults : upper.invocations_faults l.scope (map task_view l.tasks) (tree.task_of l.own) (map tree.invocation_of l.invoked) ≡ upper.invocations_faults l.scope (map task_view l.tasks) (tree.task_of l.own) (map tree.invocation_of (drop l.one-index l.invoked));
  made : upper.invocations_of l.scope (map task_view l.tasks) (tree.task_of l.own) (map tree.invocation_of l.invoked) ≡ map invocation_view l.made.items ++ upper.invocations_of l.scope (map task_view l.tasks) (tree.task_of l.own) (map tree.invocation_of (drop l.one-index l.invoked));
}
