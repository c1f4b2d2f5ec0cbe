use Rattle.std.proofs.Common.{◌≡◌, ◌++◌, map}
use Rattle.std.specs.Vec.Iter.{into_iter_items}
use Rattle.tapa_syntax.specs.Flat.{flat_leaf}
use Rattle.check_upper.specs.Views.{task_view}
use Rattle.stream_check.specs.Programs as program
use Rattle.stream_check.proofs.body.bodies.Given as goal

abbrev pub invariant-loop-task : goal.invariant-loop-task
invariant-loop-task l = program.bodies_of l.numbers 0 (map task_view (into_iter_items l.initial.task-iterator)) ≡ map flat_leaf l.leaves.items ++ program.bodies_of l.numbers l.number (map task_view (into_iter_items l.task-iterator))
