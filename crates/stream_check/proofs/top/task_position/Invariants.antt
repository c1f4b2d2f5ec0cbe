use Rattle.std.proofs.Common.{◌≡◌, map, drop}
use Rattle.check_upper.specs.Tasks.{task_position}
use Rattle.check_upper.specs.Views.{task_view}
use Rattle.stream_check.proofs.top.task_position.Given as goal

abbrev pub invariant-loop-position : goal.invariant-loop-position
invariant-loop-position l = task_position 0 l.name (map task_view l.tasks) ≡ task_position l.position l.name (map task_view (drop l.position l.tasks))
