use Rattle.std.proofs.Common.{◌≡◌, ◌++◌, map, drop}
use Rattle.tapa_syntax.specs.Flat.{flat_instance}
use Rattle.check_upper.specs.Views.{task_view}
use Rattle.stream_check.specs.Programs as program
use Rattle.stream_check.proofs.body.body_numbers.Given as goal

abbrev pub invariant-loop-position : goal.invariant-loop-position
invariant-loop-position l = program.body_numbers (map flat_instance l.instances) 0 (map task_view l.tasks) ≡ l.numbers.items ++ program.body_numbers (map flat_instance l.instances) l.position (map task_view (drop l.position l.tasks))
