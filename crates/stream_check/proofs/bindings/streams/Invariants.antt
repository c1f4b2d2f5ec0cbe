use Rattle.std.proofs.Common.{◌≡◌, ◌++◌, map, drop}
use Rattle.tapa_syntax.specs.Flat.{flat_instance}
use Rattle.check_upper.specs.Views.{task_view}
use Rattle.stream_check.specs.Programs as program
use Rattle.stream_check.proofs.bindings.streams.Given as goal

abbrev pub invariant-loop-number : goal.invariant-loop-number
invariant-loop-number l = record {
  faults : program.streams_faults (map task_view l.tasks) (map flat_instance l.instances) 0 l.channels ≡ program.streams_faults (map task_view l.tasks) (map flat_instance l.instances) l.number (drop l.number l.channels);
  made : program.streams_of (map task_view l.tasks) (map flat_instance l.instances) 0 l.channels ≡ l.made.items ++ program.streams_of (map task_view l.tasks) (map flat_instance l.instances) l.number (drop l.number l.channels);
}
