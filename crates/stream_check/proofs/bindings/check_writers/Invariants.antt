use Rattle.std.proofs.Common.{◌≡◌, ◌≤◌, map, drop}
use Rattle.tapa_syntax.specs.Flat.{flat_instance}
use Rattle.stream_check.specs.Programs as program
use Rattle.stream_check.proofs.bindings.check_writers.Given as goal

abbrev pub invariant-loop-parameter : goal.invariant-loop-parameter
invariant-loop-parameter l = record {
  few : l.number ≤ l.parameter-index;
  faults : program.writers_faults (map flat_instance l.instances) 0 l.parameters ≡ program.writers_faults (map flat_instance l.instances) l.number (drop l.parameter-index l.parameters);
}
