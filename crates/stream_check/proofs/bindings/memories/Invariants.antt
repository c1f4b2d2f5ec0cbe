use Rattle.std.proofs.Common.{◌≡◌, ◌≤◌, ◌++◌, length, map, drop}
use Rattle.tapa_syntax.specs.Flat.{flat_instance}
use Rattle.stream_check.specs.Programs as program
use Rattle.stream_check.proofs.bindings.memories.Given as goal

abbrev pub invariant-loop-parameter : goal.invariant-loop-parameter
invariant-loop-parameter l = record {
  few : length l.made.items ≤ l.parameter-index;
  faults : program.memories_faults (map flat_instance l.instances) 0 l.parameters ≡ program.memories_faults (map flat_instance l.instances) (length l.made.items) (drop l.parameter-index l.parameters);
  made : program.memories_of (map flat_instance l.instances) 0 l.parameters ≡ l.made.items ++ program.memories_of (map flat_instance l.instances) (length l.made.items) (drop l.parameter-index l.parameters);
}
