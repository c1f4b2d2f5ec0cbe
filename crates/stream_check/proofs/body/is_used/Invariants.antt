use Rattle.std.proofs.Common.{◌≡◌, map, drop}
use Rattle.tapa_syntax.specs.Flat.{flat_instance}
use Rattle.stream_check.specs.Programs as program
use Rattle.stream_check.proofs.body.is_used.Given as goal

abbrev pub invariant-loop-instance : goal.invariant-loop-instance
invariant-loop-instance l = program.is_used (map flat_instance l.instances) l.number ≡ program.is_used (map flat_instance (drop l.instance-index l.instances)) l.number
