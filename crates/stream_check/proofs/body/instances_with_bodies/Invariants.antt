use Rattle.std.proofs.Common.{◌≡◌, ◌++◌, map}
use Rattle.std.specs.Vec.Iter.{into_iter_items}
use Rattle.tapa_syntax.specs.Flat.{flat_instance}
use Rattle.stream_check.specs.Programs as program
use Rattle.stream_check.proofs.body.instances_with_bodies.Given as goal

abbrev pub invariant-loop-instance : goal.invariant-loop-instance
invariant-loop-instance l = map (program.with_body l.numbers) (map flat_instance (into_iter_items l.initial.instance-iterator)) ≡ map flat_instance l.made.items ++ map (program.with_body l.numbers) (map flat_instance (into_iter_items l.instance-iterator))
