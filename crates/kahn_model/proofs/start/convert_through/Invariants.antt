use Rattle.std.proofs.Common.{◌≡◌, ◌<◌, drop}
use Rattle.tapa_base.specs.Kinds.{values_of}
use Rattle.kahn_model.specs.Start.{through}
use Rattle.kahn_model.proofs.start.convert_through.Given as goal

abbrev pub invariant-loop-kind : goal.invariant-loop-kind
invariant-loop-kind l = (through l.last (drop l.kind-index l.kinds) l.value ≡ through l.fn.from l.kinds l.v) × (l.value < values_of l.last)
