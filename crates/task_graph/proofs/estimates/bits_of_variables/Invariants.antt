use Rattle.std.proofs.Common.{◌≡◌, take}
use Rattle.std.specs.List.{sum_by}
use Rattle.tapa_base.specs.Kinds.{bits_of}
use Rattle.tapa_syntax.specs.TickPlaces.{capped}
use Rattle.task_graph.proofs.estimates.bits_of_variables.Given as goal

abbrev pub invariant-loop-kind : goal.invariant-loop-kind
invariant-loop-kind l = l.sum ≡ capped (sum_by bits_of (take l.kind-index l.kinds))
