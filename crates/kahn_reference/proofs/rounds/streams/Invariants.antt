use Rattle.std.proofs.Common.{◌≡◌, ℕ}
use Rattle.tapa_syntax.specs.WellFormed.{IsWellFormed}
use Rattle.kahn_model.specs.Network.{stream}
use Rattle.kahn_reference.specs.Slow.{whole}
use Rattle.kahn_model.specs.Rows.{rows_of}
use Rattle.kahn_model.specs.Start.{network_of}
use Rattle.kahn_reference.proofs.rounds.streams.Given as goal

abbrev pub invariant-loop-round : goal.invariant-loop-round
invariant-loop-round l = IsWellFormed l.program → (s : ℕ) → whole l.lists.items s ≡ stream (network_of l.program l.scalars (rows_of l.memories)) l.round s
