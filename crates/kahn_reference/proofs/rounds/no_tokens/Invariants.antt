use Rattle.std.proofs.Common.{◌≡◌, ℕ, []}
use Rattle.kahn_reference.specs.Slow.{whole}
use Rattle.kahn_reference.proofs.rounds.no_tokens.Given as goal

abbrev pub invariant-loop-stream : goal.invariant-loop-stream
invariant-loop-stream l = (s : ℕ) → whole l.lists.items s ≡ []
