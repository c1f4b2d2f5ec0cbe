use Rattle.std.proofs.Common.{◌≡◌, ℕ, ◌<◌}
use Rattle.net_core.specs.Bindings.{stream_at, Writes, Reads}
use Rattle.net_core.proofs.construct.is_fed_by_self.Given as goal

abbrev pub invariant-loop-p : goal.invariant-loop-p
invariant-loop-p l = (p q : ℕ) → p < l.p → Writes l.program l.i p → Reads l.program l.i q → stream_at l.program l.i p ≡ stream_at l.program l.i q → ⊥
