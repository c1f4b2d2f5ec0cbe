use Rattle.std.proofs.Common.{ℕ, ◌<◌}
use Rattle.net_core.specs.Bindings.{producer_of, IsWriter}
use Rattle.net_core.proofs.construct.writer_of.Given as goal

abbrev pub invariant-loop-p : goal.invariant-loop-p
invariant-loop-p l = (q : ℕ) → q < l.p → IsWriter l.program l.s (producer_of l.program l.s) q → ⊥
