use Rattle.std.proofs.Common.{◌≡◌, ℕ, [], get_or, length}
use Rattle.vlog_design.specs.Environments.{lists_of}
use Rattle.cycle_sim.proofs.sim.no_tokens.Given as goal

abbrev pub invariant-loop-i : goal.invariant-loop-i
invariant-loop-i l = (length l.tokens.items ≡ l.i) × ((i : ℕ) → get_or (lists_of l.tokens.items) i [] ≡ [])
