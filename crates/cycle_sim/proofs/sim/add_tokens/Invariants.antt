use Rattle.std.proofs.Common.{◌≡◌, ◌<◌, ◌≤◌, ℕ, [], get_or}
use Rattle.vlog_design.specs.Environments.{lists_of}
use Rattle.cycle_sim.specs.Sims.{IsAdded}
use Rattle.cycle_sim.specs.Simulators.{sim_of}
use Rattle.cycle_sim.proofs.sim.add_tokens.Given as goal

abbrev pub invariant-loop-i : goal.invariant-loop-i
invariant-loop-i l =
    ((j : ℕ) → j < l.i → IsAdded (sim_of l.sim) j (get_or (lists_of l.initial.tokens) j []) (get_or (lists_of l.tokens) j []))
    × ((j : ℕ) → l.i ≤ j → get_or (lists_of l.tokens) j [] ≡ get_or (lists_of l.initial.tokens) j [])
