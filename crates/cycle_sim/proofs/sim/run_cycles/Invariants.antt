use Rattle.std.proofs.Common.{◌≡◌}
use Rattle.vlog_design.specs.Environments.{lists_of}
use Rattle.cycle_sim.specs.Simulators.{sim_of}
use Rattle.cycle_sim.specs.Sims.{IsRunTo}
use Rattle.cycle_sim.proofs.sim.run_cycles.Given as goal

abbrev pub invariant-loop-cycle : goal.invariant-loop-cycle
invariant-loop-cycle l = ((sim_of l.sim).told.cycle ≡ l.cycle) × IsRunTo (sim_of l.fn.sim) (sim_of l.sim) (lists_of l.tokens.items)
