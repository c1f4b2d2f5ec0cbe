use Rattle.std.proofs.Common.{[], subst}
use Rattle.std.specs.Prelude.{◌↔◌, IsTrue}
use Rattle.vlog_tree.specs.Environment.{RaisesDone}
use Rattle.cycle_sim.specs.declared.parts.Parts.{Parts}
use Rattle.cycle_sim.specs.declared.parts.State.{State}
use Rattle.cycle_sim.specs.Simulators.{sim_of}
use Rattle.cycle_sim.specs.Sims.{InRuns}
use Rattle.cycle_sim.proofs.simulator.Sim.done.Goals as goal

pub returns : goal.returns
returns c =
    subst (λ (z : Parts × State). InRuns (sim_of z) (λ m env nets. IsTrue c.is_done.result ↔ RaisesDone (λ n. nets n []) (sim_of z).told.cycle)) c.self.view_is c.is_done.ensures
