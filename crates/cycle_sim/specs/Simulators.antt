-- What a simulator shows.
use Rattle.cycle_sim.specs.declared.parts.Parts.{Parts}
use Rattle.cycle_sim.specs.declared.parts.State.{State}
use Rattle.cycle_sim.specs.Sims.{SimTree}
use Rattle.cycle_sim.specs.Wholes.{sim_tree}

abbrev pub sim_of : Parts × State → SimTree
sim_of s = sim_tree s.0 s.1
