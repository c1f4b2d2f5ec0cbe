use Rattle.cycle_sim.proofs.Same.{told_same}
use Rattle.cycle_sim.proofs.laws.law_told_is_one.Goals as goal

pub returns : goal.returns
returns c = told_same
