use Rattle.sim_pass.specs.Marks.{ListsGiven}
use Rattle.sim_pass.proofs.given.given_of.Given as goal

abbrev pub invariant-loop-at : goal.invariant-loop-at
invariant-loop-at l = ListsGiven l.gates l.at l.listed.items
