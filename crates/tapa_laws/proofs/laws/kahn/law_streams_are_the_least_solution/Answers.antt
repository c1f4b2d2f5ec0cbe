use Rattle.tapa_laws.proofs.kahn.LeastSolution.{least_solution}
use Rattle.tapa_laws.proofs.laws.kahn.law_streams_are_the_least_solution.Goals as goal

pub returns : goal.returns
returns c = least_solution
