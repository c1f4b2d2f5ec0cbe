use Rattle.tapa_laws.proofs.plans.OneGraph.{one_graph}
use Rattle.tapa_laws.proofs.plans.OnePlan.{one_source_graph}
use Rattle.tapa_laws.proofs.laws.plans.law_one_graph.Goals as goal

pub returns : goal.returns
returns c = record { program = one_graph; source = one_source_graph }
