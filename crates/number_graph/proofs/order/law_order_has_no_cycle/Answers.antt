use Rattle.number_graph.proofs.Visits.{no_cycle}
use Rattle.number_graph.proofs.order.law_order_has_no_cycle.Goals as goal

pub returns : goal.returns
returns c = λ g order o k h. no_cycle g order o k h
