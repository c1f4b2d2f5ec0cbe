use Rattle.number_graph.specs.Visits.{IsFurther}
use Rattle.number_graph.specs.Orders.{IsVisitOf, left_of}
use Rattle.number_graph.proofs.order.end_path.Given as goal

abbrev pub invariant-loop-node : goal.invariant-loop-node
invariant-loop-node l = record {
  visit : IsVisitOf l.graph l.visit;
  further : IsFurther l.fn.visit.progress.items l.visit.progress.items;
}

abbrev pub decreases-loop-node : goal.decreases-loop-node
decreases-loop-node l = left_of l.graph l.visit
