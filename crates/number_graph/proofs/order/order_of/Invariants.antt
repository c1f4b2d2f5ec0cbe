use Rattle.std.proofs.Common.{◌≡◌, ◌<◌, ℕ, length, get_or}
use Rattle.number_graph.specs.Orders.{IsVisitOf}
use Rattle.number_graph.proofs.order.order_of.Given as goal

abbrev pub invariant-loop-root : goal.invariant-loop-root
invariant-loop-root l = record {
  visit : IsVisitOf l.graph l.visit;
  empty : length l.visit.path.items ≡ 0;
  begun : (j : ℕ) → j < l.root → 0 < get_or l.visit.progress.items j 0;
}
