use Rattle.std.proofs.Common.{◌≡◌, ◌≤◌, length}
use Rattle.task_graph.specs.Reach.{AreFirstGroups}
use Rattle.task_graph.proofs.groups.grouped.Given as goal

abbrev pub invariant-loop : goal.invariant-loop
invariant-loop l = record {
  groups : AreFirstGroups l.rows l.groups;
  low : l.groups.count ≤ length l.groups.numbers.items;
  len : length l.groups.numbers.items ≡ l.counter;
}
