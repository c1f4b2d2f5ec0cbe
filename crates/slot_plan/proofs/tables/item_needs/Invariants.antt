use Rattle.std.proofs.Common.{◌≡◌, ℕ, ◌*◌, ◌^◌, ◌<◌, length, get_or}
use Rattle.task_graph.specs.Streams.{amount_at}
use Rattle.slot_plan.proofs.tables.item_needs.Given as goal

abbrev pub invariant-loop-j : goal.invariant-loop-j
invariant-loop-j l = record {
  long : length l.scaled.items ≡ l.j;
  value : (i k : ℕ) → i < l.j → amount_at l.scaled.items i k ≡ amount_at l.needs (get_or l.choice.items.items i 0) k * 100;
  small : (i k : ℕ) → amount_at l.scaled.items i k < 2 ^ 56;
}
