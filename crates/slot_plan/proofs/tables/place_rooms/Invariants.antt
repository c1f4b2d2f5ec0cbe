use Rattle.std.proofs.Common.{◌≡◌, ℕ, ◌+◌, ◌*◌, ◌<◌, length, get_or}
use Rattle.task_graph.specs.Streams.{amount_at}
use Rattle.slot_plan.proofs.tables.place_rooms.Given as goal

abbrev pub invariant-loop-y : goal.invariant-loop-y
invariant-loop-y l = record {
  long : length l.room.items ≡ l.y;
  value : (i k : ℕ) → i < l.y → amount_at l.room.items i k + amount_at l.pinned.used.items (get_or l.choice.places.items i 0) k * 100 ≡ amount_at l.device.slots.items (get_or l.choice.places.items i 0) k * l.device.percent;
}
