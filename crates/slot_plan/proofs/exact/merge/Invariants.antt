use Rattle.std.proofs.Common.{◌≡◌, ℕ, ◌<◌, length, get_or}
use Rattle.slot_plan.proofs.exact.merge.Given as goal

abbrev pub invariant-loop-j : goal.invariant-loop-j
invariant-loop-j l = record {
  long : length l.slots.items ≡ length l.fn.slots.items;
  written : (i : ℕ) → i < l.j → get_or l.slots.items (get_or l.choice.items.items i 0) 0 ≡ get_or l.choice.places.items (get_or l.best.places.items i 0) 0;
  others : (v : ℕ) → ((i : ℕ) → i < length l.choice.items.items → get_or l.choice.items.items i 0 ≡ v → ⊥) → get_or l.slots.items v 0 ≡ get_or l.fn.slots.items v 0;
}
