use Rattle.std.proofs.Common.{◌≡◌, ℕ, ◌≤◌, length, get_or}
use Rattle.latency_balance.specs.Paths.{AreInside}
use Rattle.latency_balance.proofs.exits.exits_of.Given as goal

abbrev pub invariant-loop-group : goal.invariant-loop-group
invariant-loop-group l = record {
  inside : AreInside l.graph l.moves.items;
  long : length l.first.items ≡ l.group;
  ends : (v : ℕ) → get_or l.first.items v 0 ≤ length l.moves.items;
}
