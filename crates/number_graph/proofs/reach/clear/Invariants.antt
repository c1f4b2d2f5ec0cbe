use Rattle.std.proofs.Common.{◌≡◌, ℕ, length, get_or, drop, true, false}
use Rattle.tapa_base.specs.Lists.{Has}
use Rattle.number_graph.proofs.reach.clear.Given as goal

abbrev pub invariant-loop-number : goal.invariant-loop-number
invariant-loop-number l = record {
  len : length l.marks.items ≡ length l.fn.marks.items;
  left : (k : ℕ) → get_or l.marks.items k false ≡ true → Has (drop l.number-index l.found) k;
}
