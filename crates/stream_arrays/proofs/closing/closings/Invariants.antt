use Rattle.std.proofs.Common.{◌≡◌, ◌≤◌, ℕ, suc, Some, drop, length}
use Rattle.std.specs.Prelude.{slice_get}
use Rattle.stream_arrays.specs.Forms.{inside_size}
use Rattle.stream_arrays.proofs.closing.closings.Given as goal

abbrev pub invariant-loop-at : goal.invariant-loop-at
invariant-loop-at l = record {
  size : length l.table.items ≡ suc (length l.lexemes);
  within : l.at ≤ length l.lexemes;
  known : (i : ℕ) → l.at ≤ i → i ≤ length l.lexemes → slice_get l.table.items i ≡ Some (inside_size l.text 0 (drop i l.lexemes));
}

abbrev pub decreases-loop-at : goal.decreases-loop-at
decreases-loop-at l = l.at
