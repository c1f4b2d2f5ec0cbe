use Rattle.std.proofs.Common.{◌≡◌, ℕ, ◌<◌, length, true, Some}
use Rattle.std.specs.Prelude.{slice_get}
use Rattle.net_core.proofs.drive.unmark.Given as goal

abbrev pub invariant-loop-x : goal.invariant-loop-x
invariant-loop-x l = record {
  len : length l.listed.items ≡ length l.fn.listed.items;
  unmarked : (x : ℕ) → slice_get l.listed.items x ≡ Some true → (slice_get l.fn.listed.items x ≡ Some true) × ((n : ℕ) → n < l.x → slice_get l.now.items n ≡ Some x → ⊥);
}
