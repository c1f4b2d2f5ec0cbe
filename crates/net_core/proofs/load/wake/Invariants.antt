use Rattle.std.proofs.Common.{◌≡◌, ℕ, ◌<◌, length, Some}
use Rattle.std.specs.Prelude.{slice_get}
use Rattle.net_core.specs.Load.{IsIn, AreBelow, AreListed}
use Rattle.net_core.proofs.load.wake.Given as goal

abbrev pub invariant-loop-x : goal.invariant-loop-x
invariant-loop-x l = record {
  below : (m : ℕ) → AreBelow m l.near.items → AreBelow m l.fn.later.items → AreBelow m l.later.items;
  listed_len : length l.listed.items ≡ length l.fn.listed.items;
  listed : AreListed l.listed.items l.later.items;
  kept : (x : ℕ) → IsIn x l.fn.later.items → IsIn x l.later.items;
  woken : (n x : ℕ) → n < l.x → slice_get l.near.items n ≡ Some x → IsIn x l.later.items;
}
