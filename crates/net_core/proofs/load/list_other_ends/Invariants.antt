use Rattle.std.proofs.Common.{◌≡◌, ℕ, ◌<◌, length}
use Rattle.net_core.specs.Load.{IsIn, AreBelow, AreListed, AreWoken}
use Rattle.net_core.proofs.load.list_other_ends.Given as goal

abbrev pub invariant-loop-p : goal.invariant-loop-p
invariant-loop-p l = record {
  below : AreBelow (length l.program.instances.items) l.later.items;
  listed_len : length l.listed.items ≡ length l.fn.listed.items;
  listed : AreListed l.listed.items l.later.items;
  kept : (x : ℕ) → IsIn x l.fn.later.items → IsIn x l.later.items;
  woken : (p : ℕ) → p < l.p → AreWoken l.program l.i p l.later.items;
}
