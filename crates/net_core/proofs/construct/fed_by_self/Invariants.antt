use Rattle.std.proofs.Common.{◌≡◌, ℕ, ◌<◌, Bool, length, Some}
use Rattle.std.specs.Prelude.{slice_get}
use Rattle.net_core.specs.Bindings.{TellsFedBySelf}
use Rattle.net_core.proofs.construct.fed_by_self.Given as goal

abbrev pub invariant-loop-i : goal.invariant-loop-i
invariant-loop-i l = record {
  len : length l.all.items ≡ l.i;
  each : (i : ℕ) (b : Bool) → i < length l.all.items → slice_get l.all.items i ≡ Some b → TellsFedBySelf l.program i b;
}
