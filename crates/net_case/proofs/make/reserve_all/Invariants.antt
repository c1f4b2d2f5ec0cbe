use Rattle.std.proofs.Common.{◌≡◌, ℕ, ◌*◌, ◌<◌, ◌≤◌, length, Some}
use Rattle.std.specs.Prelude.{slice_get}
use Rattle.net_core.specs.declared.ports.Ports.{Ports}
use Rattle.net_core.specs.Ports.{space_at}
use Rattle.net_core.specs.Bindings.{stream_at, depth_of, Reads}
use Rattle.net_case.specs.Make.{HaveSameTokens}
use Rattle.net_case.proofs.make.reserve_all.Given as goal

abbrev pub invariant-loop-i : goal.invariant-loop-i
invariant-loop-i l = record {
  len : length l.all.items ≡ length l.fn.all.items;
  kept : (j : ℕ) (x y : Ports) → slice_get l.fn.all.items j ≡ Some x → slice_get l.all.items j ≡ Some y → HaveSameTokens x y;
  spaces : (j : ℕ) (x : Ports) → j < l.i → slice_get l.all.items j ≡ Some x → (p : ℕ) → Reads l.program j p → 2 * depth_of l.program (stream_at l.program j p) ≤ space_at x p;
}
