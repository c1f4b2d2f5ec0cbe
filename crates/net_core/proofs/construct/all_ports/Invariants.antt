use Rattle.std.proofs.Common.{◌≡◌, ℕ, ◌<◌, [], length}
use Rattle.net_core.specs.Ports.{ends_in, carried_of, waiting_of}
use Rattle.net_core.specs.Bindings.{ends_at}
use Rattle.net_core.proofs.construct.all_ports.Given as goal

abbrev pub invariant-loop-i : goal.invariant-loop-i
invariant-loop-i l = record {
  len : length l.all.items ≡ l.i;
  ends : (i : ℕ) → i < l.i → ends_in l.all.items i ≡ ends_at l.program i;
  none : (i p : ℕ) → carried_of l.all.items i p ≡ [];
  none_wait : (i p : ℕ) → waiting_of l.all.items i p ≡ [];
}
