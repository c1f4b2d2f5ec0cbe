use Rattle.std.proofs.Common.{◌≡◌, ℕ, ◌<◌, length}
use Rattle.std.specs.Prelude.{slice_index}
use Rattle.net_core.specs.Bindings.{producer_of, IsWriter}
use Rattle.net_core.proofs.construct.writers.Given as goal

abbrev pub invariant-loop-s : goal.invariant-loop-s
invariant-loop-s l = record {
  len : length l.all.items ≡ l.s;
  writes : (s : ℕ) → s < l.s → IsWriter l.program s (producer_of l.program s) (slice_index l.all.items s);
}
