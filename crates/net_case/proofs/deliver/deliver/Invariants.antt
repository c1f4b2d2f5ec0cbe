use Rattle.std.proofs.Common.{◌≡◌, ℕ, ◌<◌}
use Rattle.std.specs.Prelude.{slice_index}
use Rattle.net_core.specs.Ports.{carried}
use Rattle.net_core.specs.Bindings.{stream_at, Reads}
use Rattle.net_case.specs.Deliver.{AreInOrder, IsDelivered}
use Rattle.net_case.proofs.deliver.deliver.Given as goal

abbrev pub invariant-loop-p : goal.invariant-loop-p
invariant-loop-p l = record {
  order : AreInOrder l.program l.i l.queues.items l.taken.items l.offered.items l.ports l.limits.items;
  delivered : (q : ℕ) → q < l.p → IsDelivered l.program l.i q l.queues.items l.taken.items l.offered.items l.ports l.limits.items;
  carries : (q : ℕ) → carried l.ports q ≡ carried l.fn.ports q;
  others : (s : ℕ) → ((q : ℕ) → Reads l.program l.i q → stream_at l.program l.i q ≡ s → ⊥) → slice_index l.offered.items s ≡ slice_index l.fn.offered.items s;
}
