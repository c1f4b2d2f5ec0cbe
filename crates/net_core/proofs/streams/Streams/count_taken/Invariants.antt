use Rattle.std.proofs.Common.{◌≡◌, ℕ, ◌-◌, ◌<◌, length}
use Rattle.std.specs.Prelude.{slice_index}
use Rattle.net_core.specs.Ports.{waiting_of}
use Rattle.net_core.specs.Bindings.{stream_at, Reads}
use Rattle.net_core.specs.Load.{ChangesTaken}
use Rattle.net_core.proofs.streams.Streams.count_taken.Given as goal

abbrev pub invariant-loop-p : goal.invariant-loop-p
invariant-loop-p l = record {
  same : ChangesTaken l.fn.self l.self;
  took : (p : ℕ) → p < l.p → Reads l.program l.i p → slice_index l.self.taken.items (stream_at l.program l.i p) ≡ slice_index l.fn.self.offered.items (stream_at l.program l.i p) - length (waiting_of l.fn.self.ports.items l.i p);
  others : (s : ℕ) → ((p : ℕ) → Reads l.program l.i p → stream_at l.program l.i p ≡ s → ⊥) → slice_index l.self.taken.items s ≡ slice_index l.fn.self.taken.items s;
}
