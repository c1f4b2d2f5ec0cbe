use Rattle.std.proofs.Common.{◌≡◌, ◌<◌, ◌≤◌, ℕ, true}
use Rattle.std.specs.Prelude.{slice_index}
use Rattle.task_graph.specs.Arcs.{inner}
use Rattle.tapa_tests.proofs.calls.are_latencies.Given as goal

abbrev pub invariant-loop-e : goal.invariant-loop-e
invariant-loop-e l = (j : ℕ) → j < l.e → (slice_index l.lat j ≤ 160) × (inner l.graph j ≡ true → slice_index l.lat j ≡ 0)
