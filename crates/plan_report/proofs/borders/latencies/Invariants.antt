use Rattle.std.proofs.Common.{◌≡◌, ℕ, ◌<◌, ◌≤◌, length, get_or}
use Rattle.std.specs.Prelude.{slice_index}
use Rattle.task_graph.specs.Arcs.{tail, head}
use Rattle.plan_report.specs.Borders.{border_latency}
use Rattle.plan_report.proofs.borders.latencies.Given as goal

abbrev pub invariant-loop-e : goal.invariant-loop-e
invariant-loop-e l = record {
  long : length l.lat.items ≡ l.e;
  value : (d : ℕ) → d < l.e → get_or l.lat.items d 0 ≡ border_latency l.device (slice_index l.plan.slot.items (tail l.graph d)) (slice_index l.plan.slot.items (head l.graph d));
  low : (d : ℕ) → get_or l.lat.items d 0 ≤ 160;
}
