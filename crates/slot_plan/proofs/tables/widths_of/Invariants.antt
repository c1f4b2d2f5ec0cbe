use Rattle.std.proofs.Common.{◌≡◌, ℕ, ◌+◌, ◌*◌, ◌≤◌, length, get_or}
use Rattle.task_graph.specs.Arcs.{tail, head, width, total}
use Rattle.slot_plan.specs.Merging.{one}
use Rattle.slot_plan.proofs.tables.widths_of.Given as goal

abbrev pub invariant-loop-e : goal.invariant-loop-e
invariant-loop-e l = record {
  long : length l.widths.items ≡ l.graph.groups;
  value : (u : ℕ) → get_or l.widths.items u 0 ≡ total l.e (λ e. (one l.group (tail l.graph e) * one u (head l.graph e) + one u (tail l.graph e) * one l.group (head l.graph e)) * width l.graph e);
  low : (u : ℕ) → get_or l.widths.items u 0 ≤ l.e * 130;
}
