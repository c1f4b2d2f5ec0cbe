use Rattle.std.proofs.Common.{◌≡◌, ◌≤◌, ◌*◌}
use Rattle.task_graph.specs.Arcs.{total}
use Rattle.slot_plan.specs.Plan.{link_cost}
use Rattle.slot_plan.proofs.totals.cost_of.Given as goal

abbrev pub invariant-loop-e : goal.invariant-loop-e
invariant-loop-e l = record {
  value : l.sum ≡ total l.e (link_cost l.graph l.device l.slots);
  small : l.sum ≤ l.e * 2600;
}
