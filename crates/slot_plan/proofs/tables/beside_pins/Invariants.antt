use Rattle.std.proofs.Common.{◌≡◌, ◌+◌, ◌*◌, ◌≤◌, get_or}
use Rattle.task_graph.specs.Arcs.{tail, head, width, total}
use Rattle.slot_plan.specs.Merging.{one, pin}
use Rattle.slot_plan.specs.Plan.{distance}
use Rattle.slot_plan.proofs.tables.beside_pins.Given as goal

abbrev pub invariant-loop-e : goal.invariant-loop-e
invariant-loop-e l = record {
  value : l.sum ≡ total l.e (λ e.
      (one l.spot.group (tail l.graph e) * pin l.device (head l.graph e) * distance l.device l.spot.slot (get_or l.pinned.slots.items (head l.graph e) 0)
      + one l.spot.group (head l.graph e) * pin l.device (tail l.graph e) * distance l.device l.spot.slot (get_or l.pinned.slots.items (tail l.graph e) 0))
      * width l.graph e);
  low : l.sum ≤ l.e * 5200;
}
