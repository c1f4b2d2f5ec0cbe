use Rattle.std.proofs.Common.{◌≡◌, ◌≤◌, ◌*◌, ◌&&◌, max, min, nat_le, nat_lt, if◌then◌else◌}
use Rattle.std.specs.Prelude.{slice_index}
use Rattle.task_graph.specs.Arcs.{total}
use Rattle.plan_report.proofs.borders.crossed.Given as goal

abbrev pub invariant-loop-border : goal.invariant-loop-border
invariant-loop-border l = record {
  value : l.sum ≡ total l.border (λ border. if nat_le (min l.a l.b) border && nat_lt border (max l.a l.b) then slice_index l.levels border else 0);
  small : l.sum ≤ 16 * l.border;
}
