use Rattle.std.proofs.Common.{◌≡◌, ◌<◌, ◌≤◌, ℕ, length, get_or, take, ◌++◌}
use Rattle.vlog_tree.specs.Form.{ModuleTree}
use Rattle.vlog_design.specs.Designs.{TopOf}
use Rattle.cycle_sim.specs.Simulators.{sim_of}
use Rattle.sim_output.specs.Dumped.{nets_of, widths_of}
use Rattle.sim_output.specs.Turns.{told_at, Fit, turn_lines}
use Rattle.sim_output.proofs.dump_changes.push_changes.Given as goal

abbrev pub invariant-loop-net : goal.invariant-loop-net
invariant-loop-net l = record {
  count : length l.values.items ≡ length l.fn.values.items;
  later : (k : ℕ) → l.net ≤ k → get_or l.values.items k 0 ≡ get_or l.fn.values.items k 0;
  kept : (m : ModuleTree) → TopOf (sim_of l.sim).design m → l.widths ≡ widths_of (nets_of m) → (k : ℕ) → k < l.net → get_or l.values.items k 0 ≡ told_at (sim_of l.sim) m k;
  lines : (m : ModuleTree) → TopOf (sim_of l.sim).design m → l.widths ≡ widths_of (nets_of m) → Fit m (told_at (sim_of l.sim) m)
      → l.text.items ≡ l.fn.text.items ++ turn_lines l.first l.fn.values.items (told_at (sim_of l.sim) m) (take l.net (nets_of m));
}
