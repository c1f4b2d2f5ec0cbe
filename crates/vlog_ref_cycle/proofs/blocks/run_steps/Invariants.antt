use Rattle.std.proofs.Common.{◌≡◌, [], drop}
use Rattle.std.specs.List.{flat_map}
use Rattle.std.specs.Prelude.{reverse}
use Rattle.vlog_tree.specs.Cycle.{Cycle, Sizes, run_steps}
use Rattle.vlog_ref_cycle.specs.Next.{step_nets, ReadsAre, Fits, Shows, IsAlike}
use Rattle.vlog_ref_cycle.proofs.blocks.run_steps.Given as goal

abbrev pub invariant-loop-step : goal.invariant-loop-step
invariant-loop-step l = record {
  alike : IsAlike l.fn.after l.after;
  value : (s : Sizes) (old : Cycle) (next : Cycle) → ReadsAre l.nets old (flat_map step_nets l.steps) → Fits s l.fn.after → Shows l.fn.after next
      → (now : Cycle) × Shows l.after now × (run_steps s old [] l.steps next ≡ run_steps s old (reverse l.on.items) (drop l.step-index l.steps) now);
}
