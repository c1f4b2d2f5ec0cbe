use Rattle.std.proofs.Common.{◌≡◌, ◌≤◌, ◌+◌, ◌++◌, ℕ, [], length}
use Rattle.std.specs.Io.KnownBytes.{Appends}
use Rattle.tapa_base.specs.Gaps.{Bytes}
use Rattle.vlog_tree.specs.Form.{ModuleTree}
use Rattle.vlog_design.specs.Designs.{TopOf}
use Rattle.cycle_sim.specs.Simulators.{sim_of}
use Rattle.cycle_sim.specs.Sims.{InRuns, IsLater}
use Rattle.sim_output.specs.Dumped.{nets_of, widths_of, dump_of}
use Rattle.sim_output.specs.Turns.{told_at, IsKept}
use Rattle.sim_output.proofs.Going.{IsGoing}
use Rattle.sim_output.proofs.dump_write.write_vcd.Given as goal

abbrev pub invariant-loop-cycle : goal.invariant-loop-cycle
invariant-loop-cycle g l = record {
  later : IsLater (sim_of l.fn.sim) (sim_of l.sim) l.cycle;
  count : length l.values.items ≡ length l.widths.items;
  kept : (m : ModuleTree) → TopOf (sim_of l.fn.sim).design m → IsKept m (told_at (sim_of l.sim) m) l.values.items;
  going : InRuns (sim_of l.fn.sim) (λ m env nets. IsGoing (λ n. nets n []) (l.cycle + 1));
  written : InRuns (sim_of l.fn.sim) (λ m env nets. (front : Bytes) × Appends (g.O.Sink.contents l.fn.out) (g.O.Sink.contents l.out) front × (dump_of m (λ n. nets n []) l.cycle ≡ front ++ l.text.items));
  calm : g.O.Sink.faults l.fn.out ≤ g.O.Sink.faults l.out;
}
