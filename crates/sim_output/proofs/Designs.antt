-- A design's one run and its dump.
use Rattle.std.proofs.Common.{◌≡◌, ℕ, List, [], Option, refl, sym, subst}
use Rattle.std.specs.Io.KnownBytes.{Appends}
use Rattle.tapa_files.specs.Outside.{AppendsPart}
use Rattle.vlog_tree.specs.Form.{ModuleTree}
use Rattle.vlog_tree.specs.Cycle.{Cycle, Path}
use Rattle.vlog_tree.specs.Environment.{Environment, FitsShape, shape_of}
use Rattle.vlog_tree.specs.Refused.{IsDesign}
use Rattle.vlog_design.specs.Designs.{DesignTree, TopOf}
use Rattle.cycle_sim.specs.Sims.{SimTree, InRuns, IsNewSim, IsDoneAt, last_cycle}
use Rattle.sim_output.specs.Ending.{EndsSo, HasFront, end_of}
use Rattle.sim_output.proofs.Simulating.{contents, zeros, only, of_run, ends}
use Rattle.sim_output.specs.Dumped.{dump_of, IsDumped}
use Rattle.sim_output.proofs.Going.{some_done_at}
use Rattle.sim_output.proofs.Writing.{IsPartWritten}

module _ (design : DesignTree) (env : Environment) (limit : ℕ) (top : ModuleTree) (is_top : TopOf design top) (is_design : IsDesign design.modules design.top) (fits : FitsShape env (shape_of top)) (first : SimTree) (is_first : IsNewSim design env 0 first) where
  abbrev nets : ℕ → Path → Cycle
  nets = (only design env limit top is_top is_design fits).run

  abbrev run : ℕ → Cycle
  run n = nets n []

  -- what holds of each run that the simulator tells of holds of the run
  here : (P : ModuleTree → Environment → (ℕ → Path → Cycle) → Type 0) → InRuns first P → P top env nets
  here P h = of_run design env limit top is_top is_design fits first is_first P h

  dumped : (at : Option ℕ) → IsDoneAt run limit at → IsDumped design env limit at (dump_of top run (last_cycle limit at))
  dumped at done = record {
    top = top;
    is_top = is_top;
    contents = contents design env limit top is_top is_design fits;
    zeros = zeros design env limit top is_top is_design fits;
    nets = nets;
    run = (only design env limit top is_top is_design fits).is;
    done = done;
    shown = refl;
  }

  -- the whole dump was written
  pub ended_so : (old new : Option (List ℕ)) (at : Option ℕ) → InRuns first (λ m env nets. IsDoneAt (λ n. nets n []) limit at) → InRuns first (λ m env nets. Appends old new (dump_of m (λ n. nets n []) (last_cycle limit at))) → EndsSo IsDumped design env limit old new (end_of at)
  ended_so old new at done whole =
      ends IsDumped design env limit old new at (dump_of top run (last_cycle limit at)) (dumped at (here (λ m env nets. IsDoneAt (λ n. nets n []) limit at) done)) (here (λ m env nets. Appends old new (dump_of m (λ n. nets n []) (last_cycle limit at))) whole)

  -- or a front of it
  pub has_front : (old new : Option (List ℕ)) → IsPartWritten first limit old new → HasFront IsDumped design env limit old new
  has_front old new part =
      let at = some_done_at run limit in
      (at.0, dump_of top run (last_cycle limit at.0), dumped at.0 at.1, here (λ m env nets. (at : Option ℕ) → IsDoneAt (λ n. nets n []) limit at → AppendsPart old new (dump_of m (λ n. nets n []) (last_cycle limit at))) part at.0 at.1)
