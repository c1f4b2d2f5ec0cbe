-- What is told of a cycle is what the one run has.
use Rattle.std.proofs.Common.{◌≡◌, ℕ, List, [], Some, sym, ap, ◌∙◌}
use Rattle.std.specs.Prelude.{slice_get, slice_index_or}
use Rattle.vlog_tree.specs.Form.{ModuleTree}
use Rattle.vlog_tree.specs.Cycle.{Cycle, Path}
use Rattle.vlog_tree.specs.Environment.{Environment, cells_at}
use Rattle.vlog_tree.specs.Refused.{IsDesign}
use Rattle.tapa_base.proofs.Lists.{has_got}
use Rattle.vlog_run_laws.specs.runs.OneRun.{IsRunFrom, IsOnly}
use Rattle.vlog_run_laws.specs.runs.Filled.{IsFilled, filled}
use Rattle.vlog_run_laws.proofs.runs.Filled.{fits, is_filled}
use Rattle.vlog_run_laws.proofs.runs.Surround.{one_run_from}
use Rattle.cycle_sim.specs.Told.{TellTree, IsToldOf, TellsEachRun, IsSameTold}

pub told_same : (ms : List ModuleTree) (place : ℕ) (top : ModuleTree) (env : Environment) (fill : ℕ) (s t : TellTree)
    → IsDesign ms place → slice_get ms place ≡ Some top → TellsEachRun ms top env fill s → TellsEachRun ms top env fill t → s.cycle ≡ t.cycle → IsSameTold ms top s t
told_same ms place top env fill s t d at hs ht same =
    let contents : Path → Cycle = filled ms top fill in
    let f : IsFilled ms top fill contents = is_filled ms top fill d.sound (has_got ms place top at) in
    let one : IsOnly ms top (IsRunFrom ms top env contents) = one_run_from ms place top d at env contents (fits ms top fill contents f) in
    let a : IsToldOf ms top env one.run s = hs contents one.run f one.is in
    let b : IsToldOf ms top env one.run t = ht contents one.run f one.is in
    record {
      numbers = λ path m x here read clock. a.numbers path m x here read clock ∙ ap (λ k. (one.run k path).net x) same ∙ sym (b.numbers path m x here read clock);
      cells = λ path m w x k n here has low. a.cells path m w x k n here has low ∙ ap (λ c. (one.run c path).cell x n) same ∙ sym (b.cells path m w x k n here has low);
      outside = λ i l got. a.outside i l got ∙ ap (λ c. cells_at (λ n. one.run n []) l.name (slice_index_or env.memories i []) c) same ∙ sym (b.outside i l got);
    }
