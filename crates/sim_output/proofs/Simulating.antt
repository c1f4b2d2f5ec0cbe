-- What a simulator tells of a design's one run is the report of that run.
use Rattle.std.proofs.Common.{◌≡◌, ℕ, suc, ◌+◌, List, [], ◌∷◌, ◌++◌, Option, Some, None, refl, sym, ap, subst, ◌∙◌, arith, add-zero, zero-add}
use Rattle.std.specs.Prelude.{Vec, slice_get, slice_index_or}
use Rattle.std.specs.Io.KnownBytes.{Appends}
use Rattle.std.specs.declared.alloc.Global.{Global}
use Rattle.tapa_base.specs.declared.shape.Port.{Port}
use Rattle.tapa_base.specs.declared.token.Token.{Token}
use Rattle.run_data.specs.declared.lines.Last.{Last}
use Rattle.run_data.specs.Report.{stream_line, memory_line, last_line}
use Rattle.run_data.specs.Lines.{lines_from}
use Rattle.vlog_tree.specs.Form.{ModuleTree}
use Rattle.vlog_tree.specs.Cycle.{Cycle, Path}
use Rattle.vlog_tree.specs.Environment.{Environment, FitsShape, shape_of, streams_of, tokens, cells_at, RunsIn}
use Rattle.vlog_tree.specs.Refused.{IsDesign}
use Rattle.tapa_base.proofs.Lists.{has_got}
use Rattle.vlog_design.specs.Designs.{DesignTree, TopOf}
use Rattle.vlog_run_laws.specs.runs.Filled.{IsFilled, filled}
use Rattle.vlog_run_laws.specs.runs.OneRun.{FitsPowerUp, IsRunFrom, IsOnly}
use Rattle.vlog_run_laws.proofs.runs.Filled as fill
use Rattle.vlog_run_laws.proofs.runs.Surround.{one_run_from}
use Rattle.vlog_design.specs.Environments.{lists_of}
use Rattle.cycle_sim.specs.Told.{IsToldOf}
use Rattle.cycle_sim.specs.Sims.{SimTree, InRuns, IsNewSim, IsLater, IsDoneAt, last_cycle}
use Rattle.sim_output.specs.Ending.{Telling, EndsSo, end_of}
use Rattle.sim_output.specs.Reports.{stream_lines, memory_lines, streams_to, memories_at, last_of, IsSimulated}

-- lines that are the same one by one
lines_same : {A : Type 0} (f g : A → ℕ → List ℕ) (n : ℕ) (xs : List A) → ((i : ℕ) (x : A) → slice_get xs i ≡ Some x → f x (n + i) ≡ g x (n + i)) → lines_from f n xs ≡ lines_from g n xs
lines_same f g n [] h = refl
lines_same {A} f g n (x ∷ xs) h =
    let first : f x n ≡ g x n = subst (λ (m : ℕ). f x m ≡ g x m) (add-zero n) (h 0 x refl) in
    let rest : lines_from f (suc n) xs ≡ lines_from g (suc n) xs =
    lines_same f g (suc n) xs (λ i y at. let next : n + suc i ≡ suc n + i = omega arith in subst (λ (m : ℕ). f y m ≡ g y m) next (h (suc i) y at)) in
    ap (λ (l : List ℕ). l ++ lines_from f (suc n) xs) first ∙ ap (λ (l : List ℕ). g x n ++ l) rest

pub first_same : {A : Type 0} (f g : A → ℕ → List ℕ) (xs : List A) → ((i : ℕ) (x : A) → slice_get xs i ≡ Some x → f x i ≡ g x i) → lines_from f 0 xs ≡ lines_from g 0 xs
first_same f g xs h = lines_same f g 0 xs (λ i x at. subst (λ (m : ℕ). f x m ≡ g x m) (sym (zero-add i)) (h i x at))

module _ (design : DesignTree) (env : Environment) (limit : ℕ) (top : ModuleTree) (is_top : TopOf design top) (is_design : IsDesign design.modules design.top) (fits : FitsShape env (shape_of top)) where
  abbrev pub contents : Path → Cycle
  contents = filled design.modules top 0

  pub zeros : IsFilled design.modules top 0 contents
  zeros = fill.is_filled design.modules top 0 is_design.sound (has_got design.modules design.top top is_top)

  power_up : FitsPowerUp design.modules top contents
  power_up = fill.fits design.modules top 0 contents zeros

  pub only : IsOnly design.modules top (IsRunFrom design.modules top env contents)
  only = one_run_from design.modules design.top top is_design is_top env contents power_up

  abbrev pub nets : ℕ → Path → Cycle
  nets = only.run

  module _ (first : SimTree) (is_first : IsNewSim design env 0 first) where
    -- what holds of each run that the simulator tells of holds of the run
    pub of_run : (P : ModuleTree → Environment → (ℕ → Path → Cycle) → Type 0) → InRuns first P → P top env nets
    of_run P h =
        let told : IsToldOf design.modules top env nets first.told = is_first.told top is_top fits contents nets zeros only.is in
        h top env nets (subst (λ (d : DesignTree). TopOf d top) (sym is_first.same) is_top) fits (sym is_first.ready)
        (subst (λ (d : DesignTree). RunsIn d.modules top env nets) (sym is_first.same) only.is.runs_in)
        (subst (λ (d : DesignTree). IsToldOf d.modules top env nets first.told) (sym is_first.same) told)

    module _ (later : SimTree) (done_at : Option ℕ) (carried : List (Vec Token Global)) (done : InRuns first (λ m env nets. IsDoneAt (λ n. nets n []) limit done_at)) (are_carried : InRuns first (λ m env nets. (place : ℕ) (l : Port) → slice_get (streams_of m) place ≡ Some l → tokens l.bits (λ n. nets n []) l.name (last_cycle limit done_at) ≡ slice_index_or (lists_of carried) place [])) (is_later : IsLater first later (last_cycle limit done_at)) (streams memories : List Port) (are_streams : streams ≡ streams_of top) (are_memories : memories ≡ (shape_of top).memories) where
      abbrev by_place : ℕ → List Token
      by_place i = slice_index_or (lists_of carried) i []

      abbrev run : ℕ → Cycle
      run n = nets n []

      abbrev last : ℕ
      last = last_cycle limit done_at

      streams_are : stream_lines by_place streams ≡ streams_to top run last
      streams_are =
          ap (λ (l : List Port). stream_lines by_place l) are_streams
          ∙ first_same (λ (l : Port) i. stream_line l.name (by_place i)) (λ (l : Port) i. stream_line l.name (tokens l.bits run l.name last)) (streams_of top)
          (λ i l at. ap (λ (ts : List Token). stream_line l.name ts)
          (sym (of_run (λ m env nets. (place : ℕ) (l : Port) → slice_get (streams_of m) place ≡ Some l → tokens l.bits (λ n. nets n []) l.name (last_cycle limit done_at) ≡ slice_index_or (lists_of carried) place []) are_carried i l at)))

      told_later : IsToldOf first.design.modules top env nets later.told
      told_later = of_run (λ m env nets. IsToldOf first.design.modules m env nets later.told) is_later.told

      cells_are : (i : ℕ) (l : Port) → slice_get (shape_of top).memories i ≡ Some l → later.told.outside i ≡ cells_at run l.name (slice_index_or env.memories i []) last
      cells_are i l at = told_later.outside i l at ∙ ap (λ (n : ℕ). cells_at run l.name (slice_index_or env.memories i []) n) is_later.at

      memories_are : memory_lines later.told.outside memories ≡ memories_at top env run last
      memories_are =
          ap (λ (l : List Port). memory_lines later.told.outside l) are_memories
          ∙ first_same (λ (l : Port) i. memory_line l.name (later.told.outside i)) (λ (l : Port) i. memory_line l.name (cells_at run l.name (slice_index_or env.memories i []) last)) (shape_of top).memories
          (λ i l at. ap (λ (cells : List ℕ). memory_line l.name cells) (cells_are i l at))

      pub simulated : IsSimulated design env limit done_at ((stream_lines by_place streams ++ memory_lines later.told.outside memories) ++ last_line (last_of limit done_at))
      simulated = record {
        top = top;
        is_top = is_top;
        contents = contents;
        zeros = zeros;
        nets = nets;
        run = only.is;
        done = of_run (λ m env nets. IsDoneAt (λ n. nets n []) limit done_at) done;
        shown = ap (λ (l : List ℕ). (l ++ memory_lines later.told.outside memories) ++ last_line (last_of limit done_at)) streams_are
            ∙ ap (λ (l : List ℕ). (streams_to top run last ++ l) ++ last_line (last_of limit done_at)) memories_are;
      }

      -- the same of lists that are these, and of the last line
      pub simulated_so : (shown : List (Vec Token Global)) (last_one : Last) → shown ≡ carried → last_one ≡ last_of limit done_at
          → IsSimulated design env limit done_at ((stream_lines (λ i. slice_index_or (lists_of shown) i []) streams ++ memory_lines later.told.outside memories) ++ last_line last_one)
      simulated_so shown last_one same is_last =
          subst (λ (vs : List (Vec Token Global)). IsSimulated design env limit done_at ((stream_lines (λ i. slice_index_or (lists_of vs) i []) streams ++ memory_lines later.told.outside memories) ++ last_line last_one)) (sym same)
          (subst (λ (l : Last). IsSimulated design env limit done_at ((stream_lines by_place streams ++ memory_lines later.told.outside memories) ++ last_line l)) (sym is_last) simulated)

-- what is told was written whole
pub ends : (Told : Telling) (design : DesignTree) (env : Environment) (limit : ℕ) (old new : Option (List ℕ)) (done_at : Option ℕ) (text : List ℕ) → Told design env limit done_at text → Appends old new text → EndsSo Told design env limit old new (end_of done_at)
ends Told design env limit old new None text is shown = (text, is, shown)
ends Told design env limit old new (Some at) text is shown = (at, text, is, shown)
