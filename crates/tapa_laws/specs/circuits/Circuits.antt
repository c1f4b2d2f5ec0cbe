-- Circuits of programs beside memories that answer by what the circuit's outputs are in the same cycle and were in those before it.
use Rattle.std.specs.Prelude.{◌≡◌, ℕ, ◌^◌, ◌<◌, Bool, true, false, List, [], Some, slice_get}
use Rattle.tapa_base.specs.declared.shape.Port.{Port}
use Rattle.tapa_syntax.specs.declared.program.Program.{Program}
use Rattle.vlog_tree.specs.Form.{ModuleTree}
use Rattle.vlog_tree.specs.Labels.{m_we}
use Rattle.vlog_tree.specs.Cycle.{Cycle, Path}
use Rattle.vlog_tree.specs.Environment.{Environment, FitsShape, shape_of}
use Rattle.vlog_design.specs.Designs.{DesignTree}
use Rattle.vlog_run_laws.specs.Beside.{RunsBeside}
use Rattle.vlog_run_laws.specs.runs.OneRun.{FitsPowerUp, IsOnly}
use Rattle.circuit_meaning.specs.Carries.{Carries}
use Rattle.circuit_meaning.specs.Clock.{clock_of}
use Rattle.circuit_meaning.specs.Circuits.{IsCircuitOf}
use Rattle.tapa_laws.specs.circuits.Reactive.{Seen, outputs_of_top, IsCausal, IsReactiveRun}

-- Rules by which memories outside a top answer its outputs, by which they show the cell that is asked for, and by which they show other numbers. The
-- rules look at no later cycle, and no memory answers in reset. A memory shows the cell in each cycle in which it answers and nothing is stored. The
-- other numbers are of the memories' widths.
pub record AreMemoryRules (top : ModuleTree) (answers shows : Seen → ℕ → ℕ → Bool) (others : Seen → ℕ → ℕ → ℕ) : Type 0 where
  pub causal : IsCausal answers
  pub causal_shows : IsCausal shows
  pub causal_others : IsCausal others
  pub quiet : (h : Seen) (i : ℕ) → answers h i 0 ≡ false
  pub shown : (h : Seen) (i n : ℕ) (l : Port) → slice_get (shape_of top).memories i ≡ Some l → answers h i n ≡ true → h n (m_we l.name) ≡ 0 → shows h i n ≡ true
  pub width : (h : Seen) (i n : ℕ) (l : Port) → slice_get (shape_of top).memories i ≡ Some l → others h i n < 2 ^ l.bits

-- A circuit has exactly one run beside memories that answer by these rules. It is a run beside memories that show a cell in the cycles
-- in which they answer and nothing is stored. They answer in the cycles that the rule says for its outputs, and the circuit carries the
-- program's streams by these answers.
pub record RunsByRules (program : Program) (added : List ℕ) (design : DesignTree) (top : ModuleTree) (env : Environment)
    (answers shows : Seen → ℕ → ℕ → Bool) (others : Seen → ℕ → ℕ → ℕ) (contents : Path → Cycle) : Type 0 where
  pub one : IsOnly design.modules top (IsReactiveRun design.modules top env answers shows others contents)
  pub beside : (nets : ℕ → Path → Cycle) → IsReactiveRun design.modules top env answers shows others contents nets
      → RunsBeside design.modules top env (answers (outputs_of_top top (λ n. nets n []))) nets
  pub carries : (nets : ℕ → Path → Cycle) → IsReactiveRun design.modules top env answers shows others contents nets
      → Carries program env (clock_of program added (answers (outputs_of_top top (λ n. nets n [])))) nets

-- from each power-up, in each environment that fits
abbrev pub CircuitsRunByRules : Type 0
CircuitsRunByRules =
    (program : Program) (added : List ℕ) (design : DesignTree) (circuit : IsCircuitOf program added design)
    (env : Environment) (answers shows : Seen → ℕ → ℕ → Bool) (others : Seen → ℕ → ℕ → ℕ) (contents : Path → Cycle)
    → FitsShape env (shape_of circuit.top) → AreMemoryRules circuit.top answers shows others → FitsPowerUp design.modules circuit.top contents
    → RunsByRules program added design circuit.top env answers shows others contents
