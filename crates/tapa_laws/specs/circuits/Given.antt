-- What the text of a circuit gives in each of its runs.
use Rattle.std.specs.Prelude.{ℕ, Bool, List, []}
use Rattle.tapa_syntax.specs.declared.program.Program.{Program}
use Rattle.vlog_tree.specs.Cycle.{Cycle, Path}
use Rattle.vlog_tree.specs.Environment.{Environment, FitsShape, RunsIn, shape_of}
use Rattle.vlog_tree.specs.Form.{ModuleTree}
use Rattle.vlog_tree.specs.Refused.{IsDesign}
use Rattle.vlog_lex.specs.Grammar.{HasTree}
use Rattle.vlog_design.specs.Designs.{DesignTree, TopOf}
use Rattle.vlog_run_laws.specs.Beside.{RunsBeside, answers_in}
use Rattle.circuit_meaning.specs.Gives.{Gives}
use Rattle.command_build.specs.Built.{HasCircuit}
use Rattle.command_plan.specs.Planned.{HasPlan}
use Rattle.tapa_words.specs.declared.command.PlanMode.{PlanMode}
use Rattle.tapa_words.specs.declared.command.PlanAim.TheVariants.{Circuit}

-- Each run of the design that a text spells gives what a program means, from any power-up contents and in any environment that fits the design's top.
pub record GivesInEachRun (program : Program) (added told : List ℕ) : Type 0 where
  -- with memories that show their cells in every cycle
  pub runs : (design : DesignTree) → HasTree told design.modules → IsDesign design.modules design.top → (top : ModuleTree) → TopOf design top
      → (env : Environment) → FitsShape env (shape_of top) → (nets : ℕ → Path → Cycle) → RunsIn design.modules top env nets
      → Gives program added env (answers_in env) nets
  -- with memories that show a cell in the cycles in which they answer and nothing is stored, whenever they answer
  pub beside : (design : DesignTree) → HasTree told design.modules → IsDesign design.modules design.top → (top : ModuleTree) → TopOf design top
      → (env : Environment) → FitsShape env (shape_of top) → (answers : ℕ → ℕ → Bool) (nets : ℕ → Path → Cycle) → RunsBeside design.modules top env answers nets
      → Gives program added env answers nets

-- for every source and the text of its circuit
abbrev pub CircuitsGive : Type 0
CircuitsGive = (source top told : List ℕ) (h : HasCircuit source top told) → GivesInEachRun h.program [] told

-- for every source, device and text of the circuit that is planned on it, with the latencies that the plan adds
abbrev pub PlannedCircuitsGive : Type 0
PlannedCircuitsGive =
    (source top device told : List ℕ) (mode : PlanMode) (balanced : Bool) (h : HasPlan source top device mode (Circuit balanced) told) → GivesInEachRun h.program h.is.added told
