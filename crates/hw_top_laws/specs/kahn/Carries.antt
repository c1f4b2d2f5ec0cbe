-- Circuits carry the streams of their programs, in an environment and with memories that show a cell in the cycles in which they answer and nothing is
-- stored.
use Rattle.std.specs.Prelude.{ℕ, Bool, List, Option}
use Rattle.tapa_syntax.specs.WellFormed.{IsWellFormed}
use Rattle.tapa_syntax.specs.declared.program.Program.{Program}
use Rattle.vlog_run_laws.specs.Beside.{RunsBeside, answers_in}
use Rattle.vlog_tree.specs.Cycle.{Cycle, Path}
use Rattle.vlog_tree.specs.Environment.{Environment, FitsShape, RunsIn, shape_of}
use Rattle.vlog_tree.specs.Form.{ModuleTree}
use Rattle.task_fsm.specs.declared.machine.Fsm.{Fsm}
use Rattle.circuit_meaning.specs.Carries.{Carries}
use Rattle.circuit_meaning.specs.Clock.{clock_of}
use Rattle.hw_top_lines.specs.Designs.{AreShort}
use Rattle.hw_top_lines.specs.Texts.{top_tree}
use Rattle.hw_top_laws.specs.runs.Designs.{IsCircuit}

-- from any power-up contents
abbrev pub CircuitsCarryBeside : Type 0
CircuitsCarryBeside =
    (program : Program) → IsWellFormed program → (added : List ℕ) → AreShort added → (machines : ℕ → Option Fsm) (all : List ModuleTree) (at : ℕ)
    → IsCircuit program added machines all at
    → (env : Environment) → FitsShape env (shape_of (top_tree program added)) → (answers : ℕ → ℕ → Bool) (nets : ℕ → Path → Cycle)
    → RunsBeside all (top_tree program added) env answers nets
    → Carries program env (clock_of program added answers) nets

-- from any power-up contents
abbrev pub CircuitsCarryStreams : Type 0
CircuitsCarryStreams =
    (program : Program) → IsWellFormed program → (added : List ℕ) → AreShort added → (machines : ℕ → Option Fsm) (all : List ModuleTree) (at : ℕ)
    → IsCircuit program added machines all at
    → (env : Environment) → FitsShape env (shape_of (top_tree program added)) → (nets : ℕ → Path → Cycle) → RunsIn all (top_tree program added) env nets
    → Carries program env (clock_of program added (answers_in env)) nets
