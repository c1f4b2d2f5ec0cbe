-- The modules of a program as its circuit.
use Rattle.std.specs.Prelude.{ℕ, Bool, List, Option, Some, None, length, slice_get, slice_index}
use Rattle.tapa_syntax.specs.declared.program.Instance.{Instance}
use Rattle.tapa_syntax.specs.declared.program.Program.{Program}
use Rattle.task_fsm.specs.declared.machine.Fsm.{Fsm}
use Rattle.vlog_run_laws.specs.Beside.{RunsBeside, answers_in}
use Rattle.vlog_tree.specs.Cycle.{Cycle, Path}
use Rattle.vlog_tree.specs.Environment.{Environment, FitsShape, RunsIn, shape_of}
use Rattle.hw_network_laws.specs.modules.Designs.{IsDesignOf}
use Rattle.hw_top_lines.specs.Designs.{design_tree}
use Rattle.hw_top_lines.specs.Texts.{top_tree}
use Rattle.hw_top_laws.specs.modules.Lower.{lower_modules, OfReady}
use Rattle.hw_top_laws.specs.runs.Designs.{IsCircuit}
use Rattle.hw_top_laws.specs.runs.Parts.{instance_run, instance_rows, channel_run, streams_seen}
use Rattle.circuit_meaning.specs.Carries.{Carries}
use Rattle.circuit_meaning.specs.Clock.{clock_of}

-- the machine of an instance, by the machines of the program's bodies
abbrev pub machine_in : List Fsm → Option Instance → Option Fsm
machine_in machines None = None
machine_in machines (Some x) = slice_get machines x.body

abbrev pub machine_of : Program → List Fsm → ℕ → Option Fsm
machine_of program machines i = machine_in machines (slice_get program.instances.items i)

-- the modules are a circuit, whose top is the last
abbrev pub DesignsAreCircuits : Type 0
DesignsAreCircuits =
    OfReady (λ program machines added. IsCircuit program added (machine_of program machines) (design_tree program machines added) (length (lower_modules program machines added)))

-- which in a run is the design of the program's clocked network
abbrev pub DesignsRunPrograms : Type 0
DesignsRunPrograms =
    OfReady
    (λ program machines added.
    (env : Environment) → FitsShape env (shape_of (top_tree program added)) → (nets : ℕ → Path → Cycle) → RunsIn (design_tree program machines added) (top_tree program added) env nets
    → IsDesignOf program env.scalars env.memories (slice_index added) (machine_of program machines) (instance_run program nets) (instance_rows program env nets)
    (channel_run program nets) (streams_seen program nets))

-- and carries its Kahn streams
abbrev pub DesignsCarryStreams : Type 0
DesignsCarryStreams =
    OfReady
    (λ program machines added.
    (env : Environment) → FitsShape env (shape_of (top_tree program added)) → (nets : ℕ → Path → Cycle) → RunsIn (design_tree program machines added) (top_tree program added) env nets
    → Carries program env (clock_of program added (answers_in env)) nets)

-- and so beside memories that show a cell in the cycles in which they answer and nothing is stored
abbrev pub DesignsCarryBeside : Type 0
DesignsCarryBeside =
    OfReady
    (λ program machines added.
    (env : Environment) → FitsShape env (shape_of (top_tree program added)) → (answers : ℕ → ℕ → Bool) (nets : ℕ → Path → Cycle)
    → RunsBeside (design_tree program machines added) (top_tree program added) env answers nets
    → Carries program env (clock_of program added answers) nets)
