-- The circuit of a program, in a run, is the design of the program's clocked network.
use Rattle.std.specs.Prelude.{◌≡◌, ℕ, Bool, List, Option, Some, slice_get, slice_index}
use Rattle.tapa_syntax.specs.WellFormed.{IsWellFormed}
use Rattle.tapa_syntax.specs.declared.program.Instance.{Instance}
use Rattle.tapa_syntax.specs.declared.program.Leaf.{Leaf}
use Rattle.tapa_syntax.specs.declared.program.Program.{Program}
use Rattle.tapa_syntax.specs.declared.program.Stream.{Stream}
use Rattle.vlog_run_laws.specs.Beside.{RunsBeside}
use Rattle.vlog_tree.specs.Cycle.{Cycle, Path}
use Rattle.vlog_tree.specs.Environment.{Environment, FitsShape, RunsIn, shape_of}
use Rattle.vlog_tree.specs.Form.{ModuleTree}
use Rattle.vlog_tree.specs.Refused.{IsDesign}
use Rattle.vlog_tree.specs.Table.{module_named}
use Rattle.hw_channel_laws.specs.modules.Ports.{AreFoundIn}
use Rattle.hw_channel_lines.specs.Texts.{AreModules}
use Rattle.task_fsm.specs.declared.machine.Fsm.{Fsm}
use Rattle.task_fsm.specs.Lowered.{IsLowered}
use Rattle.hw_lines.specs.Runs.{ActsAsTask}
use Rattle.hw_lines.specs.Texts.{task_name, task_tree}
use Rattle.hw_top_lines.specs.Designs.{AreShort}
use Rattle.hw_top_lines.specs.Legal.{scalar_ports, memory_ports}
use Rattle.hw_top_lines.specs.Texts.{token_bits, top_tree}
use Rattle.hw_network_laws.specs.modules.Designs.{IsDesignOf}
use Rattle.hw_top_laws.specs.runs.Parts.{instance_run, instance_rows, channel_run, streams_seen}

-- the module of a leaf task is among these, and runs the leaf's machine
pub record StandsForTask (leaf : Leaf) (o : Option Fsm) (all : List ModuleTree) : Type 0 where
  pub machine : Fsm
  pub is : o ≡ Some machine
  pub lowered : IsLowered leaf machine
  pub acts : ActsAsTask leaf machine (task_tree machine leaf.memories.items leaf.streams.items)
  pub named : module_named all (task_name leaf.name) ≡ Some (task_tree machine leaf.memories.items leaf.streams.items)

-- and so do the modules of a channel
pub record StandsForChannel (bits depth late : ℕ) (all : List ModuleTree) : Type 0 where
  pub modules : List ModuleTree
  pub are : AreModules bits depth late modules
  pub found : AreFoundIn all modules

-- a design whose top is that of a program, and which has the modules of its tasks and channels
pub record IsCircuit (program : Program) (added : List ℕ) (machines : ℕ → Option Fsm) (all : List ModuleTree) (at : ℕ) : Type 0 where
  pub design : IsDesign all at
  pub is_top : slice_get all at ≡ Some (top_tree program added)
  pub scalars : (shape_of (top_tree program added)).scalars ≡ scalar_ports program
  pub memories : (shape_of (top_tree program added)).memories ≡ memory_ports program
  pub tasks : (i : ℕ) (x : Instance) (leaf : Leaf) → slice_get program.instances.items i ≡ Some x → slice_get program.bodies.items x.body ≡ Some leaf → StandsForTask leaf (machines i) all
  pub channels : (s : ℕ) (r : Stream) → slice_get program.streams.items s ≡ Some r → StandsForChannel (token_bits r.kind) r.depth (slice_index added s) all

-- in a run in an environment that fits it, from any power-up contents
abbrev pub CircuitsAreDesigns : Type 0
CircuitsAreDesigns =
    (program : Program) → IsWellFormed program → (added : List ℕ) → AreShort added → (machines : ℕ → Option Fsm) (all : List ModuleTree) (at : ℕ)
    → IsCircuit program added machines all at
    → (env : Environment) → FitsShape env (shape_of (top_tree program added)) → (nets : ℕ → Path → Cycle) → RunsIn all (top_tree program added) env nets
    → IsDesignOf program env.scalars env.memories (slice_index added) machines (instance_run program nets) (instance_rows program env nets) (channel_run program nets) (streams_seen program nets)

-- and so in a run beside memories that show a cell where they answer and nothing is stored
abbrev pub CircuitsAreDesignsBeside : Type 0
CircuitsAreDesignsBeside =
    (program : Program) → IsWellFormed program → (added : List ℕ) → AreShort added → (machines : ℕ → Option Fsm) (all : List ModuleTree) (at : ℕ)
    → IsCircuit program added machines all at
    → (env : Environment) → FitsShape env (shape_of (top_tree program added)) → (answers : ℕ → ℕ → Bool) (nets : ℕ → Path → Cycle)
    → RunsBeside all (top_tree program added) env answers nets
    → IsDesignOf program env.scalars env.memories (slice_index added) machines (instance_run program nets) (instance_rows program env nets) (channel_run program nets) (streams_seen program nets)
