-- The modules of a program's instances as the machines of its clocked network.
use Rattle.std.specs.Prelude.{◌≡◌, ℕ, List, [], map, Some, slice_get, slice_index_or}
use Rattle.tapa_syntax.specs.LeafKinds.{writes_of}
use Rattle.tapa_syntax.specs.WellFormed.{IsWellFormed}
use Rattle.tapa_syntax.specs.declared.program.Bound.{Bound}
use Rattle.tapa_syntax.specs.declared.program.Instance.{Instance}
use Rattle.tapa_syntax.specs.declared.program.Leaf.{Leaf}
use Rattle.tapa_syntax.specs.declared.program.Program.{Program}
use Rattle.vlog_tree.specs.Cycle.{Cycle}
use Rattle.kahn_model.specs.ProgramNetwork.{stream_at}
use Rattle.kahn_model.specs.Start.{kinds_in, bound_value, network_of}
use Rattle.task_fsm.specs.declared.machine.Fsm.{Fsm}
use Rattle.task_fsm.specs.Lowered.{IsLowered}
use Rattle.hw_lines.specs.declared.nets.Net.TheVariants.{Scalar}
use Rattle.hw_lines.specs.Shape.{Shape, shape_of}
use Rattle.hw_lines.specs.Signals.{Streams, Part}
use Rattle.hw_lines.specs.Machine.{RunsMachine}
use Rattle.hw_lines.specs.Runs.{number_at, streams_at, answers_at, history_at, part_at, RunsTask}
use Rattle.hw_network_laws.specs.network.Clocked.{IsPartOf}
use Rattle.hw_network_laws.specs.network.Ports.{AreWired}

-- in the cycle of reset the values of an instance's scalar parameters are at the module's ports, and then the memories
-- have their first cells
pub record BeginsAs (program : Program) (scalars : List ℕ) (memories : List (List ℕ)) (instance : Instance) (run : ℕ → Cycle) (cells : ℕ → List (List ℕ)) : Type 0 where
  pub scalars_stand : (p : ℕ) (b : Bound) → slice_get instance.scalars.items p ≡ Some b → number_at run (Scalar p) 0 ≡ bound_value (kinds_in program) scalars b
  pub cells_stand : cells 1 ≡ map (λ m. slice_index_or memories m []) instance.memories.items

abbrev pub shape_for : Leaf → Fsm → Shape
shape_for leaf machine = shape_of machine leaf.memories.items leaf.streams.items

-- the machine of the module, at the streams of the instance
abbrev pub part_in : Instance → Leaf → Fsm → (ℕ → Cycle) → (ℕ → List (List ℕ)) → Part
part_in instance leaf machine run cells = record (part_at (shape_for leaf machine) run cells) { bound = stream_at instance }

pub record IsInstanceOf (program : Program) (scalars : List ℕ) (memories : List (List ℕ)) (i : ℕ) (instance : Instance) (leaf : Leaf) (machine : Fsm)
    (run : ℕ → Cycle) (cells : ℕ → List (List ℕ)) (S : Streams) : Type 0 where
  pub part : IsPartOf ((network_of program scalars memories).job i) (part_in instance leaf machine run cells)
  pub runs :
      RunsMachine (part_in instance leaf machine run cells) S (answers_at run) (λ s. (network_of program scalars memories).consumer s ≡ i)
      (λ s. (network_of program scalars memories).producer s ≡ i) (history_at (shape_for leaf machine) run cells)

abbrev pub ModulesAreInstances : Type 0
ModulesAreInstances =
    (program : Program) → IsWellFormed program → (scalars : List ℕ) (memories : List (List ℕ)) (i : ℕ) (instance : Instance) (leaf : Leaf) (machine : Fsm)
    → slice_get program.instances.items i ≡ Some instance → slice_get program.bodies.items instance.body ≡ Some leaf → IsLowered leaf machine
    → (run : ℕ → Cycle) (cells : ℕ → List (List ℕ)) (S : Streams) → RunsTask (shape_for leaf machine) (writes_of leaf.streams.items) run cells
    → BeginsAs program scalars memories instance run cells → AreWired program instance leaf (streams_at (shape_for leaf machine) run) S
    → IsInstanceOf program scalars memories i instance leaf machine run cells S
