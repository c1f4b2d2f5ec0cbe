-- A design of modules as the clocked network of its program.
use Rattle.std.specs.Prelude.{◌≡◌, ℕ, ◌+◌, List, Option, Some, None, slice_get}
use Rattle.tapa_base.specs.Kinds.{bits_of}
use Rattle.tapa_syntax.specs.LeafKinds.{writes_of}
use Rattle.tapa_syntax.specs.WellFormed.{IsWellFormed}
use Rattle.tapa_syntax.specs.declared.program.Instance.{Instance}
use Rattle.tapa_syntax.specs.declared.program.Leaf.{Leaf}
use Rattle.tapa_syntax.specs.declared.program.Program.{Program}
use Rattle.tapa_syntax.specs.declared.program.Stream.{Stream}
use Rattle.vlog_tree.specs.Cycle.{Cycle}
use Rattle.hw_channel_laws.specs.signals.Contract.{ChannelPorts, MeetsContract as OwesContract}
use Rattle.kahn_model.specs.Start.{network_of}
use Rattle.kahn_model.specs.Timed.{Clock}
use Rattle.task_fsm.specs.declared.machine.Fsm.{Fsm}
use Rattle.task_fsm.specs.Lowered.{IsLowered}
use Rattle.hw_lines.specs.Signals.{Streams, History, Part}
use Rattle.hw_lines.specs.Runs.{streams_at, answers_at, history_at, RunsTask}
use Rattle.hw_network_laws.specs.network.Clocked.{IsClocked}
use Rattle.hw_network_laws.specs.network.Ports.{AreWired}
use Rattle.hw_network_laws.specs.modules.Channels.{AreSignals, IsStill}
use Rattle.hw_network_laws.specs.modules.Tasks.{BeginsAs, shape_for, part_in}

-- the runs of an instance's module: those of the leaf's machine, begun with the program's input and wired to its streams
pub record RunsInstance (program : Program) (scalars : List ℕ) (memories : List (List ℕ)) (instance : Instance) (leaf : Leaf) (machine : Fsm) (run : ℕ → Cycle)
    (cells : ℕ → List (List ℕ)) (S : Streams) : Type 0 where
  pub lowered : IsLowered leaf machine
  pub runs : RunsTask (shape_for leaf machine) (writes_of leaf.streams.items) run cells
  pub begins : BeginsAs program scalars memories instance run cells
  pub wired : AreWired program instance leaf (streams_at (shape_for leaf machine) run) S

-- the module of an instance, whose machine is this one
pub record HasMachine (program : Program) (scalars : List ℕ) (memories : List (List ℕ)) (instance : Instance) (leaf : Leaf) (o : Option Fsm) (run : ℕ → Cycle)
    (cells : ℕ → List (List ℕ)) (S : Streams) : Type 0 where
  pub machine : Fsm
  pub is : o ≡ Some machine
  pub runs : RunsInstance program scalars memories instance leaf machine run cells S

-- a module for each instance, by its number, and a channel for each stream; for other numbers nothing moves
pub record IsDesignOf (program : Program) (scalars : List ℕ) (memories : List (List ℕ)) (latency : ℕ → ℕ) (machines : ℕ → Option Fsm) (runs : ℕ → ℕ → Cycle)
    (cells : ℕ → ℕ → List (List ℕ)) (channels : ℕ → ChannelPorts) (S : Streams) : Type 0 where
  pub tasks :
      (i : ℕ) (x : Instance) (leaf : Leaf) → slice_get program.instances.items i ≡ Some x → slice_get program.bodies.items x.body ≡ Some leaf
      → HasMachine program scalars memories x leaf (machines i) (runs i) (cells i) S
  pub signals : (s : ℕ) (r : Stream) → slice_get program.streams.items s ≡ Some r → AreSignals (bits_of r.kind + 1) s (channels s) S
  pub contract : (s : ℕ) (r : Stream) → slice_get program.streams.items s ≡ Some r → OwesContract r.depth (latency s) (channels s)
  pub still : (s : ℕ) → slice_get program.streams.items s ≡ None → IsStill s S

-- the machines of these modules, and what is seen of each
pub record AreMachines (program : Program) (machines : ℕ → Option Fsm) (runs : ℕ → ℕ → Cycle) (cells : ℕ → ℕ → List (List ℕ)) (parts : ℕ → Part)
    (h : ℕ → History) : Type 0 where
  pub part : (i : ℕ) (x : Instance) (leaf : Leaf) (machine : Fsm) → slice_get program.instances.items i ≡ Some x → slice_get program.bodies.items x.body ≡ Some leaf
      → machines i ≡ Some machine → parts i ≡ part_in x leaf machine (runs i) (cells i)
  pub history : (i : ℕ) (x : Instance) (leaf : Leaf) (machine : Fsm) → slice_get program.instances.items i ≡ Some x
      → slice_get program.bodies.items x.body ≡ Some leaf → machines i ≡ Some machine → h i ≡ history_at (shape_for leaf machine) (runs i) (cells i)

-- the latencies of the channels, and where the memories answer at the modules
abbrev pub clock_at_modules : (ℕ → ℕ) → (ℕ → ℕ → Cycle) → Clock
clock_at_modules latency runs = record { latency = latency; answers = λ i. answers_at (runs i) }

abbrev pub DesignsAreClocked : Type 0
DesignsAreClocked =
    (program : Program) → IsWellFormed program
    → (scalars : List ℕ) (memories : List (List ℕ)) (latency : ℕ → ℕ) (machines : ℕ → Option Fsm) (runs : ℕ → ℕ → Cycle) (cells : ℕ → ℕ → List (List ℕ))
    (channels : ℕ → ChannelPorts) (S : Streams) → IsDesignOf program scalars memories latency machines runs cells channels S
    → (parts : ℕ → Part) (h : ℕ → History) → AreMachines program machines runs cells parts h
    → IsClocked (network_of program scalars memories) (clock_at_modules latency runs) parts S h
