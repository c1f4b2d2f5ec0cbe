-- From the ports of a module to the streams that they are bound to.
use Rattle.std.specs.Prelude.{◌≡◌, ◌⊎◌, ℕ, suc, [], Bool, true, false, Option, Some, None, slice_get}
use Rattle.tapa_syntax.specs.LeafKinds.{writes_of}
use Rattle.tapa_syntax.specs.WellFormed.{IsWellFormed}
use Rattle.tapa_syntax.specs.declared.program.Instance.{Instance}
use Rattle.tapa_syntax.specs.declared.program.Leaf.{Leaf}
use Rattle.tapa_syntax.specs.declared.program.Program.{Program}
use Rattle.tapa_syntax.specs.declared.program.Stream.{Stream}
use Rattle.kahn_model.specs.ProgramNetwork.{network_with, stream_at}
use Rattle.kahn_model.specs.Trace.{State}
use Rattle.task_fsm.specs.declared.machine.Fsm.{Fsm}
use Rattle.task_fsm.specs.Lowered.{IsLowered}
use Rattle.kahn_model.specs.Network.{Network}
use Rattle.task_fsm.specs.Machine.{forms_of, StateForm, SetAt, CellAt, TestAt, ReadAt, WriteAt, PeekAt, EotAt, OpenAt, CloseAt, LoadAt, StoreAt, ClearAt, EndAt, TrapAt}
use Rattle.hw_lines.specs.Signals.{Streams, History, Part}
use Rattle.hw_lines.specs.Machine.{RunsMachine, put_in}

-- a state reads and writes ports as they are declared: w says which are written
abbrev pub UsesPorts : (ℕ → Option Bool) → StateForm → Type 0
UsesPorts w (SetAt r e next) = Unit {0}
UsesPorts w (CellAt a i e next) = Unit {0}
UsesPorts w (TestAt e y n) = Unit {0}
UsesPorts w (ReadAt p into next) = w p ≡ Some false
UsesPorts w (WriteAt p e next) = w p ≡ Some true
UsesPorts w (PeekAt p into next) = w p ≡ Some false
UsesPorts w (EotAt p into next) = w p ≡ Some false
UsesPorts w (OpenAt p next) = w p ≡ Some false
UsesPorts w (CloseAt p next) = w p ≡ Some true
UsesPorts w (LoadAt m i into next) = Unit {0}
UsesPorts w (StoreAt m i e next) = Unit {0}
UsesPorts w (ClearAt a counter next) = Unit {0}
UsesPorts w EndAt = Unit {0}
UsesPorts w TrapAt = Unit {0}

abbrev pub UsesPortsAt : (ℕ → Option Bool) → Option StateForm → Type 0
UsesPortsAt w None = Unit {0}
UsesPortsAt w (Some p) = UsesPorts w p

-- the part at its own ports, as a module has it
abbrev pub alone : Part → Part
alone part = record part { bound = λ p. p }

-- the stream is at a port that is declared so, or at none, and then nothing moves there
abbrev pub IsAtPort : (ℕ → ℕ) → (ℕ → Option Bool) → Bool → ℕ → Type 0 → Type 0
IsAtPort bound w b s Still = ((p : ℕ) × (w p ≡ Some b) × (bound p ≡ s)) ⊎ (((p : ℕ) → w p ≡ Some b → bound p ≡ s → ⊥) × Still)

-- the wires of a module are those of the streams, and no stream is at two ports
pub record IsLinked (bound : ℕ → ℕ) (w : ℕ → Option Bool) (Reads Writes : ℕ → Type 0) (ports S : Streams) : Type 0 where
  pub has : (p n : ℕ) → w p ≡ Some false → ports.has p n ≡ S.has (bound p) n
  pub dout : (p n : ℕ) → w p ≡ Some false → ports.dout p n ≡ S.dout (bound p) n
  pub take : (p n : ℕ) → w p ≡ Some false → S.take (bound p) n ≡ ports.take p n
  pub rdy : (p n : ℕ) → w p ≡ Some true → ports.rdy p n ≡ S.rdy (bound p) n
  pub wr : (p n : ℕ) → w p ≡ Some true → S.wr (bound p) n ≡ ports.wr p n
  pub din : (p n : ℕ) → w p ≡ Some true → S.din (bound p) n ≡ ports.din p n
  pub reader : (s : ℕ) → Reads s → IsAtPort bound w false s ((n : ℕ) → S.take s (suc n) ≡ false)
  pub writer : (s : ℕ) → Writes s → IsAtPort bound w true s ((n : ℕ) → put_in S s (suc n) ≡ [])
  pub distinct : (p q : ℕ) (b : Bool) → w p ≡ Some b → w q ≡ Some b → bound p ≡ bound q → p ≡ q

-- a module that runs its machine at its ports runs it at the streams, as instance i of a network
abbrev pub PortsAreStreams : Type 0
PortsAreStreams =
    (part : Part) (w : ℕ → Option Bool) (net : Network) (i : ℕ) (ports S : Streams) (answers : ℕ → ℕ → Bool) (h : History)
    → ((pc : ℕ) → UsesPortsAt w (slice_get part.places pc)) → IsLinked part.bound w (λ s. net.consumer s ≡ i) (λ s. net.producer s ≡ i) ports S
    → RunsMachine (alone part) ports answers (λ p. w p ≡ Some false) (λ p. w p ≡ Some true) h
    → RunsMachine part S answers (λ s. net.consumer s ≡ i) (λ s. net.producer s ≡ i) h

-- a lowered machine uses its ports as the leaf declares them
abbrev pub LoweredMachinesUsePorts : Type 0
LoweredMachinesUsePorts =
    (leaf : Leaf) (fsm : Fsm) → IsLowered leaf fsm → (pc : ℕ) → UsesPortsAt (writes_of leaf.streams.items) (slice_get (forms_of fsm.states.items) pc)

-- the ports of instance i of a program by the streams that they are bound to: no two of one direction at one stream, and
-- each stream of the program at a port of its reader and at one of its writer
pub record HasPorts (program : Program) (i : ℕ) (instance : Instance) (leaf : Leaf) : Type 0 where
  pub distinct : (p q : ℕ) (b : Bool) → writes_of leaf.streams.items p ≡ Some b → writes_of leaf.streams.items q ≡ Some b → stream_at instance p ≡ stream_at instance q → p ≡ q
  pub inside : (p : ℕ) (b : Bool) → writes_of leaf.streams.items p ≡ Some b → (r : Stream) × (slice_get program.streams.items (stream_at instance p) ≡ Some r)
  pub reader : (s : ℕ) (r : Stream) → slice_get program.streams.items s ≡ Some r → r.consumer ≡ i
      → (p : ℕ) × (writes_of leaf.streams.items p ≡ Some false) × (stream_at instance p ≡ s)
  pub writer : (s : ℕ) (r : Stream) → slice_get program.streams.items s ≡ Some r → r.producer ≡ i
      → (p : ℕ) × (writes_of leaf.streams.items p ≡ Some true) × (stream_at instance p ≡ s)

abbrev pub InstancesHavePorts : Type 0
InstancesHavePorts =
    (program : Program) → IsWellFormed program → (i : ℕ) (instance : Instance) (leaf : Leaf) → slice_get program.instances.items i ≡ Some instance
    → slice_get program.bodies.items instance.body ≡ Some leaf → HasPorts program i instance leaf

-- the wires of an instance's module are those of the streams that it is bound to, and past the program's streams nothing
-- moves
pub record AreWired (program : Program) (instance : Instance) (leaf : Leaf) (ports S : Streams) : Type 0 where
  pub has : (p n : ℕ) → writes_of leaf.streams.items p ≡ Some false → ports.has p n ≡ S.has (stream_at instance p) n
  pub dout : (p n : ℕ) → writes_of leaf.streams.items p ≡ Some false → ports.dout p n ≡ S.dout (stream_at instance p) n
  pub take : (p n : ℕ) → writes_of leaf.streams.items p ≡ Some false → S.take (stream_at instance p) n ≡ ports.take p n
  pub rdy : (p n : ℕ) → writes_of leaf.streams.items p ≡ Some true → ports.rdy p n ≡ S.rdy (stream_at instance p) n
  pub wr : (p n : ℕ) → writes_of leaf.streams.items p ≡ Some true → S.wr (stream_at instance p) n ≡ ports.wr p n
  pub din : (p n : ℕ) → writes_of leaf.streams.items p ≡ Some true → S.din (stream_at instance p) n ≡ ports.din p n
  pub still : (s n : ℕ) → slice_get program.streams.items s ≡ None → (S.take s (suc n) ≡ false) × (put_in S s (suc n) ≡ [])

-- so they are linked, as instance i of the program's network
abbrev pub WiredInstancesAreLinked : Type 0
WiredInstancesAreLinked =
    (program : Program) → IsWellFormed program → (first : ℕ → State) (i : ℕ) (instance : Instance) (leaf : Leaf)
    → slice_get program.instances.items i ≡ Some instance → slice_get program.bodies.items instance.body ≡ Some leaf → (ports S : Streams)
    → AreWired program instance leaf ports S
    → IsLinked (stream_at instance) (writes_of leaf.streams.items) (λ s. (network_with program first).consumer s ≡ i)
    (λ s. (network_with program first).producer s ≡ i) ports S
