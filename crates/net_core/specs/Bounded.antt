-- The bounded network of a program on an input, and what it means that a net is at a count of it.
use Rattle.std.specs.Prelude.{◌≡◌, ℕ, ◌<◌, List, length, map, Bool, Option, Some, None, Vec, slice_get, slice_index}
use Rattle.std.specs.declared.alloc.Global.{Global}
use Rattle.kahn_model.specs.declared.tick.Tick.{Tick}
use Rattle.tapa_syntax.specs.declared.program.Leaf.{Leaf}
use Rattle.tapa_syntax.specs.declared.program.Program.{Program}
use Rattle.tapa_syntax.specs.LeafKinds.{kinds_of}
use Rattle.kahn_model.specs.Behavior.{Behavior, Finished}
use Rattle.kahn_model.specs.Trace.{State, job_of}
use Rattle.kahn_model.specs.Network.{Network, IsNetwork}
use Rattle.kahn_model.specs.Counts.{written, taken, IsReachable}
use Rattle.tapa_syntax.specs.WellFormed.{IsWellFormed}
use Rattle.kahn_model.specs.Start.{first_state, network_of}
use Rattle.kahn_model.specs.Fits.{FitsInput}
use Rattle.net_core.specs.declared.input.Input.{Input}
use Rattle.net_core.specs.declared.streams.Streams.{Streams}
use Rattle.net_core.specs.declared.body.Pause.{Pause}
use Rattle.net_core.specs.Job.{Job}
use Rattle.net_core.specs.Ports.{carried_of}
use Rattle.net_core.specs.Load.{HasTables, AreQueued}
use Rattle.net_core.specs.Waits.{HasHeld}
use Rattle.net_core.specs.Placement.{IsPlaced, IsStanding}
use Rattle.net_core.specs.Bindings.{leaf_at, ends_at, stream_at, Reads, Writes, producer_of, consumer_of, depth_of, IsConnected, IsWriter, TellsFedBySelf}

-- the values of the top task's scalars, and the first cells of its memories
abbrev pub scalars_of : Input → List ℕ
scalars_of input = input.scalars.items

abbrev pub memories_of : Input → List (List ℕ)
memories_of input = map (λ (m : Vec ℕ Global). m.items) input.memories.items

-- what a program runs on: the values of the top task's scalars, and the first cells of its memories, in their order
pub record Values : Type 0 where
  pub scalars : List ℕ
  pub memories : List (List ℕ)

abbrev pub values_of : Input → Values
values_of input = record { scalars = scalars_of input; memories = memories_of input }

-- the network of a program on an input
abbrev pub network_on : Program → Input → Network
network_on program input = network_of program (scalars_of input) (memories_of input)

abbrev pub leaf_behavior : Option Leaf → State → ℕ → Behavior
leaf_behavior None σ n = Finished
leaf_behavior (Some leaf) σ n = job_of (kinds_of leaf) leaf.code.items σ n

-- the job of instance i
unfoldable pub instance_job : Program → Input → ℕ → Job
instance_job program input i = record {
  ends = ends_at program i;
  cells = (first_state program (scalars_of input) (memories_of input) i).cells;
  behavior = leaf_behavior (leaf_at program i) (first_state program (scalars_of input) (memories_of input) i);
}

-- the network of a program is that of its jobs at their streams
pub record IsNetworkOf (program : Program) (input : Input) : Type 0 where
  pub is_network : IsNetwork (network_on program input)
  pub size : (network_on program input).size ≡ length program.instances.items
  pub producer : (s : ℕ) → (network_on program input).producer s ≡ producer_of program s
  pub consumer : (s : ℕ) → (network_on program input).consumer s ≡ consumer_of program s
  pub depth : (s : ℕ) → (network_on program input).depth s ≡ depth_of program s
  pub ends : (i : ℕ) → (instance_job program input i).ends ≡ ends_at program i
  pub placed : (i : ℕ) → i < length program.instances.items
      → IsPlaced (network_on program input) i (instance_job program input i).behavior (stream_at program i) (Reads program i) (Writes program i)

-- the ticks of each instance, by a list of them
abbrev pub count_of : List ℕ → ℕ → ℕ
count_of counts i = slice_index counts i

-- a body is where the count says
abbrev pub IsBodyAt : (Job → List Tick → Type 0) → Program → Input → List ℕ → ℕ → Type 0
IsBodyAt Stands program input counts i =
    IsStanding (Stands (instance_job program input i)) (network_on program input) (count_of counts) i (instance_job program input i).behavior (stream_at program i)

-- a program on an input, whose streams connect its instances
pub record IsGiven (program : Program) (input : Input) : Type 0 where
  pub connected : IsConnected program
  pub network : IsNetworkOf program input
  pub well_formed : IsWellFormed program
  pub fits : FitsInput program (scalars_of input) (memories_of input)

-- for each stream the position of its producer's port, and for each instance whether it reads a stream that it writes
pub record AreBound (program : Program) (writers : List ℕ) (fed_by_self : List Bool) : Type 0 where
  pub writers_len : length writers ≡ length program.streams.items
  pub writer_is : (s : ℕ) → s < length program.streams.items → IsWriter program s (producer_of program s) (slice_index writers s)
  pub fed_len : length fed_by_self ≡ length program.instances.items
  pub fed : (i : ℕ) (b : Bool) → slice_get fed_by_self i ≡ Some b → TellsFedBySelf program i b

-- the ticks of each instance, and what it answered last
pub record HaveAnswered (program : Program) (input : Input) (counts : List ℕ) (pauses : List (Option Pause)) : Type 0 where
  pub counts_len : length counts ≡ length program.instances.items
  pub pauses_len : length pauses ≡ length program.instances.items
  -- what an instance answered last was true once
  pub paused : (i : ℕ) (x : Pause) → slice_get pauses i ≡ Some (Some x) → HasHeld (network_on program input) (count_of counts) i (stream_at program i) x
  -- no tick was made before the first resume
  pub unresumed : (i : ℕ) → slice_get pauses i ≡ Some None → count_of counts i ≡ 0

-- a net is at its count
pub record IsNetAt {B : Type 0} (Stands : B → Job → List Tick → Type 0) (program : Program) (input : Input) (bodies : List B) (streams : Streams)
    (fed_by_self : List Bool) (counts : List ℕ) (pauses : List (Option Pause)) : Type 0 where
  pub given : IsGiven program input
  pub open given use *
  pub bound : AreBound program streams.writers.items fed_by_self
  pub open bound use *
  pub answered : HaveAnswered program input counts pauses
  pub open answered use *
  pub reachable : IsReachable (network_on program input) (count_of counts)
  pub bodies_len : length bodies ≡ length program.instances.items
  pub tables : HasTables program streams
  pub open tables use *
  pub queued : AreQueued program streams (written (network_on program input) (count_of counts))
  pub standing : (i : ℕ) (b : B) → slice_get bodies i ≡ Some b → IsBodyAt (Stands b) program input counts i
  pub carries : (i p : ℕ) → i < length program.instances.items → Writes program i p → carried_of streams.ports.items i p ≡ written (network_on program input) (count_of counts) (stream_at program i p)
  pub took : (s : ℕ) → s < length program.streams.items → slice_index streams.taken.items s ≡ length (taken (network_on program input) (count_of counts) s)
