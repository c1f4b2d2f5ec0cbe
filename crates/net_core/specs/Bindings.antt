-- How the instances of a program are bound to its streams.
use Rattle.std.specs.Prelude.{◌≡◌, ℕ, ◌<◌, List, [], length, Bool, true, false, Option, Some, None, slice_get, slice_index}
use Rattle.tapa_syntax.specs.declared.program.End.{End}
use Rattle.tapa_syntax.specs.declared.program.Leaf.{Leaf}
use Rattle.tapa_syntax.specs.declared.program.Instance.{Instance}
use Rattle.tapa_syntax.specs.declared.program.Stream.{Stream}
use Rattle.tapa_syntax.specs.declared.program.Program.{Program}
use Rattle.tapa_syntax.specs.LeafKinds.{writes_of}
use Rattle.kahn_model.specs.ProgramNetwork.{is_detached, end_of}
use Rattle.kahn_model.specs.Fits.{stream_kind}
use Rattle.net_core.specs.Kinds.{kind_in}

abbrev pub leaf_in : Program → Option Instance → Option Leaf
leaf_in program None = None
leaf_in program (Some x) = slice_get program.bodies.items x.body

-- the leaf of instance i
abbrev pub leaf_at : Program → ℕ → Option Leaf
leaf_at program i = leaf_in program (slice_get program.instances.items i)

abbrev pub ends_in_leaf : Option Leaf → List End
ends_in_leaf None = []
ends_in_leaf (Some leaf) = leaf.streams.items

-- the streams of its leaf
unfoldable pub ends_at : Program → ℕ → List End
ends_at program i = ends_in_leaf (leaf_at program i)

abbrev pub arity_in : Option Instance → ℕ
arity_in None = 0
arity_in (Some x) = length x.streams.items

-- instance i is not waited for
abbrev pub detached_at : Program → ℕ → Bool
detached_at program i = is_detached (slice_get program.instances.items i)

-- how many streams instance i has
abbrev pub arity : Program → ℕ → ℕ
arity program i = arity_in (slice_get program.instances.items i)

abbrev pub stream_in : Option Instance → ℕ → ℕ
stream_in None p = 0
stream_in (Some x) p = slice_index x.streams.items p

-- the stream at position p of instance i
abbrev pub stream_at : Program → ℕ → ℕ → ℕ
stream_at program i p = stream_in (slice_get program.instances.items i) p

abbrev pub Reads : Program → ℕ → ℕ → Type 0
Reads program i p = (p < arity program i) × (writes_of (ends_at program i) p ≡ Some false)

abbrev pub Writes : Program → ℕ → ℕ → Type 0
Writes program i p = (p < arity program i) × (writes_of (ends_at program i) p ≡ Some true)

-- the two ends of a stream and its depth
unfoldable pub producer_of : Program → ℕ → ℕ
producer_of program s = end_of (λ (r : Stream). r.producer) (slice_get program.streams.items s)

unfoldable pub consumer_of : Program → ℕ → ℕ
consumer_of program s = end_of (λ (r : Stream). r.consumer) (slice_get program.streams.items s)

unfoldable pub depth_of : Program → ℕ → ℕ
depth_of program s = end_of (λ (r : Stream). r.depth) (slice_get program.streams.items s)

-- an instance has a leaf with its number of streams, which are there
pub record IsBuilt (program : Program) (i : ℕ) (x : Instance) : Type 0 where
  pub body : x.body < length program.bodies.items
  pub ends : (leaf : Leaf) → slice_get program.bodies.items x.body ≡ Some leaf → leaf.streams.items ≡ ends_at program i
  pub as_many : length (ends_at program i) ≡ length x.streams.items
  pub streams : (p : ℕ) → p < length x.streams.items → slice_index x.streams.items p < length program.streams.items

pub record IsLinked (program : Program) (s : ℕ) (r : Stream) : Type 0 where
  pub producer : producer_of program s ≡ r.producer
  pub consumer : consumer_of program s ≡ r.consumer
  pub depth : depth_of program s ≡ r.depth
  pub producer_in : r.producer < length program.instances.items
  pub consumer_in : r.consumer < length program.instances.items

-- position p of instance i is the writing end of stream s
abbrev pub IsWriter : Program → ℕ → ℕ → ℕ → Type 0
IsWriter program s i p = Writes program i p × (stream_at program i p ≡ s)

abbrev pub IsReader : Program → ℕ → ℕ → ℕ → Type 0
IsReader program s i p = Reads program i p × (stream_at program i p ≡ s)

-- an instance reads a stream that it writes
pub record IsFedBySelf (program : Program) (i : ℕ) : Type 0 where
  pub writes_at : ℕ
  pub reads_at : ℕ
  pub writes : Writes program i writes_at
  pub reads : Reads program i reads_at
  pub same : stream_at program i writes_at ≡ stream_at program i reads_at

-- the two answers to whether it does
abbrev pub TellsFedBySelf : Program → ℕ → Bool → Type 0
TellsFedBySelf program i true = IsFedBySelf program i
TellsFedBySelf program i false = (p q : ℕ) → Writes program i p → Reads program i q → stream_at program i p ≡ stream_at program i q → ⊥

-- positions and streams are bound one to one
pub record IsConnected (program : Program) : Type 0 where
  pub built : (i : ℕ) (x : Instance) → slice_get program.instances.items i ≡ Some x → IsBuilt program i x
  pub linked : (s : ℕ) (r : Stream) → slice_get program.streams.items s ≡ Some r → IsLinked program s r
  pub written_at : (s : ℕ) → s < length program.streams.items → (p : ℕ) × IsWriter program s (producer_of program s) p
  pub read_at : (s : ℕ) → s < length program.streams.items → (p : ℕ) × IsReader program s (consumer_of program s) p
  pub writes_one : (i p q : ℕ) → Writes program i p → Writes program i q → stream_at program i p ≡ stream_at program i q → p ≡ q
  pub reads_one : (i p q : ℕ) → Reads program i p → Reads program i q → stream_at program i p ≡ stream_at program i q → p ≡ q
  pub writer : (i p : ℕ) → Writes program i p → producer_of program (stream_at program i p) ≡ i
  pub reader : (i p : ℕ) → Reads program i p → consumer_of program (stream_at program i p) ≡ i
  pub kinds : (i p : ℕ) → p < arity program i → kind_in (ends_at program i) p ≡ stream_kind program (stream_at program i p)
