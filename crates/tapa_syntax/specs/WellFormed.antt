-- Properties of the flat program of every legal source. Each name is bound, each stream has its writer and its reader, each memory has its one instance, and
-- each value has its kind. The numbers of instances, streams, variables and cells of an array are within their limits. Not among them: the sum of a leaf's
-- cells, its tick places, and the place of a `break` in an `if`.
use Rattle.std.specs.Prelude.{◌≡◌, ℕ, ◌<◌, ◌≤◌, List, [], ◌∷◌, length, map, Bool, true, false, Some, slice_get, slice_index_or}
use Rattle.tapa_base.specs.declared.kind.Kind.{Kind}
use Rattle.tapa_base.specs.declared.kind.Kind.TheVariants.{U64}
use Rattle.tapa_base.specs.Kinds.{values_of}
use Rattle.tapa_syntax.specs.declared.program.Array.{Array}
use Rattle.tapa_syntax.specs.declared.program.Bound.{Bound}
use Rattle.tapa_syntax.specs.declared.program.Bound.TheVariants.{Number, Top}
use Rattle.tapa_syntax.specs.declared.program.End.{End}
use Rattle.tapa_syntax.specs.declared.program.Instance.{Instance}
use Rattle.tapa_syntax.specs.declared.program.Leaf.{Leaf}
use Rattle.tapa_syntax.specs.declared.program.Memory.{Memory}
use Rattle.tapa_syntax.specs.declared.program.Program.{Program}
use Rattle.tapa_syntax.specs.declared.program.Scalar.{Scalar}
use Rattle.tapa_syntax.specs.declared.program.Stream.{Stream}
use Rattle.tapa_syntax.specs.LeafKinds.{kinds_of, writes_of}
use Rattle.tapa_syntax.specs.StreamUse.{UsesCode}
use Rattle.tapa_syntax.specs.ArrayUse.{FitsCode}
use Rattle.tapa_syntax.specs.MemoryUse.{AsksCode}
use Rattle.tapa_syntax.specs.Typed.{IsTypedCode}

-- no number occurs twice in a list
abbrev pub AreDistinct : List ℕ → Type 0
AreDistinct xs = (p q x : ℕ) → slice_get xs p ≡ Some x → slice_get xs q ≡ Some x → p ≡ q

-- a leaf: its parameters are variables of its own, and its code reads and writes its streams as they are declared,
-- uses what is declared, and computes with values of the right kinds
pub record IsLeaf (leaf : Leaf) : Type 0 where
  pub few_vars : length leaf.vars.items ≤ 1024
  pub scalars_in : (p x : ℕ) → slice_get leaf.scalars.items p ≡ Some x → x < length leaf.vars.items
  pub scalars_distinct : AreDistinct leaf.scalars.items
  pub cells : (a : ℕ) (r : Array) → slice_get leaf.arrays.items a ≡ Some r → (1 ≤ r.cells) × (r.cells ≤ 4096)
  pub uses : UsesCode (writes_of leaf.streams.items) leaf.code.items
  pub fits : FitsCode (length leaf.vars.items) (length leaf.arrays.items) [] leaf.code.items
  pub asks : AsksCode (length leaf.memories.items) leaf.code.items
  pub typed : IsTypedCode (kinds_of leaf) leaf.code.items

-- which end of a stream an instance is
abbrev pub IsEndOf : ℕ → Bool → Stream → Type 0
IsEndOf i true r = r.producer ≡ i
IsEndOf i false r = r.consumer ≡ i

-- the stream at a position of instance i: it has the kind of the parameter, and i at the end that the parameter names
pub record IsStreamAt (program : Program) (i s : ℕ) (e : End) : Type 0 where
  pub stream : Stream
  pub is : slice_get program.streams.items s ≡ Some stream
  pub kind : stream.kind ≡ e.kind
  pub end : IsEndOf i e.writes stream

-- the memory at a position of instance i
pub record IsMemoryAt (program : Program) (i m : ℕ) (k : Kind) : Type 0 where
  pub memory : Memory
  pub is : slice_get program.memories.items m ≡ Some memory
  pub kind : memory.kind ≡ k
  pub owner : memory.owner ≡ i

-- the last kind of a chain of conversions
abbrev pub last_kind : Kind → List Kind → Kind
last_kind k [] = k
last_kind k (j ∷ rest) = last_kind j rest

-- a bound gives a value of a kind
abbrev pub IsBoundTo : Program → Kind → Bound → Type 0
IsBoundTo program k (Number n) = n < values_of k
IsBoundTo program k (Top x kinds) = (j : Kind) × (slice_get (map (λ (c : Scalar). c.kind) program.scalars.items) x ≡ Some j) × (last_kind j kinds.items ≡ k)

-- instance i is an instance of a leaf
pub record IsInstance (program : Program) (i : ℕ) (x : Instance) (leaf : Leaf) : Type 0 where
  pub body : slice_get program.bodies.items x.body ≡ Some leaf
  pub streams_len : length x.streams.items ≡ length leaf.streams.items
  pub streams : (p s : ℕ) (e : End) → slice_get x.streams.items p ≡ Some s → slice_get leaf.streams.items p ≡ Some e → IsStreamAt program i s e
  -- no two parameters of one direction are bound to one stream
  pub streams_once : (p q s : ℕ) (b : Bool) → slice_get x.streams.items p ≡ Some s → slice_get x.streams.items q ≡ Some s → writes_of leaf.streams.items p ≡ Some b
      → writes_of leaf.streams.items q ≡ Some b → p ≡ q
  pub memories_len : length x.memories.items ≡ length leaf.memories.items
  pub memories : (p m : ℕ) (k : Kind) → slice_get x.memories.items p ≡ Some m → slice_get leaf.memories.items p ≡ Some k → IsMemoryAt program i m k
  pub memories_once : AreDistinct x.memories.items
  pub scalars_len : length x.scalars.items ≡ length leaf.scalars.items
  pub scalars : (p x' : ℕ) (b : Bound) → slice_get x.scalars.items p ≡ Some b → slice_get leaf.scalars.items p ≡ Some x' → IsBoundTo program (slice_index_or leaf.vars.items x' U64) b

-- some position of instance i is the end of stream s that w names: true for the writing one
pub record IsJoined (program : Program) (i s : ℕ) (w : Bool) : Type 0 where
  pub instance : Instance
  pub is : slice_get program.instances.items i ≡ Some instance
  pub leaf : Leaf
  pub leaf_is : slice_get program.bodies.items instance.body ≡ Some leaf
  pub position : ℕ
  pub stream : slice_get instance.streams.items position ≡ Some s
  pub writes : writes_of leaf.streams.items position ≡ Some w

-- stream s has a depth, and a writing and a reading instance
pub record IsStream (program : Program) (s : ℕ) (r : Stream) : Type 0 where
  pub some_depth : 1 ≤ r.depth
  pub within : r.depth ≤ 4096
  pub written : IsJoined program r.producer s true
  pub read : IsJoined program r.consumer s false

-- memory m is bound at its owner; IsInstance says that it is so at no other instance, and at the owner once
pub record IsOwned (program : Program) (m : ℕ) (r : Memory) : Type 0 where
  pub instance : Instance
  pub is : slice_get program.instances.items r.owner ≡ Some instance
  pub position : ℕ
  pub bound : slice_get instance.memories.items position ≡ Some m

pub record IsWellFormed (program : Program) : Type 0 where
  pub few_instances : length program.instances.items ≤ 512
  pub few_streams : length program.streams.items ≤ 1024
  pub leaves : (b : ℕ) (leaf : Leaf) → slice_get program.bodies.items b ≡ Some leaf → IsLeaf leaf
  pub instances : (i : ℕ) (x : Instance) → slice_get program.instances.items i ≡ Some x → (leaf : Leaf) × IsInstance program i x leaf
  pub streams : (s : ℕ) (r : Stream) → slice_get program.streams.items s ≡ Some r → IsStream program s r
  pub memories : (m : ℕ) (r : Memory) → slice_get program.memories.items m ≡ Some r → IsOwned program m r
