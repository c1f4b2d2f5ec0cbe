-- Values, tokens and inputs of the kinds that a program declares: a value of a kind of n bits is a number below 2 ^ n
-- (ISO C++ [basic.fundamental]), and a stream carries data of its own kind and ends of transactions (TAPA, streams).
use Rattle.std.specs.Prelude.{◌≡◌, ℕ, ◌<◌, List, [], length, All, Option, Some, None, slice_get, slice_index, slice_index_or, option_map, unwrap_or}
use Rattle.tapa_base.specs.declared.kind.Kind.{Kind}
use Rattle.tapa_base.specs.declared.kind.Kind.TheVariants.{U64}
use Rattle.tapa_base.specs.declared.token.Token.{Token}
use Rattle.tapa_base.specs.declared.token.Token.TheVariants.{Datum, Eot}
use Rattle.tapa_base.specs.Kinds.{values_of}
use Rattle.tapa_syntax.specs.declared.program.Instance.{Instance}
use Rattle.tapa_syntax.specs.declared.program.Leaf.{Leaf}
use Rattle.tapa_syntax.specs.declared.program.Memory.{Memory}
use Rattle.tapa_syntax.specs.declared.program.Program.{Program}
use Rattle.tapa_syntax.specs.declared.program.Scalar.{Scalar}
use Rattle.tapa_syntax.specs.declared.program.Stream.{Stream}
use Rattle.tapa_syntax.specs.LeafKinds.{Kinds}
use Rattle.kahn_model.specs.Trace.{State, cell}
use Rattle.kahn_model.specs.Behavior.{Action, Local, Put, Load, Store, Tick, Did, Take, See, End, Behavior, Finished, OutOfTurns, Act, Await, Answer, judge_token}

-- an end of a transaction, or the bits of a value of the kind
abbrev pub IsTokenOf : Kind → Token → Type 0
IsTokenOf k (Datum v) = v < values_of k
IsTokenOf k Eot = Unit {0}

-- by the kinds of streams and memories: what is put is a token of its stream, what is stored a value of its memory, and
-- an index has 64 bits
abbrev pub ActionFits : (ℕ → Kind) → (ℕ → Kind) → Action → Type 0
ActionFits streams memories Local = Unit {0}
ActionFits streams memories (Put s t) = IsTokenOf (streams s) t
ActionFits streams memories (Load m i) = i < values_of U64
ActionFits streams memories (Store m i v) = (i < values_of U64) × (v < values_of (memories m))

-- every act of a behavior does so, where each token that it takes or sees is one of its stream
abbrev pub KeepsKinds : (ℕ → Kind) → (ℕ → Kind) → Behavior → Type 0
KeepsKinds streams memories Finished = Unit {0}
KeepsKinds streams memories OutOfTurns = Unit {0}
KeepsKinds streams memories (Act a rest) = ActionFits streams memories a × KeepsKinds streams memories rest
KeepsKinds streams memories (Await s how rest) = (t : Token) (v : ℕ) → IsTokenOf (streams s) t → judge_token how t ≡ Answer t v → KeepsKinds streams memories (rest v)

abbrev pub TickFits : (ℕ → Kind) → (ℕ → Kind) → Tick → Type 0
TickFits streams memories (Did a) = ActionFits streams memories a
TickFits streams memories (Take s t) = IsTokenOf (streams s) t
TickFits streams memories (See s t) = IsTokenOf (streams s) t
TickFits streams memories End = Unit {0}

-- every variable and every cell has a value of its kind
pub record IsFitState (K : Kinds) (σ : State) : Type 0 where
  pub vars : (x : ℕ) → slice_index σ.vars x < values_of (K.vars x)
  pub arrays : (a i : ℕ) → cell σ.arrays a i < values_of (K.arrays a)
  pub cells : (m i : ℕ) → cell σ.cells m i < values_of (K.memories m)

-- the kind of a stream of a program
abbrev pub stream_kind : Program → ℕ → Kind
stream_kind program s = unwrap_or (option_map (λ (r : Stream). r.kind) (slice_get program.streams.items s)) U64

-- the kind of the memory at a position of instance i, by its leaf
abbrev pub kind_in_leaf : Option Leaf → ℕ → Kind
kind_in_leaf None p = U64
kind_in_leaf (Some leaf) p = slice_index_or leaf.memories.items p U64

abbrev pub leaf_of : Program → Option Instance → Option Leaf
leaf_of program None = None
leaf_of program (Some x) = slice_get program.bodies.items x.body

abbrev pub memory_kind : Program → ℕ → ℕ → Kind
memory_kind program i p = kind_in_leaf (leaf_of program (slice_get program.instances.items i)) p

-- the values of the top task's scalars have their kinds
abbrev pub ScalarsFit : Program → List ℕ → Type 0
ScalarsFit program scalars = (x : ℕ) (c : Scalar) → slice_get program.scalars.items x ≡ Some c → slice_index scalars x < values_of c.kind

-- an input: one value for each scalar of the top task, and the first cells of each of its memories, of any length
pub record FitsInput (program : Program) (scalars : List ℕ) (memories : List (List ℕ)) : Type 0 where
  pub as_many_scalars : length scalars ≡ length program.scalars.items
  pub as_many_memories : length memories ≡ length program.memories.items
  pub scalars_fit : ScalarsFit program scalars
  pub cells_fit : (m : ℕ) (c : Memory) → slice_get program.memories.items m ≡ Some c → All (λ v. v < values_of c.kind) (slice_index_or memories m [])
