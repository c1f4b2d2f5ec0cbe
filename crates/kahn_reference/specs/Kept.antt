-- What a run needs so as to refuse nothing: values, lists and states of the kinds that a leaf declares.
use Rattle.std.specs.Prelude.{ℕ, ◌<◌, List, All, Vec}
use Rattle.std.specs.declared.alloc.Global.{Global}
use Rattle.tapa_base.specs.declared.kind.Kind.{Kind}
use Rattle.tapa_base.specs.declared.kind.Kind.TheVariants.{Bool}
use Rattle.tapa_base.specs.declared.token.Token.{Token}
use Rattle.tapa_base.specs.Kinds.{values_of}
use Rattle.tapa_syntax.specs.LeafKinds.{Kinds}
use Rattle.kahn_model.specs.declared.tick.StreamOperation.{StreamOperation}
use Rattle.kahn_model.specs.declared.tick.StreamOperation.TheVariants.{TestEot}
use Rattle.tapa_syntax.specs.declared.program.Program.{Program}
use Rattle.kahn_model.specs.Fits.{IsTokenOf, IsFitState, stream_kind}
use Rattle.kahn_model.specs.Trace.{State}
use Rattle.kahn_reference.specs.declared.slow.Value.{Value}
use Rattle.kahn_reference.specs.declared.slow.Value.TheVariants.{Given, Stopped}
use Rattle.kahn_reference.specs.declared.slow.Pair.{Pair}
use Rattle.kahn_reference.specs.declared.slow.Pair.TheVariants.{Given as GivenPair, Stopped as StoppedPair}
use Rattle.kahn_reference.specs.declared.slow.Flow.{Flow}
use Rattle.kahn_reference.specs.declared.slow.Flow.TheVariants.{Stopped as StoppedFlow}
use Rattle.kahn_reference.specs.declared.slow.Turn.{Turn}
use Rattle.kahn_reference.specs.declared.slow.Turn.TheVariants.{Stopped as StoppedTurn}
use Rattle.kahn_reference.specs.Slow.{numbers, whole}

-- the state of a leaf fits its kinds, and the list at each of its positions has tokens of the kind there
pub record StandsFit (K : Kinds) (streams : List ℕ) (lists : List (Vec Token Global)) (σ : State) : Type 0 where
  pub state : IsFitState K σ
  pub tokens : (p : ℕ) → All (IsTokenOf (K.streams p)) (whole lists (numbers streams p))

-- the list of each stream of a program has tokens of its kind
abbrev pub TokensFit : Program → List (Vec Token Global) → Type 0
TokensFit program lists = (s : ℕ) → All (IsTokenOf (stream_kind program s)) (whole lists s)

-- the kind of what an operation gives for tokens of a kind: a test for an end gives a bool
abbrev pub answer_kind : StreamOperation → Kind → Kind
answer_kind TestEot k = Bool
answer_kind how k = k

-- an end at which a run stops, or a value of the kind
abbrev pub IsValueOf : Kind → Value → Type 0
IsValueOf k (Given v) = v < values_of k
IsValueOf k (Stopped m) = Unit {0}

abbrev pub IsPairOf : Kind → Kind → Pair → Type 0
IsPairOf j k (GivenPair v w) = (v < values_of j) × (w < values_of k)
IsPairOf j k (StoppedPair m) = Unit {0}

-- an end at which a run stops, or a state of the kinds
abbrev pub FlowFits : Kinds → State → Flow → Type 0
FlowFits K σ (StoppedFlow m) = Unit {0}
FlowFits K σ flow = IsFitState K σ

abbrev pub TurnFits : Kinds → State → Turn → Type 0
TurnFits K σ (StoppedTurn m) = Unit {0}
TurnFits K σ turn = IsFitState K σ
