-- The rounds of a well-formed program on an input that fits: each instance stands at a state and on lists of its kinds.
use Rattle.std.proofs.Common.{◌≡◌, ℕ, ◌<◌, List, [], ◌∷◌, Option, Some, None, refl, sym, ap, ◌∙◌, subst, arith}
use Rattle.std.specs.Prelude.{slice_get, option_map, unwrap_or, All, Vec}
use Rattle.std.specs.declared.alloc.Global.{Global}
use Rattle.std.proofs.lemmas.List.Elements.{All-nil, All-head, All-tail, All-cons}
use Rattle.tapa_base.specs.declared.kind.Kind.{Kind}
use Rattle.tapa_base.specs.declared.kind.Kind.TheVariants as kind
use Rattle.tapa_base.specs.declared.token.Token.{Token}
use Rattle.tapa_base.specs.declared.token.Token.TheVariants.{Datum, Eot}
use Rattle.tapa_base.specs.Kinds.{values_of}
use Rattle.tapa_syntax.specs.declared.program.End.{End}
use Rattle.tapa_syntax.specs.declared.program.Instance.{Instance}
use Rattle.tapa_syntax.specs.declared.program.Leaf.{Leaf}
use Rattle.tapa_syntax.specs.declared.program.Program.{Program}
use Rattle.tapa_syntax.specs.LeafKinds.{kinds_of, writes_of}
use Rattle.tapa_syntax.specs.WellFormed.{IsInstance, IsWellFormed}
use Rattle.tapa_syntax.specs.Typed.{IsTypedCode}
use Rattle.kahn_model.specs.Fits.{IsTokenOf, FitsInput, stream_kind, memory_kind}
use Rattle.kahn_model.specs.Network.{stream}
use Rattle.kahn_model.specs.declared.tick.Tick.{Tick}
use Rattle.kahn_model.specs.declared.tick.Tick.TheVariants.{End as Ended}
use Rattle.kahn_model.specs.Behavior.{ticks}
use Rattle.kahn_model.specs.ProgramNetwork.{leaf_job, instance_job}
use Rattle.kahn_model.specs.Trace.{State, job_of, at_streams}
use Rattle.kahn_model.specs.Start.{kinds_in, leaf_state, instance_state, network_of}
use Rattle.kahn_model.proofs.FitsNetwork.{first_fits, network_keeps, stream_fits}
use Rattle.kahn_model.proofs.WellFormed.{stream_kind_at}
use Rattle.kahn_reference.specs.Kept.{StandsFit, TokensFit}
use Rattle.kahn_reference.specs.Slow.{whole, numbers}

-- each kind has at most as many values as that of 64 bits
wide : (k : Kind) (v : ℕ) → v < values_of k → v < values_of kind.U64
wide kind.Bool v h = omega arith
wide kind.I8 v h = omega arith
wide kind.U8 v h = omega arith
wide kind.I16 v h = omega arith
wide kind.U16 v h = omega arith
wide kind.I32 v h = omega arith
wide kind.U32 v h = omega arith
wide kind.I64 v h = omega arith
wide kind.U64 v h = h

wide_token : (k : Kind) (t : Token) → IsTokenOf k t → IsTokenOf kind.U64 t
wide_token k (Datum v) h = wide k v h
wide_token k Eot h = tt

wide_tokens : (k : Kind) (l : List Token) → All (IsTokenOf k) l → All (IsTokenOf kind.U64) l
wide_tokens k [] h = All-nil (IsTokenOf kind.U64)
wide_tokens k (t ∷ l) h = All-cons (IsTokenOf kind.U64) t l (wide_token k t (All-head (IsTokenOf k) t l h)) (wide_tokens k l (All-tail (IsTokenOf k) t l h))

-- the kind at a position: that of the stream there, or of 64 bits where the leaf has no such position
kind_there : (ends : List End) (p : ℕ) (e : End) → slice_get ends p ≡ Some e → writes_of ends p ≡ Some e.writes
kind_there ends p e is = ap (option_map (λ (x : End). x.writes)) is

tokens_at : (program : Program) (i : ℕ) (x : Instance) (leaf : Leaf) → IsInstance program i x leaf → (lists : List (Vec Token Global)) → TokensFit program lists → (p : ℕ) (o : Option End) → slice_get leaf.streams.items p ≡ o → All (IsTokenOf ((kinds_of leaf).streams p)) (whole lists (numbers x.streams.items p))
tokens_at program i x leaf h lists t p (Some e) is =
    subst (λ k. All (IsTokenOf k) (whole lists (numbers x.streams.items p))) (sym (stream_kind_at program i x leaf h p e.writes (kind_there leaf.streams.items p e is))) (t (numbers x.streams.items p))
tokens_at program i x leaf h lists t p None is =
    subst (λ o. All (IsTokenOf (unwrap_or (option_map (λ (e : End). e.kind) o) kind.U64)) (whole lists (numbers x.streams.items p))) (sym is)
    (wide_tokens (stream_kind program (numbers x.streams.items p)) (whole lists (numbers x.streams.items p)) (t (numbers x.streams.items p)))

pub instance_stands : (program : Program) → IsWellFormed program → (scalars : List ℕ) (memories : List (List ℕ)) → FitsInput program scalars memories → (lists : List (Vec Token Global)) → TokensFit program lists → (i : ℕ) (x : Instance) (leaf : Leaf) → slice_get program.instances.items i ≡ Some x → slice_get program.bodies.items x.body ≡ Some leaf → StandsFit (kinds_of leaf) x.streams.items lists (leaf_state (kinds_in program) scalars memories x (Some leaf))
instance_stands program w scalars memories fits lists t i x leaf ex el =
    let (other, given) = w.instances i x ex in
    let h : IsInstance program i x leaf = subst (λ l. IsInstance program i x l) (same_leaf other leaf (slice_get program.bodies.items x.body) given.body el) given in
    record {
      state = first_fits program scalars memories fits i x leaf h;
      tokens = λ p. tokens_at program i x leaf h lists t p (slice_get leaf.streams.items p) refl;
    }
  where
    same_leaf : (a b : Leaf) (o : Option Leaf) → o ≡ Some a → o ≡ Some b → a ≡ b
    same_leaf a b o e f = cc

pub leaf_typed : (program : Program) → IsWellFormed program → (b : ℕ) (leaf : Leaf) → slice_get program.bodies.items b ≡ Some leaf → IsTypedCode (kinds_of leaf) leaf.code.items
leaf_typed program w b leaf e = (w.leaves b leaf e).typed

-- lists of a round have tokens of the kinds of their streams
pub round_tokens : (program : Program) → IsWellFormed program → (scalars : List ℕ) (memories : List (List ℕ)) → FitsInput program scalars memories → (n : ℕ) (lists : List (Vec Token Global)) → ((s : ℕ) → whole lists s ≡ stream (network_of program scalars memories) n s) → TokensFit program lists
round_tokens program w scalars memories fits n lists e s =
    subst (All (IsTokenOf (stream_kind program s))) (sym (e s))
    (stream_fits (stream_kind program) (memory_kind program) (network_of program scalars memories) (network_keeps program w scalars memories fits) n s)

-- the ticks of an instance, where it has no leaf and where it has one
pub ticks_none : (program : Program) (scalars : List ℕ) (memories : List (List ℕ)) (i n : ℕ) (ins : ℕ → List Token) (v : List Tick) → slice_get program.instances.items i ≡ None → v ≡ Ended ∷ [] → v ≡ ticks (instance_job program.bodies.items (slice_get program.instances.items i) (instance_state program scalars memories (slice_get program.instances.items i)) n) ins
ticks_none program scalars memories i n ins v e ev =
    ev ∙ sym (ap (λ (o : Option Instance). ticks (instance_job program.bodies.items o (instance_state program scalars memories o) n) ins) e)

pub ticks_no_leaf : (program : Program) (scalars : List ℕ) (memories : List (List ℕ)) (i n : ℕ) (ins : ℕ → List Token) (v : List Tick) (x : Instance) → slice_get program.instances.items i ≡ Some x → slice_get program.bodies.items x.body ≡ None → v ≡ Ended ∷ [] → v ≡ ticks (instance_job program.bodies.items (slice_get program.instances.items i) (instance_state program scalars memories (slice_get program.instances.items i)) n) ins
ticks_no_leaf program scalars memories i n ins v x e el ev =
    ev
    ∙ sym (ap (λ (l : Option Leaf). ticks (leaf_job l x (leaf_state (kinds_in program) scalars memories x l) n) ins) el)
    ∙ sym (ap (λ (o : Option Instance). ticks (instance_job program.bodies.items o (instance_state program scalars memories o) n) ins) e)

pub ticks_leaf : (program : Program) (scalars : List ℕ) (memories : List (List ℕ)) (i n : ℕ) (ins : ℕ → List Token) (v : List Tick) (x : Instance) (leaf : Leaf) (streams : List ℕ) (σ : State) → slice_get program.instances.items i ≡ Some x → slice_get program.bodies.items x.body ≡ Some leaf → streams ≡ x.streams.items → σ ≡ leaf_state (kinds_in program) scalars memories x (Some leaf) → v ≡ ticks (at_streams (numbers streams) (job_of (kinds_of leaf) leaf.code.items σ n)) ins → v ≡ ticks (instance_job program.bodies.items (slice_get program.instances.items i) (instance_state program scalars memories (slice_get program.instances.items i)) n) ins
ticks_leaf program scalars memories i n ins v x leaf streams σ e el es eσ ev =
    ev
    ∙ ap (λ (l : List ℕ). ticks (at_streams (numbers l) (job_of (kinds_of leaf) leaf.code.items σ n)) ins) es
    ∙ ap (λ (τ : State). ticks (at_streams (numbers x.streams.items) (job_of (kinds_of leaf) leaf.code.items τ n)) ins) eσ
    ∙ sym (ap (λ (l : Option Leaf). ticks (leaf_job l x (leaf_state (kinds_in program) scalars memories x l) n) ins) el)
    ∙ sym (ap (λ (o : Option Instance). ticks (instance_job program.bodies.items o (instance_state program scalars memories o) n) ins) e)
