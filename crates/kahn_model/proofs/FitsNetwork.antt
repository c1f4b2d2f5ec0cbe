-- In a well-formed program's network on an input that fits, every token is one of its stream's kind.
use Rattle.std.proofs.Common.{◌≡◌, ℕ, zero, suc, ◌<◌, List, [], ◌∷◌, length, drop, get_or, replicate, map, Bool, true, false, ◌&&◌, Option, Some, None, refl, sym, ap, ◌∙◌, subst, ⊎_elim, arith}
use Rattle.std.specs.Prelude.{All, ◌==◌, if◌then◌else◌, flat_map, slice_get, slice_index, slice_index_or, slice_set}
use Rattle.std.proofs.lemmas.Nat.{pow_pos}
use Rattle.std.proofs.lemmas.Bool.{cases_eq}
use Rattle.std.proofs.lemmas.Bool.Decides.{nat_tests}
use Rattle.std.proofs.lemmas.List.Elements.{All-nil, All-cons, All-head, All-tail, All-append, All-drop, All-take}
use Rattle.std.proofs.lemmas.Option.{get_or_from_slice_get}
use Rattle.tapa_base.specs.declared.token.Token.{Token}
use Rattle.tapa_base.specs.declared.token.Token.TheVariants.{Datum, Eot}
use Rattle.tapa_base.specs.declared.kind.Kind.{Kind}
use Rattle.tapa_base.specs.declared.kind.Kind.TheVariants.{U64}
use Rattle.tapa_base.specs.Kinds.{bits_of, values_of, converted}
use Rattle.tapa_syntax.specs.declared.program.Array.{Array}
use Rattle.tapa_syntax.specs.declared.program.Bound.{Bound}
use Rattle.tapa_syntax.specs.declared.program.Bound.TheVariants.{Number, Top}
use Rattle.tapa_syntax.specs.declared.program.Instance.{Instance}
use Rattle.tapa_syntax.specs.declared.program.Leaf.{Leaf}
use Rattle.tapa_syntax.specs.declared.program.Program.{Program}
use Rattle.tapa_syntax.specs.declared.program.Scalar.{Scalar}
use Rattle.tapa_syntax.specs.LeafKinds.{kinds_of, writes_of}
use Rattle.tapa_syntax.specs.WellFormed.{IsBoundTo, last_kind, IsInstance, IsWellFormed}
use Rattle.kahn_model.specs.Behavior.{Action, Local, Put, Load, Store, Tick, Did, Take, See, End, StreamOperation, Read, Peek, TestEot, Open, Behavior, Finished, OutOfTurns, Act, Await, Offer, NoToken, WrongToken, Answer, judge_token, first_offer, takes, tick_of, lists_after, on_offer, ticks}
use Rattle.kahn_model.specs.Network.{Network, put_on, stream, round}
use Rattle.kahn_model.specs.Counts.{round_of, ticks_made, written}
use Rattle.kahn_model.specs.Trace.{cell, job_of, act_at, at_streams}
use Rattle.kahn_model.specs.ProgramNetwork.{stream_at, leaf_job, instance_job}
use Rattle.kahn_model.specs.Start.{through, bound_value, with_values, leaf_state, instance_state, network_of}
use Rattle.kahn_model.specs.Fits.{IsTokenOf, ActionFits, KeepsKinds, TickFits, stream_kind, kind_in_leaf, leaf_of, memory_kind, FitsInput}
use Rattle.tapa_syntax.proofs.Values.{converted_fits}
use Rattle.kahn_model.specs.Fits.{IsFitState}
use Rattle.kahn_model.proofs.Fits.{set_below, zeros_below, job_keeps_kinds}
use Rattle.kahn_model.proofs.Wired.{Keeps, KeepsAct, body_keeps}
use Rattle.kahn_model.proofs.WellFormed.{get_there, stream_kind_at, same_leaf}
use Rattle.tapa_base.proofs.Got.{of_map_got as mapped_there}

-- a behavior at the streams of an instance
act_at_fits : (S T M : ℕ → Kind) (w : ℕ → Option Bool) (f : ℕ → ℕ) → ((s : ℕ) (b : Bool) → w s ≡ Some b → S s ≡ T (f s)) → (a : Action) → KeepsAct w a → ActionFits S M a → ActionFits T M (act_at f a)
act_at_fits S T M w f h Local k g = tt
act_at_fits S T M w f h (Put s t) k g = subst (λ c. IsTokenOf c t) (h s true k) g
act_at_fits S T M w f h (Load m i) k g = g
act_at_fits S T M w f h (Store m i v) k g = g

at_streams_fits : (S T M : ℕ → Kind) (w : ℕ → Option Bool) (f : ℕ → ℕ) → ((s : ℕ) (b : Bool) → w s ≡ Some b → S s ≡ T (f s)) → (a : Behavior) → Keeps w a → KeepsKinds S M a → KeepsKinds T M (at_streams f a)
at_streams_fits S T M w f h Finished k g = tt
at_streams_fits S T M w f h OutOfTurns k g = tt
at_streams_fits S T M w f h (Act a rest) (k, ks) (g, gs) = (act_at_fits S T M w f h a k g, at_streams_fits S T M w f h rest ks gs)
at_streams_fits S T M w f h (Await s how rest) (k, ks) g =
    λ t v i e. at_streams_fits S T M w f h (rest v) (ks v) (g t v (subst (λ c. IsTokenOf c t) (sym (h s false k)) i) e)

-- its ticks on lists of tokens that fit
abbrev AreOf : (ℕ → Kind) → (ℕ → List Token) → Type 0
AreOf S ins = (s : ℕ) → All (IsTokenOf (S s)) (ins s)

if_dropped : (P : Token → Type 0) (b : Bool) (xs : List Token) → All P xs → All P (if b then drop 1 xs else xs)
if_dropped P true xs h = All-drop P 1 xs h
if_dropped P false xs h = h

after_fits : (S : ℕ → Kind) (how : StreamOperation) (s : ℕ) (ins : ℕ → List Token) → AreOf S ins → AreOf S (lists_after how s ins)
after_fits S how s ins h p = if_dropped (IsTokenOf (S p)) (takes how && s == p) (ins p) (h p)

judged_same : (how : StreamOperation) (t u : Token) (v : ℕ) → judge_token how t ≡ Answer u v → u ≡ t
judged_same Read (Datum d) u v e = cc
judged_same Read Eot u v e = absurd (cc)
judged_same Peek (Datum d) u v e = cc
judged_same Peek Eot u v e = absurd (cc)
judged_same TestEot (Datum d) u v e = cc
judged_same TestEot Eot u v e = cc
judged_same Open (Datum d) u v e = absurd (cc)
judged_same Open Eot u v e = cc

judged : (P : Tick → Type 0) (how : StreamOperation) (t : Token) (f : Token → ℕ → List Tick) (o : Offer) → ((v : ℕ) → judge_token how t ≡ Answer t v → All P (f t v)) → judge_token how t ≡ o → All P (on_offer o [] [] f)
judged P how t f NoToken h e = All-nil P
judged P how t f WrongToken h e = All-nil P
judged P how t f (Answer u v) h e =
    let same = judged_same how t u v e in
    subst (λ x. All P (f x v)) (sym same) (h v (subst (λ x. judge_token how t ≡ Answer x v) same e))

offered : (P : Tick → Type 0) (Q : Token → Type 0) (how : StreamOperation) (l : List Token) (f : Token → ℕ → List Tick) → All Q l → ((t : Token) (v : ℕ) → Q t → judge_token how t ≡ Answer t v → All P (f t v)) → All P (on_offer (first_offer how l) [] [] f)
offered P Q how [] f g h = All-nil P
offered P Q how (t ∷ l) f g h = judged P how t f (judge_token how t) (λ v e. h t v (All-head Q t l g) e) refl

tick_of_fits : (S M : ℕ → Kind) (how : StreamOperation) (s : ℕ) (t : Token) → IsTokenOf (S s) t → TickFits S M (tick_of how s t)
tick_of_fits S M Read s t h = h
tick_of_fits S M Peek s t h = h
tick_of_fits S M TestEot s t h = h
tick_of_fits S M Open s t h = h

pub ticks_fit : (S M : ℕ → Kind) (a : Behavior) (ins : ℕ → List Token) → KeepsKinds S M a → AreOf S ins → All (TickFits S M) (ticks a ins)
ticks_fit S M Finished ins g h = All-cons (TickFits S M) End [] tt (All-nil (TickFits S M))
ticks_fit S M OutOfTurns ins g h = All-nil (TickFits S M)
ticks_fit S M (Act a rest) ins (g, gs) h = All-cons (TickFits S M) (Did a) (ticks rest ins) g (ticks_fit S M rest ins gs h)
ticks_fit S M (Await s how rest) ins g h =
    offered (TickFits S M) (IsTokenOf (S s)) how (ins s) _ (h s)
    (λ t v i e. All-cons (TickFits S M) (tick_of how s t) (ticks (rest v) (lists_after how s ins)) (tick_of_fits S M how s t i)
    (ticks_fit S M (rest v) (lists_after how s ins) (g t v i e) (after_fits S how s ins h)))

-- what ticks that fit put on a stream
if_put : (S : ℕ → Kind) (r s : ℕ) (t : Token) → IsTokenOf (S r) t → All (IsTokenOf (S s)) (if r == s then t ∷ [] else [])
if_put S r s t h =
    ⊎_elim
    (λ (e : r ≡ s).
    let one : (if r == s then t ∷ [] else []) ≡ t ∷ [] = grind (arith, nat_tests) in
    subst (All (IsTokenOf (S s))) (sym one) (All-cons (IsTokenOf (S s)) t [] (subst (λ x. IsTokenOf (S x) t) e h) (All-nil (IsTokenOf (S s)))))
    (λ (d : r ≡ s → ⊥).
    let none : (if r == s then t ∷ [] else []) ≡ [] = grind (arith, nat_tests) in
    subst (All (IsTokenOf (S s))) (sym none) (All-nil (IsTokenOf (S s))))
    (cases_eq r s)

put_fits : (S M : ℕ → Kind) (s : ℕ) (t : Tick) → TickFits S M t → All (IsTokenOf (S s)) (put_on s t)
put_fits S M s (Did Local) h = All-nil (IsTokenOf (S s))
put_fits S M s (Did (Put r t)) h = if_put S r s t h
put_fits S M s (Did (Load m a)) h = All-nil (IsTokenOf (S s))
put_fits S M s (Did (Store m a v)) h = All-nil (IsTokenOf (S s))
put_fits S M s (Take r t) h = All-nil (IsTokenOf (S s))
put_fits S M s (See r t) h = All-nil (IsTokenOf (S s))
put_fits S M s End h = All-nil (IsTokenOf (S s))

puts_fit : (S M : ℕ → Kind) (s : ℕ) (ts : List Tick) → All (TickFits S M) ts → All (IsTokenOf (S s)) (flat_map (put_on s) ts)
puts_fit S M s [] h = All-nil (IsTokenOf (S s))
puts_fit S M s (t ∷ ts) h =
    All-append (IsTokenOf (S s)) (put_on s t) (flat_map (put_on s) ts) (put_fits S M s t (All-head (TickFits S M) t ts h)) (puts_fit S M s ts (All-tail (TickFits S M) t ts h))

-- the streams of a network whose jobs keep kinds
pub record KeepsAll (S : ℕ → Kind) (M : ℕ → ℕ → Kind) (net : Network) : Type 0 where
  pub each : (i n : ℕ) → KeepsKinds S (M i) (net.job i n)

pub stream_fits : (S : ℕ → Kind) (M : ℕ → ℕ → Kind) (net : Network) → KeepsAll S M net → (n : ℕ) → AreOf S (stream net n)
stream_fits S M net h zero s = All-nil (IsTokenOf (S s))
stream_fits S M net h (suc n) s =
    puts_fit S (M (net.producer s)) s _ (ticks_fit S (M (net.producer s)) _ (stream net n) (h.each (net.producer s) (suc n)) (stream_fits S M net h n))

pub round_fits : (S : ℕ → Kind) (M : ℕ → ℕ → Kind) (net : Network) → KeepsAll S M net → (n i : ℕ) → All (TickFits S (M i)) (round net n i)
round_fits S M net h zero i = All-nil (TickFits S (M i))
round_fits S M net h (suc n) i = ticks_fit S (M i) _ (stream net n) (h.each i (suc n)) (stream_fits S M net h n)

pub made_fits : (S : ℕ → Kind) (M : ℕ → ℕ → Kind) (net : Network) → KeepsAll S M net → (k : ℕ → ℕ) (i : ℕ) → All (TickFits S (M i)) (ticks_made net k i)
made_fits S M net h k i = All-take (TickFits S (M i)) (k i) _ (round_fits S M net h (round_of net k) i)

pub written_fits : (S : ℕ → Kind) (M : ℕ → ℕ → Kind) (net : Network) → KeepsAll S M net → (k : ℕ → ℕ) (s : ℕ) → All (IsTokenOf (S s)) (written net k s)
written_fits S M net h k s = puts_fit S (M (net.producer s)) s _ (made_fits S M net h k (net.producer s))

-- first states
with_values_below : (xs vs vars : List ℕ) (k : ℕ → ℕ) → ((y : ℕ) → get_or vars y 0 < k y) → ((p x v : ℕ) → slice_get xs p ≡ Some x → slice_get vs p ≡ Some v → v < k x) → (y : ℕ) → get_or (with_values xs vs vars) y 0 < k y
with_values_below [] vs vars k h g = h
with_values_below (x ∷ xs) [] vars k h g = h
with_values_below (x ∷ xs) (v ∷ vs) vars k h g = with_values_below xs vs (slice_set vars x v) k (set_below vars x v k h (g 0 x v refl refl)) (λ p. g (suc p))

pub through_fits : (from : Kind) (ks : List Kind) (v : ℕ) → v < values_of from → through from ks v < values_of (last_kind from ks)
through_fits from [] v h = h
through_fits from (to ∷ rest) v h = through_fits to rest (converted from to v) (converted_fits from to v)

bound_fits : (program : Program) (scalars : List ℕ) (memories : List (List ℕ)) → FitsInput program scalars memories → (k : Kind) (b : Bound) → IsBoundTo program k b → bound_value (map (λ (c : Scalar). c.kind) program.scalars.items) scalars b < values_of k
bound_fits program scalars memories fits k (Number n) h = h
bound_fits program scalars memories fits k (Top x ks) (j, is, last) =
    let kinds = map (λ (c : Scalar). c.kind) program.scalars.items in
    let (c, there, same) = mapped_there (λ (c : Scalar). c.kind) program.scalars.items x j is in
    let from : slice_index_or kinds x U64 ≡ c.kind = get_or_from_slice_get kinds x j U64 is ∙ sym same in
    let v = slice_index scalars x in
    let l : v < values_of (slice_index_or kinds x U64) = subst (λ q. v < values_of q) (sym from) (fits.scalars_fit x c there) in
    let end : last_kind (slice_index_or kinds x U64) ks.items ≡ k = ap (λ q. last_kind q ks.items) (get_or_from_slice_get kinds x j U64 is) ∙ last in
    subst (λ q. through (slice_index_or kinds x U64) ks.items v < values_of q) end (through_fits (slice_index_or kinds x U64) ks.items v l)

arrays_below : (arrays : List Array) (a i m : ℕ) → 0 < m → cell (map (λ (r : Array). replicate r.cells 0) arrays) a i < m
arrays_below [] a i m h = h
arrays_below (r ∷ arrays) zero i m h = zeros_below r.cells i m h
arrays_below (r ∷ arrays) (suc a) i m h = arrays_below arrays a i m h

cells_below : (ms : List ℕ) (memories : List (List ℕ)) (p i b : ℕ) → 0 < b → ((m : ℕ) → slice_get ms p ≡ Some m → get_or (slice_index_or memories m []) i 0 < b) → cell (map (λ m. slice_index_or memories m []) ms) p i < b
cells_below [] memories p i b h f = h
cells_below (m ∷ ms) memories zero i b h f = f m refl
cells_below (m ∷ ms) memories (suc p) i b h f = cells_below ms memories p i b h f

all_at : (b : ℕ) (xs : List ℕ) (i : ℕ) → 0 < b → All (λ v. v < b) xs → get_or xs i 0 < b
all_at b [] i h a = h
all_at b (x ∷ xs) zero h a = All-head (λ v. v < b) x xs a
all_at b (x ∷ xs) (suc i) h a = all_at b xs i h (All-tail (λ v. v < b) x xs a)

memory_fits : (program : Program) (scalars : List ℕ) (memories : List (List ℕ)) → FitsInput program scalars memories → (i : ℕ) (x : Instance) (leaf : Leaf) → IsInstance program i x leaf → (p j m : ℕ) → slice_get x.memories.items p ≡ Some m → get_or (slice_index_or memories m []) j 0 < values_of ((kinds_of leaf).memories p)
memory_fits program scalars memories fits i x leaf h p j m e =
    let k = slice_index_or leaf.memories.items p U64 in
    let there : slice_get leaf.memories.items p ≡ Some k = get_there leaf.memories.items x.memories.items p m (sym h.memories_len) e U64 in
    let at = h.memories p m k e there in
    subst (λ q. get_or (slice_index_or memories m []) j 0 < values_of q) at.kind
    (all_at (values_of at.memory.kind) (slice_index_or memories m []) j (pow_pos (bits_of at.memory.kind)) (fits.cells_fit m at.memory at.is))

pub first_fits : (program : Program) (scalars : List ℕ) (memories : List (List ℕ)) → FitsInput program scalars memories → (i : ℕ) (x : Instance) (leaf : Leaf) → IsInstance program i x leaf → IsFitState (kinds_of leaf) (leaf_state (map (λ (c : Scalar). c.kind) program.scalars.items) scalars memories x (Some leaf))
first_fits program scalars memories fits i x leaf h =
    let kinds = map (λ (c : Scalar). c.kind) program.scalars.items in
    record {
      vars = with_values_below leaf.scalars.items (map (bound_value kinds scalars) x.scalars.items) (replicate (length leaf.vars.items) 0) (λ y. values_of ((kinds_of leaf).vars y))
          (λ y. zeros_below (length leaf.vars.items) y _ (pow_pos (bits_of ((kinds_of leaf).vars y))))
          (λ p y v ey ev.
          let (b, eb, same) = mapped_there (bound_value kinds scalars) x.scalars.items p v ev in
          subst (λ q. q < values_of ((kinds_of leaf).vars y)) same (bound_fits program scalars memories fits _ b (h.scalars p y b eb ey)));
      arrays = λ a j. arrays_below leaf.arrays.items a j _ (pow_pos (bits_of ((kinds_of leaf).arrays a)));
      cells = λ p j. cells_below x.memories.items memories p j _ (pow_pos (bits_of ((kinds_of leaf).memories p))) (memory_fits program scalars memories fits i x leaf h p j);
    }

leaf_keeps : (program : Program) → IsWellFormed program → (scalars : List ℕ) (memories : List (List ℕ)) → FitsInput program scalars memories → (i n : ℕ) (x : Instance) (o : Option Leaf) → slice_get program.instances.items i ≡ Some x → slice_get program.bodies.items x.body ≡ o → KeepsKinds (stream_kind program) (kind_in_leaf o) (leaf_job o x (leaf_state (map (λ (c : Scalar). c.kind) program.scalars.items) scalars memories x o) n)
leaf_keeps program w scalars memories fits i n x None ex eo = tt
leaf_keeps program w scalars memories fits i n x (Some leaf) ex eo =
    let (other, given) = w.instances i x ex in
    let h : IsInstance program i x leaf = subst (λ l. IsInstance program i x l) (same_leaf other leaf _ given.body eo) given in
    let ok = w.leaves x.body leaf eo in
    let σ = leaf_state (map (λ (c : Scalar). c.kind) program.scalars.items) scalars memories x (Some leaf) in
    at_streams_fits (kinds_of leaf).streams (stream_kind program) (kinds_of leaf).memories (writes_of leaf.streams.items) (stream_at x) (stream_kind_at program i x leaf h) (job_of (kinds_of leaf) leaf.code.items σ n)
    (body_keeps leaf ok.uses σ n)
    (job_keeps_kinds (kinds_of leaf) leaf.code.items ok.typed σ (first_fits program scalars memories fits i x leaf h) n)

instance_keeps : (program : Program) → IsWellFormed program → (scalars : List ℕ) (memories : List (List ℕ)) → FitsInput program scalars memories → (i n : ℕ) (o : Option Instance) → slice_get program.instances.items i ≡ o → KeepsKinds (stream_kind program) (kind_in_leaf (leaf_of program o)) (instance_job program.bodies.items o (instance_state program scalars memories o) n)
instance_keeps program w scalars memories fits i n None e = tt
instance_keeps program w scalars memories fits i n (Some x) e = leaf_keeps program w scalars memories fits i n x (slice_get program.bodies.items x.body) e refl

pub network_keeps : (program : Program) → IsWellFormed program → (scalars : List ℕ) (memories : List (List ℕ)) → FitsInput program scalars memories → KeepsAll (stream_kind program) (memory_kind program) (network_of program scalars memories)
unfolding network_of
network_keeps program w scalars memories fits = record {
  each = λ i n. instance_keeps program w scalars memories fits i n (slice_get program.instances.items i) refl;
}
