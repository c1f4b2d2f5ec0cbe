-- Counts, in the order of each instance's number.
use Rattle.std.proofs.Common.{◌≡◌, ℕ, zero, suc, ◌<◌, ◌≤◌, List, [], ◌∷◌, length, Some, refl, sym, ap, subst, ⊎_elim, arith}
use Rattle.std.specs.Prelude.{slice_get, flat_map}
use Rattle.std.proofs.lemmas.Bool.{cases_lt, cases_eq}
use Rattle.std.proofs.lemmas.Bool.Decides.{nat_tests}
use Rattle.std.proofs.lemmas.List.{length-take-le, length-take}
use Rattle.std.proofs.lemmas.Option.{slice_get_within}
use Rattle.tapa_base.specs.declared.token.Token.{Token}
use Rattle.kahn_model.specs.Prefix.{IsPrefixOf}
use Rattle.kahn_model.specs.Behavior.{Local, Put, Load, Store, Tick, Did, Take, See, End, StreamOperation, Read, Peek, TestEot, Open, Behavior, Finished, OutOfTurns, Act, Await, Offer, NoToken, WrongToken, Answer, first_offer, tick_of, lists_after, on_offer, ticks}
use Rattle.kahn_model.specs.Network.{Network, IsNetwork, OwnAct, Owns, put_on, take_from, stream, round}
use Rattle.kahn_model.specs.Counts.{total, round_of, ticks_made, written, taken, next, HasToken, HasRoom, IsSupplied, IsAllowed, with_tick_of, after, AreAllowed, zeros, IsReachable, IsEnding}
use Rattle.kahn_model.proofs.Order.{prefix_flat_map, prefix_take, prefix_length, prefix_get, prefix_whole}
use Rattle.kahn_model.proofs.Grow.{round_le}

abbrev pub IsBelow : (ℕ → ℕ) → (ℕ → ℕ) → Type 0
IsBelow k m = (i : ℕ) → k i ≤ m i

pub total_grows : (n : ℕ) (k m : ℕ → ℕ) → IsBelow k m → total n k ≤ total n m
total_grows zero k m h = omega arith
total_grows (suc n) k m h = let a = total_grows n k m h in let b = h n in omega arith

pub bump_same : (i : ℕ) (k : ℕ → ℕ) → with_tick_of i k i ≡ suc (k i)
bump_same i k = grind (arith, nat_tests)

pub bump_other : (i j : ℕ) (k : ℕ → ℕ) → (j ≡ i → ⊥) → with_tick_of i k j ≡ k j
bump_other i j k h = grind (arith, nat_tests)

pub bump_above : (i : ℕ) (k : ℕ → ℕ) → IsBelow k (with_tick_of i k)
bump_above i k j = grind (arith, nat_tests)

total_past : (n i : ℕ) (k : ℕ → ℕ) → n ≤ i → total n (with_tick_of i k) ≡ total n k
total_past zero i k h = refl
total_past (suc n) i k h = let a = total_past n i k (omega arith) in let b = bump_other i n k (omega arith) in omega arith

pub total_bump : (n i : ℕ) (k : ℕ → ℕ) → i < n → total n (with_tick_of i k) ≡ suc (total n k)
total_bump zero i k h = absurd (omega arith)
total_bump (suc n) i k h =
    ⊎_elim
    (λ l. let a = total_bump n i k l in let b = bump_other i n k (omega arith) in omega arith)
    (λ l. let e : n ≡ i = omega arith in
    let a = total_past n i k l in let b : with_tick_of i k n ≡ suc (k n) = subst (λ j. with_tick_of j k n ≡ suc (k n)) e (bump_same n k) in omega arith)
    (cases_lt i n)

-- a tick of instance i is on its own streams
abbrev pub OwnTick : (ℕ → ℕ) → (ℕ → ℕ) → ℕ → Tick → Type 0
OwnTick producer consumer i (Did a) = OwnAct producer i a
OwnTick producer consumer i (Take s t) = consumer s ≡ i
OwnTick producer consumer i (See s t) = consumer s ≡ i
OwnTick producer consumer i End = Unit {0}

own_ask : (p c : ℕ → ℕ) (i : ℕ) (how : StreamOperation) (s : ℕ) (t : Token) → c s ≡ i → OwnTick p c i (tick_of how s t)
own_ask p c i Read s t e = e
own_ask p c i Peek s t e = e
own_ask p c i TestEot s t e = e
own_ask p c i Open s t e = e

-- what holds of each tick of a list
own_found : (p c : ℕ → ℕ) (i : ℕ) (o : Offer) (f : Token → ℕ → List Tick) → ((t : Token) (v j : ℕ) (u : Tick) → slice_get (f t v) j ≡ Some u → OwnTick p c i u) → (j : ℕ) (u : Tick) → slice_get (on_offer o [] [] f) j ≡ Some u → OwnTick p c i u
own_found p c i NoToken f h j u e = cc
own_found p c i WrongToken f h j u e = cc
own_found p c i (Answer t v) f h j u e = h t v j u e

own_cons : (p c : ℕ → ℕ) (i : ℕ) (x : Tick) (xs : List Tick) → OwnTick p c i x → ((j : ℕ) (u : Tick) → slice_get xs j ≡ Some u → OwnTick p c i u) → (j : ℕ) (u : Tick) → slice_get (x ∷ xs) j ≡ Some u → OwnTick p c i u
own_cons p c i x xs o h zero u e = let same : x ≡ u = cc in subst (OwnTick p c i) same o
own_cons p c i x xs o h (suc j) u e = h j u e

own_none : (p c : ℕ → ℕ) (i j : ℕ) (u : Tick) → slice_get [] j ≡ Some u → OwnTick p c i u
own_none p c i j u e = cc

pub own_ticks : (p c : ℕ → ℕ) (i : ℕ) (a : Behavior) (xs : ℕ → List Token) → Owns p c i a → (j : ℕ) (u : Tick) → slice_get (ticks a xs) j ≡ Some u → OwnTick p c i u
own_ticks p c i Finished xs o j u e = own_cons p c i End [] tt (own_none p c i) j u e
own_ticks p c i OutOfTurns xs o j u e = own_none p c i j u e
own_ticks p c i (Act a rest) xs (o, os) j u e = own_cons p c i (Did a) (ticks rest xs) o (own_ticks p c i rest xs os) j u e
own_ticks p c i (Await s how rest) xs (o, os) j u e =
    own_found p c i (first_offer how (xs s)) _ (λ t v. own_cons p c i (tick_of how s t) _ (own_ask p c i how s t o) (own_ticks p c i (rest v) (lists_after how s xs) (os v))) j u e

pub own_round : (net : Network) → IsNetwork net → (n i j : ℕ) (u : Tick) → slice_get (round net n i) j ≡ Some u → OwnTick net.producer net.consumer i u
own_round net ok zero i j u e = own_none _ _ i j u e
own_round net ok (suc n) i j u e = own_ticks _ _ i _ (stream net n) (ok.owns i (suc n)) j u e

-- what is made, written and taken grows with the count
pub made_le : (net : Network) → IsNetwork net → (k m : ℕ → ℕ) → IsBelow k m → (i : ℕ) → IsPrefixOf (ticks_made net k i) (ticks_made net m i)
made_le net ok k m h i =
    let le : round_of net k ≤ round_of net m = let t = total_grows net.size k m h in omega arith in
    prefix_take (k i) (m i) _ _ (h i) (round_le net ok (round_of net k) (round_of net m) le i)

pub written_le : (net : Network) → IsNetwork net → (k m : ℕ → ℕ) → IsBelow k m → (s : ℕ) → length (written net k s) ≤ length (written net m s)
written_le net ok k m h s = prefix_length _ _ (prefix_flat_map (put_on s) _ _ (made_le net ok k m h (net.producer s)))

pub taken_le : (net : Network) → IsNetwork net → (k m : ℕ → ℕ) → IsBelow k m → (s : ℕ) → length (taken net k s) ≤ length (taken net m s)
taken_le net ok k m h s = prefix_length _ _ (prefix_flat_map (take_from s) _ _ (made_le net ok k m h (net.consumer s)))

-- an instance that has as many ticks in a later count has the same ticks there, if it has a next one
pub made_same : (net : Network) → IsNetwork net → (k m : ℕ → ℕ) → IsBelow k m → (i : ℕ) → k i ≡ m i → (t : Tick) → next net k i ≡ Some t → ticks_made net k i ≡ ticks_made net m i
made_same net ok k m h i e t n =
    let there : k i < length (round net (round_of net k) i) = slice_get_within _ (k i) t n in
    let l1 = length-take-le (k i) (round net (round_of net k) i) (omega arith) in
    let l2 = length-take (m i) (round net (round_of net m) i) in
    prefix_whole _ _ (made_le net ok k m h i) (omega arith)

pub next_same : (net : Network) → IsNetwork net → (k m : ℕ → ℕ) → IsBelow k m → (i : ℕ) → k i ≡ m i → (t : Tick) → next net k i ≡ Some t → next net m i ≡ Some t
next_same net ok k m h i e t n =
    let le : round_of net k ≤ round_of net m = let t = total_grows net.size k m h in omega arith in
    subst (λ j. slice_get (round net (round_of net m) i) j ≡ Some t) e (prefix_get _ _ (k i) t (round_le net ok (round_of net k) (round_of net m) le i) n)

pub taken_same : (net : Network) (k m : ℕ → ℕ) (i s : ℕ) → net.consumer s ≡ i → ticks_made net k i ≡ ticks_made net m i → taken net k s ≡ taken net m s
taken_same net k m i s e h = ap (flat_map (take_from s)) (subst (λ j. ticks_made net k j ≡ ticks_made net m j) (sym e) h)

pub written_same : (net : Network) (k m : ℕ → ℕ) (i s : ℕ) → net.producer s ≡ i → ticks_made net k i ≡ ticks_made net m i → written net k s ≡ written net m s
written_same net k m i s e h = ap (flat_map (put_on s)) (subst (λ j. ticks_made net k j ≡ ticks_made net m j) (sym e) h)

waits_stay : (net : Network) → IsNetwork net → (k m : ℕ → ℕ) → IsBelow k m → (i s : ℕ) → net.consumer s ≡ i → ticks_made net k i ≡ ticks_made net m i → length (taken net k s) < length (written net k s) → length (taken net m s) < length (written net m s)
waits_stay net ok k m h i s e same l =
    let a = written_le net ok k m h s in
    let b = ap length (taken_same net k m i s e same) in
    omega arith

token_stays : (net : Network) → IsNetwork net → (k m : ℕ → ℕ) → IsBelow k m → (i : ℕ) → ticks_made net k i ≡ ticks_made net m i → (t : Tick) → OwnTick net.producer net.consumer i t → HasToken net k t → HasToken net m t
token_stays net ok k m h i same (Did a) o l = tt
token_stays net ok k m h i same (Take s t) o l = waits_stay net ok k m h i s o same l
token_stays net ok k m h i same (See s t) o l = waits_stay net ok k m h i s o same l
token_stays net ok k m h i same End o l = tt

room_stays : (net : Network) → IsNetwork net → (k m : ℕ → ℕ) → IsBelow k m → (i : ℕ) → ticks_made net k i ≡ ticks_made net m i → (t : Tick) → OwnTick net.producer net.consumer i t → HasRoom net k t → HasRoom net m t
room_stays net ok k m h i same (Did (Put s t)) o l =
    let a = taken_le net ok k m h s in
    let b = ap length (written_same net k m i s o same) in
    omega arith
room_stays net ok k m h i same (Did Local) o l = tt
room_stays net ok k m h i same (Did (Load a b)) o l = tt
room_stays net ok k m h i same (Did (Store a b c)) o l = tt
room_stays net ok k m h i same (Take s t) o l = tt
room_stays net ok k m h i same (See s t) o l = tt
room_stays net ok k m h i same End o l = tt

-- a tick whose token is there keeps it until it is made
pub fed_stays : (net : Network) → IsNetwork net → (k m : ℕ → ℕ) → IsBelow k m → (i : ℕ) → k i ≡ m i → IsSupplied net k i → IsSupplied net m i
fed_stays net ok k m h i e f =
    let same = made_same net ok k m h i e f.tick f.is_next in
    let own = own_round net ok (round_of net k) i (k i) f.tick f.is_next in
    record {
      inside = f.inside;
      tick = f.tick;
      is_next = next_same net ok k m h i e f.tick f.is_next;
      token = token_stays net ok k m h i same f.tick own f.token;
    }

-- a step that is allowed stays allowed until it is made
pub step_stays : (net : Network) → IsNetwork net → (k m : ℕ → ℕ) → IsBelow k m → (i : ℕ) → k i ≡ m i → IsAllowed net k i → IsAllowed net m i
step_stays net ok k m h i e a =
    let t = a.supplied.tick in
    let same = made_same net ok k m h i e t a.supplied.is_next in
    let own = own_round net ok (round_of net k) i (k i) t a.supplied.is_next in
    record {
      supplied = record {
        inside = a.supplied.inside;
        tick = t;
        is_next = next_same net ok k m h i e t a.supplied.is_next;
        token = token_stays net ok k m h i same t own a.supplied.token;
      };
      room = room_stays net ok k m h i same t own a.room;
    }

-- so every reachable count is below a count that allows no step
pub bump_below : (k m : ℕ → ℕ) (i : ℕ) → IsBelow k m → (k i ≡ m i → ⊥) → IsBelow (with_tick_of i k) m
bump_below k m i h d j =
    let hj = h j in
    let hi = h i in
    ⊎_elim
    (λ (e : j ≡ i). let b : with_tick_of i k j ≡ suc (k j) = subst (λ x. with_tick_of x k j ≡ suc (k j)) e (bump_same j k) in
    let c : k j ≡ k i = ap k e in let f : m j ≡ m i = ap m e in omega arith)
    (λ (e : j ≡ i → ⊥). let b = bump_other i j k e in omega arith)
    (cases_eq j i)

pub below_end : (net : Network) → IsNetwork net → (m : ℕ → ℕ) → ((i : ℕ) → IsAllowed net m i → ⊥) → (steps : List ℕ) (k : ℕ → ℕ) → IsBelow k m → AreAllowed net steps k → IsBelow (after steps k) m
below_end net ok m over [] k h a = h
below_end net ok m over (i ∷ steps) k h (a, rest) =
    below_end net ok m over steps (with_tick_of i k) (bump_below k m i h (λ e. over i (step_stays net ok k m h i e a))) rest

pub reach_below : (net : Network) → IsNetwork net → (k m : ℕ → ℕ) → IsReachable net k → IsEnding net m → IsBelow k m
reach_below net ok k m r e i =
    let b = below_end net ok m e.over r.steps zeros (λ j. omega arith) r.allowed i in
    let c = r.is_after i in
    omega arith

pub one_end : (net : Network) → IsNetwork net → (k m : ℕ → ℕ) → IsEnding net k → IsEnding net m → (i : ℕ) → k i ≡ m i
one_end net ok k m a b i =
    let x = reach_below net ok k m a.reachable b i in
    let y = reach_below net ok m k b.reachable a i in
    omega arith
