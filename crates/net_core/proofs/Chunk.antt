-- The ticks of one call are steps of one instance.
use Rattle.std.proofs.Common.{◌≡◌, ℕ, zero, suc, ◌+◌, ◌-◌, ◌<◌, ◌≤◌, List, [], ◌∷◌, ◌++◌, length, take, Some, refl, sym, ap, ◌∙◌, subst, arith, length-append, append_assoc}
use Rattle.std.specs.Prelude.{slice_get, flat_map, ◌==◌, if◌then◌else◌}
use Rattle.std.proofs.Math.Path.{fun_ext}
use Rattle.std.proofs.lemmas.Bool.Decides.{nat_tests}
use Rattle.std.proofs.lemmas.List.{append-nil, length-take-le}
use Rattle.std.proofs.lemmas.Option.{slice_get_within}
use Rattle.std.proofs.lemmas.Grind.{flat_map-append}
use Rattle.kahn_model.specs.declared.tick.Action.TheVariants.{Local, Put, Load, Store}
use Rattle.kahn_model.specs.declared.tick.Tick.{Tick}
use Rattle.kahn_model.specs.declared.tick.Tick.TheVariants.{Did, Take, See, End}
use Rattle.kahn_model.specs.Prefix.{IsPrefixOf}
use Rattle.kahn_model.specs.Behavior.{ticks}
use Rattle.kahn_model.specs.Network.{Network, IsNetwork, put_on, round}
use Rattle.kahn_model.specs.Counts.{total, round_of, ticks_made, written, taken, next, HasRoom, IsAllowed, with_tick_of, IsReachable, IsFounded}
use Rattle.kahn_model.proofs.Order.{prefix_trans, prefix_flat_map, prefix_take, prefix_get, prefix_whole}
use Rattle.kahn_model.proofs.Grow.{Grows, ticks_grow, round_le}
use Rattle.kahn_model.proofs.Count.{OwnTick, own_ticks, total_bump, bump_same, bump_other, bump_above, made_le, taken_le}
use Rattle.kahn_model.proofs.Reach.{reach_founded, all_made}
use Rattle.kahn_model.proofs.Local.{here_is_fed}
use Rattle.kahn_model.proofs.Ends.{reach_push}
use Rattle.net_core.proofs.Moves.{test_true}

-- m more ticks of instance i
abbrev pub plus : ℕ → ℕ → (ℕ → ℕ) → ℕ → ℕ
plus i m k j = if j == i then k j + m else k j

pub plus_same : (i m : ℕ) (k : ℕ → ℕ) → plus i m k i ≡ k i + m
plus_same i m k = grind (arith, nat_tests)

pub plus_other : (i m j : ℕ) (k : ℕ → ℕ) → (j ≡ i → ⊥) → plus i m k j ≡ k j
plus_other i m j k h = grind (arith, nat_tests)

pub plus_none : (i : ℕ) (k : ℕ → ℕ) → k ≡ plus i 0 k
plus_none i k = fun_ext (λ j. grind (arith, nat_tests))

pub plus_more : (i m : ℕ) (k : ℕ → ℕ) → plus i m (with_tick_of i k) ≡ plus i (suc m) k
plus_more i m k = fun_ext (λ j. grind (arith, nat_tests))

pub total_plus : (n i m : ℕ) (k : ℕ → ℕ) → i < n → total n (plus i m k) ≡ total n k + m
total_plus n i zero k h = ap (total n) (sym (plus_none i k)) ∙ omega arith
total_plus n i (suc m) k h =
    let a = total_plus n i m (with_tick_of i k) h in
    let b = total_bump n i k h in
    ap (total n) (sym (plus_more i m k)) ∙ omega arith

-- what a founded count has of each instance
pub made_other : (net : Network) → IsNetwork net → (k : ℕ → ℕ) (i j : ℕ) → IsFounded net k → IsFounded net (with_tick_of i k) → (j ≡ i → ⊥) → ticks_made net (with_tick_of i k) j ≡ ticks_made net k j
made_other net ok k i j r r' d =
    let a = all_made net ok k r j in
    let b = all_made net ok (with_tick_of i k) r' j in
    let e = bump_other i j k d in
    sym (prefix_whole _ _ (made_le net ok k (with_tick_of i k) (bump_above i k) j) (omega arith))

pub take_get : {A : Type 0} (n : ℕ) (xs : List A) (x : A) → slice_get xs n ≡ Some x → take (suc n) xs ≡ take n xs ++ x ∷ []
take_get n [] x e = cc
take_get zero (y ∷ xs) x e = let q : y ≡ x = cc in ap (λ z. z ∷ []) q
take_get (suc n) (y ∷ xs) x e = ap (λ l. y ∷ l) (take_get n xs x e)

pub made_more : (net : Network) → IsNetwork net → (k : ℕ → ℕ) (i : ℕ) (t : Tick) → i < net.size → IsFounded net k → next net k i ≡ Some t → ticks_made net (with_tick_of i k) i ≡ ticks_made net k i ++ t ∷ []
made_more net ok k i t inside r n =
    let us = round net (round_of net k) i in
    let vs = round net (round_of net (with_tick_of i k)) i in
    let tb = total_bump net.size i k inside in
    let le = round_le net ok (round_of net k) (round_of net (with_tick_of i k)) (omega arith) i in
    let at : slice_get vs (k i) ≡ Some t = prefix_get us vs (k i) t le n in
    let there = slice_get_within vs (k i) t at in
    let l1 : length (take (k i) us) ≡ k i = all_made net ok k r i in
    let l2 = length-take-le (k i) vs (omega arith) in
    let same : take (k i) us ≡ take (k i) vs = prefix_whole _ _ (prefix_take (k i) (k i) us vs (omega arith) le) (omega arith) in
    ap (λ m. take m vs) (bump_same i k) ∙ take_get (k i) vs t at ∙ ap (λ l. l ++ t ∷ []) (sym same)

-- room for what is put on the instance's own streams
abbrev pub HasRoomFor : Network → (ℕ → ℕ) → ℕ → List Tick → Type 0
HasRoomFor net k i ts =
    (s : ℕ) → net.producer s ≡ i → 0 < length (flat_map (put_on s) ts) → length (written net k s) - length (taken net k s) + length (flat_map (put_on s) ts) ≤ net.depth s

-- the count after the ticks
pub record Chunk (net : Network) (k : ℕ → ℕ) (i : ℕ) (ts : List Tick) (later : ℕ → ℕ) : Type 0 where
  pub reachable : IsReachable net later
  pub own : ticks_made net later i ≡ ticks_made net k i ++ ts
  pub other : (j : ℕ) → (j ≡ i → ⊥) → ticks_made net later j ≡ ticks_made net k j
  pub first : 0 < length ts → IsAllowed net k i

room_of : (net : Network) → IsNetwork net → (k : ℕ → ℕ) (i : ℕ) (t : Tick) (ts : List Tick) → OwnTick net.producer net.consumer i t → HasRoomFor net k i (t ∷ ts) → HasRoom net k t
room_of net ok k i (Did (Put s u)) ts own h =
    let e : flat_map (put_on s) (Did (Put s u) ∷ ts) ≡ u ∷ flat_map (put_on s) ts = ap (λ b. (if b then u ∷ [] else []) ++ flat_map (put_on s) ts) (test_true s s refl) in
    let l = ap length e in
    let r = h s own (omega arith) in
    omega arith
room_of net ok k i (Did Local) ts own h = tt
room_of net ok k i (Did (Load a b)) ts own h = tt
room_of net ok k i (Did (Store a b c)) ts own h = tt
room_of net ok k i (Take s u) ts own h = tt
room_of net ok k i (See s u) ts own h = tt
room_of net ok k i End ts own h = tt

-- a tick of the instance's job on the tokens that are written is a step
pub is_step : (net : Network) → IsNetwork net → (k : ℕ → ℕ) (n i : ℕ) (t : Tick) (ts : List Tick) → i < net.size → IsReachable net k → slice_get (ticks (net.job i n) (written net k)) (k i) ≡ Some t → HasRoomFor net k i (t ∷ ts) → (a : IsAllowed net k i) × (a.supplied.tick ≡ t)
is_step net ok k n i t ts inside r at room =
    let f = here_is_fed net ok k (reach_founded net k r) n i t inside at in
    let own = own_ticks net.producer net.consumer i (net.job i n) (written net k) (ok.owns i n) (k i) t at in (
      record { supplied = record { inside = inside; tick = t; is_next = f.0; token = f.1 }; room = room_of net ok k i t ts own room },
      refl,
    )

pub get_past : {A : Type 0} (xs ys : List A) (x : A) → slice_get (xs ++ x ∷ ys) (length xs) ≡ Some x
get_past [] ys x = refl
get_past (z ∷ xs) ys x = get_past xs ys x

written_grows : (net : Network) → IsNetwork net → (k : ℕ → ℕ) (i : ℕ) → Grows (written net k) (written net (with_tick_of i k))
written_grows net ok k i s = prefix_flat_map (put_on s) _ _ (made_le net ok k (with_tick_of i k) (bump_above i k) (net.producer s))

pub written_after : (net : Network) (k m : ℕ → ℕ) (i s : ℕ) (ts : List Tick) → net.producer s ≡ i → ticks_made net m i ≡ ticks_made net k i ++ ts → written net m s ≡ written net k s ++ flat_map (put_on s) ts
written_after net k m i s ts e h =
    ap (λ j. flat_map (put_on s) (ticks_made net m j)) e ∙ ap (flat_map (put_on s)) h ∙ flat_map-append (put_on s) (ticks_made net k i) ts
    ∙ ap (λ j. flat_map (put_on s) (ticks_made net k j) ++ flat_map (put_on s) ts) (sym e)

pub chunk : (net : Network) → IsNetwork net → (n i : ℕ) → i < net.size → (ts : List Tick) (k : ℕ → ℕ) → IsReachable net k → IsPrefixOf (ticks_made net k i ++ ts) (ticks (net.job i n) (written net k)) → HasRoomFor net k i ts → Chunk net k i ts (plus i (length ts) k)
chunk net ok n i inside [] k r p room =
    subst (Chunk net k i []) (plus_none i k) (record { reachable = r; own = sym (append-nil (ticks_made net k i)); other = λ j d. refl; first = λ l. absurd (omega arith) })
chunk net ok n i inside (t ∷ ts) k r p room =
    let f = reach_founded net k r in
    let len = all_made net ok k f i in
    let at : slice_get (ticks (net.job i n) (written net k)) (k i) ≡ Some t =
    prefix_get _ _ (k i) t p (subst (λ m. slice_get (ticks_made net k i ++ t ∷ ts) m ≡ Some t) len (get_past (ticks_made net k i) ts t))
    in
    let step = is_step net ok k n i t ts inside r at room in
    let r' = reach_push net k i r step.0 in
    let f' = reach_founded net (with_tick_of i k) r' in
    let more : ticks_made net (with_tick_of i k) i ≡ ticks_made net k i ++ t ∷ [] = made_more net ok k i t inside f (subst (λ u. next net k i ≡ Some u) step.1 step.0.supplied.is_next) in
    let whole : ticks_made net (with_tick_of i k) i ++ ts ≡ ticks_made net k i ++ t ∷ ts = ap (λ l. l ++ ts) more ∙ append_assoc (ticks_made net k i) (t ∷ []) ts in
    let grown : IsPrefixOf (ticks (net.job i n) (written net k)) (ticks (net.job i n) (written net (with_tick_of i k))) =
    ticks_grow _ _ (written net k) (written net (with_tick_of i k)) (ok.grows i n n (omega arith)) (written_grows net ok k i)
    in
    let p' : IsPrefixOf (ticks_made net (with_tick_of i k) i ++ ts) (ticks (net.job i n) (written net (with_tick_of i k))) =
    subst (λ l. IsPrefixOf l (ticks (net.job i n) (written net (with_tick_of i k)))) (sym whole) (prefix_trans _ _ _ p grown)
    in
    let c = chunk net ok n i inside ts (with_tick_of i k) r' p' (λ s e some.
    let w = ap length (written_after net k (with_tick_of i k) i s (t ∷ []) e more) in
    let l1 = length-append (written net k s) (flat_map (put_on s) (t ∷ [])) in
    let l2 = length-append (flat_map (put_on s) (t ∷ [])) (flat_map (put_on s) ts) in
    let l3 : flat_map (put_on s) (t ∷ []) ++ flat_map (put_on s) ts ≡ flat_map (put_on s) (t ∷ ts) = sym (flat_map-append (put_on s) (t ∷ []) ts) in
    let l4 = ap length l3 in
    let tk = taken_le net ok k (with_tick_of i k) (bump_above i k) s in
    let h = room s e (omega arith) in
    omega arith) in
    subst (Chunk net k i (t ∷ ts)) (plus_more i (length ts) k)
    (record { reachable = c.reachable; own = c.own ∙ whole; other = λ j d. c.other j d ∙ made_other net ok k i j f f' d; first = λ l. step.0 })
