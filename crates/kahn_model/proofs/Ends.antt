-- What an instance that has not ended waits for, and the greatest count below a cap.
use Rattle.std.proofs.Common.{◌≡◌, ℕ, zero, suc, ◌+◌, ◌-◌, ◌*◌, ◌<◌, ◌≤◌, ◌⊎◌, List, [], ◌∷◌, ◌++◌, length, take, Option, Some, None, refl, sym, ap, ◌∙◌, subst, inl, inr, ⊎_elim, arith}
use Rattle.std.specs.Prelude.{slice_get}
use Rattle.std.proofs.Math.Path.{fun_ext}
use Rattle.std.proofs.lemmas.Bool.{cases_lt, cases_eq}
use Rattle.std.proofs.lemmas.List.{take_all}
use Rattle.std.proofs.lemmas.Option.{slice_get-get_or}
use Rattle.tapa_base.specs.declared.token.Token.{Token}
use Rattle.kahn_model.specs.Behavior.{Local, Put, Load, Store, Tick, Did, Take, See, End, TraceEnd, Ended, Needs, Bad, Turns, Offer, NoToken, WrongToken, Answer, first_offer, tick_of, lists_after, on_offer, Behavior, Finished, OutOfTurns, Act, Await, ticks, trace_end}
use Rattle.kahn_model.specs.Network.{Network, IsNetwork, round}
use Rattle.kahn_model.specs.Counts.{total, round_of, ticks_made, written, taken, next, HasToken, HasRoom, IsAllowed, with_tick_of, after, AreAllowed, zeros, IsReachable, IsFounded, IsEnding, HasEnded}
use Rattle.kahn_model.specs.Outcome.{WaitsToWrite, WaitsToRead, HasBadToken, IsCapped, IsGreatest}
use Rattle.kahn_model.proofs.Order.{prefix_refl, prefix_take, prefix_whole}
use Rattle.kahn_model.proofs.Late.{IsLate, late}
use Rattle.kahn_model.proofs.Count.{IsBelow, step_stays, bump_below, bump_same, bump_other, total_bump}
use Rattle.kahn_model.proofs.Reach.{reach_founded, full, total_has}
use Rattle.kahn_model.proofs.Local.{here, here_all, here_prefix, here_is_fed}
use Rattle.kahn_model.proofs.Clocked.{after_more as after_push}

-- a job whose end is Ended has made End
ended_found : (o : Offer) (a b : TraceEnd) (m : Token → ℕ → TraceEnd) (f : Token → ℕ → List Tick) → (Ended ≡ a → ⊥) → (Ended ≡ b → ⊥) → ((t : Token) (v : ℕ) → m t v ≡ Ended → (j : ℕ) × (slice_get (f t v) j ≡ Some End)) → on_offer o a b m ≡ Ended → (j : ℕ) × (slice_get (on_offer o [] [] f) j ≡ Some End)
ended_found NoToken a b m f da db h e = absurd (da (sym e))
ended_found WrongToken a b m f da db h e = absurd (db (sym e))
ended_found (Answer t v) a b m f da db h e = h t v e

ended_more : (x : Tick) (ts : List Tick) → ((j : ℕ) × (slice_get ts j ≡ Some End)) → (j : ℕ) × (slice_get (x ∷ ts) j ≡ Some End)
ended_more x ts (j, e) = (suc j, e)

pub has_end : (a : Behavior) (xs : ℕ → List Token) → trace_end a xs ≡ Ended → (j : ℕ) × (slice_get (ticks a xs) j ≡ Some End)
has_end Finished xs e = (0, refl)
has_end OutOfTurns xs e = absurd (cc)
has_end (Act a rest) xs e = ended_more (Did a) (ticks rest xs) (has_end rest xs e)
has_end (Await s how rest) xs e =
    ended_found (first_offer how (xs s)) (Needs s) (Bad s) _ _ (λ q. cc) (λ q. cc)
    (λ t v h. ended_more (tick_of how s t) (ticks (rest v) (lists_after how s xs)) (has_end (rest v) (lists_after how s xs) h)) e

-- what it waits for
abbrev pub Waits : Network → (ℕ → ℕ) → ℕ → Type 0
Waits net k i = ((s : ℕ) × WaitsToWrite net k i s) ⊎ (((s : ℕ) × WaitsToRead net k i s) ⊎ ((s : ℕ) × HasBadToken net k i s))

no_room : (net : Network) (k : ℕ → ℕ) (i : ℕ) (t : Tick) → i < net.size → next net k i ≡ Some t → HasToken net k t → (IsAllowed net k i → ⊥) → Waits net k i
no_room net k i (Did (Put s t)) l e tok d = inl (s, (t, e))
no_room net k i (Did Local) l e tok d = absurd (d (record { supplied = record { inside = l; tick = Did Local; is_next = e; token = tok }; room = tt }))
no_room net k i (Did (Load a b)) l e tok d = absurd (d (record { supplied = record { inside = l; tick = Did (Load a b); is_next = e; token = tok }; room = tt }))
no_room net k i (Did (Store a b c)) l e tok d = absurd (d (record { supplied = record { inside = l; tick = Did (Store a b c); is_next = e; token = tok }; room = tt }))
no_room net k i (Take s t) l e tok d = absurd (d (record { supplied = record { inside = l; tick = Take s t; is_next = e; token = tok }; room = tt }))
no_room net k i (See s t) l e tok d = absurd (d (record { supplied = record { inside = l; tick = See s t; is_next = e; token = tok }; room = tt }))
no_room net k i End l e tok d = absurd (d (record { supplied = record { inside = l; tick = End; is_next = e; token = tok }; room = tt }))

-- the ticks made are those found on what is written, where these are no more
pub here_made : (net : Network) → IsNetwork net → (k : ℕ → ℕ) → IsFounded net k → (i : ℕ) → length (here net k i) ≡ k i → ticks_made net k i ≡ here net k i
here_made net ok k r i e =
    let ts = here net k i in
    let us = round net (round_of net k) i in
    let all : take (k i) ts ≡ ts = take_all (k i) ts (omega arith) in
    let l = ap length all in
    let p = prefix_take (k i) (k i) ts us (omega arith) (here_prefix net ok k (full net ok k r) i) in
    let same : take (k i) ts ≡ take (k i) us = prefix_whole _ _ p (omega (arith, Rattle.std.proofs.lemmas.List.length-take (k i) us)) in
    sym same ∙ all

stands : (net : Network) → IsNetwork net → (k : ℕ → ℕ) → IsFounded net k → (i : ℕ) → i < net.size → (HasEnded net k i → ⊥) → length (here net k i) ≡ k i → (m : TraceEnd) → trace_end (net.job i (round_of net k)) (written net k) ≡ m → IsLate m (here net k i) (here net k i) (written net k) (round_of net k) → Waits net k i
stands net ok k r i l d e Ended em late_m =
    let h = has_end (net.job i (round_of net k)) (written net k) em in
    absurd (d (h.0, subst (λ ts. slice_get ts h.0 ≡ Some End) (sym (here_made net ok k r i e)) h.1))
stands net ok k r i l d e (Needs s) em late_m = inr (inl (s, record { all = e; at = em }))
stands net ok k r i l d e (Bad s) em late_m = inr (inr (s, record { all = e; at = em }))
stands net ok k r i l d e Turns em late_m = let t = total_has net.size i k l in absurd (omega arith)

pub waits : (net : Network) → IsNetwork net → (k : ℕ → ℕ) → IsEnding net k → (i : ℕ) → i < net.size → (HasEnded net k i → ⊥) → Waits net k i
waits net ok k en i l d =
    let r = reach_founded net k en.reachable in
    let hi = here_all net ok k r i in
    let ts = here net k i in
    ⊎_elim
    (λ (m : k i < length ts).
    let at = slice_get-get_or ts (k i) End m in
    let f = here_is_fed net ok k r (round_of net k) i _ l at in
    no_room net k i _ l f.0 f.1 (en.over i))
    (λ (m : length ts ≤ k i).
    let job = net.job i (round_of net k) in
    stands net ok k r i l d (omega arith) (trace_end job (written net k)) refl
    (late job job (written net k) (written net k) (round_of net k) (ok.grows i (round_of net k) (round_of net k) (omega arith)) (λ s. prefix_refl (written net k s)) (ok.lasts i (round_of net k))))
    (cases_lt (k i) (length ts))

-- whether a step is allowed is decided
has_token : (net : Network) (k : ℕ → ℕ) (t : Tick) → HasToken net k t ⊎ (HasToken net k t → ⊥)
has_token net k (Did a) = inl tt
has_token net k (Take s t) = ⊎_elim (λ l. inl l) (λ l. inr (λ h. omega arith)) (cases_lt (length (taken net k s)) (length (written net k s)))
has_token net k (See s t) = ⊎_elim (λ l. inl l) (λ l. inr (λ h. omega arith)) (cases_lt (length (taken net k s)) (length (written net k s)))
has_token net k End = inl tt

has_room : (net : Network) (k : ℕ → ℕ) (t : Tick) → HasRoom net k t ⊎ (HasRoom net k t → ⊥)
has_room net k (Did (Put s t)) = ⊎_elim (λ l. inl l) (λ l. inr (λ h. omega arith)) (cases_lt (length (written net k s) - length (taken net k s)) (net.depth s))
has_room net k (Did Local) = inl tt
has_room net k (Did (Load a b)) = inl tt
has_room net k (Did (Store a b c)) = inl tt
has_room net k (Take s t) = inl tt
has_room net k (See s t) = inl tt
has_room net k End = inl tt

same_tick : (net : Network) (k : ℕ → ℕ) (i : ℕ) (t : Tick) → next net k i ≡ Some t → (a : IsAllowed net k i) → a.supplied.tick ≡ t
same_tick net k i t e a = let x = a.supplied.is_next in cc

pub is_allowed : (net : Network) (k : ℕ → ℕ) (i : ℕ) → IsAllowed net k i ⊎ (IsAllowed net k i → ⊥)
is_allowed net k i =
    ⊎_elim
    (λ (l : i < net.size). go (next net k i) refl l)
    (λ (l : net.size ≤ i). inr (λ a. let x = a.supplied.inside in omega arith))
    (cases_lt i net.size)
  where
    go : (o : Option Tick) → next net k i ≡ o → i < net.size → IsAllowed net k i ⊎ (IsAllowed net k i → ⊥)
    go None e l = inr (λ a. let x = a.supplied.is_next in cc)
    go (Some t) e l =
        ⊎_elim
        (λ (tok : HasToken net k t).
        ⊎_elim
        (λ (room : HasRoom net k t). inl (record { supplied = record { inside = l; tick = t; is_next = e; token = tok }; room = room }))
        (λ (none : HasRoom net k t → ⊥). inr (λ a. none (subst (HasRoom net k) (same_tick net k i t e a) a.room)))
        (has_room net k t))
        (λ (none : HasToken net k t → ⊥). inr (λ a. none (subst (HasToken net k) (same_tick net k i t e a) a.supplied.token)))
        (has_token net k t)

-- a step below the cap, if there is one
pub record Step (net : Network) (cap : ℕ) (k : ℕ → ℕ) : Type 0 where
  pub at : ℕ
  pub allowed : IsAllowed net k at
  pub below : k at < cap

pub find_step : (net : Network) (cap : ℕ) (k : ℕ → ℕ) (n : ℕ) → Step net cap k ⊎ ((i : ℕ) → i < n → IsAllowed net k i → k i < cap → ⊥)
find_step net cap k zero = inr (λ i l a b. omega arith)
find_step net cap k (suc n) =
    ⊎_elim
    (λ (s : Step net cap k). inl s)
    (λ (none : (i : ℕ) → i < n → IsAllowed net k i → k i < cap → ⊥).
    ⊎_elim
    (λ (a : IsAllowed net k n).
    ⊎_elim
    (λ (b : k n < cap). inl (record { at = n; allowed = a; below = b }))
    (λ (b : cap ≤ k n). inr (λ i l x y. last none i l x y (λ (e : i ≡ n). let f = ap k e in omega arith)))
    (cases_lt (k n) cap))
    (λ (d : IsAllowed net k n → ⊥). inr (λ i l x y. last none i l x y (λ (e : i ≡ n). d (subst (IsAllowed net k) e x))))
    (is_allowed net k n))
    (find_step net cap k n)
  where
    last : ((i : ℕ) → i < n → IsAllowed net k i → k i < cap → ⊥) → (i : ℕ) → i < suc n → IsAllowed net k i → k i < cap → (i ≡ n → ⊥) → ⊥
    last none i l x y d = ⊎_elim (λ (e : i < n). none i e x y) (λ (e : n ≤ i). d (omega arith)) (cases_lt i n)

allowed_more : (net : Network) (steps : List ℕ) (k : ℕ → ℕ) (i : ℕ) → AreAllowed net steps k → IsAllowed net (after steps k) i → AreAllowed net (steps ++ i ∷ []) k
allowed_more net [] k i h f = (f, tt)
allowed_more net (j ∷ steps) k i (a, h) f = (a, allowed_more net steps (with_tick_of j k) i h f)

pub reach_push : (net : Network) (k : ℕ → ℕ) (i : ℕ) → IsReachable net k → IsAllowed net k i → IsReachable net (with_tick_of i k)
reach_push net k i r f =
    let same : k ≡ after r.steps zeros = fun_ext r.is_after in
    record {
      steps = r.steps ++ i ∷ [];
      allowed = allowed_more net r.steps zeros i r.allowed (subst (λ c. IsAllowed net c i) same f);
      is_after = λ j. ap (λ (c : ℕ → ℕ). with_tick_of i c j) same ∙ sym (ap (λ (c : ℕ → ℕ). c j) (after_push r.steps zeros i));
    }

after_above : (steps : List ℕ) (k : ℕ → ℕ) → IsBelow k (after steps k)
after_above [] k i = omega arith
after_above (j ∷ steps) k i = let a = after_above steps (with_tick_of j k) i in let b = Rattle.kahn_model.proofs.Count.bump_above j k i in omega arith

below_capped : (net : Network) → IsNetwork net → (cap : ℕ) (m : ℕ → ℕ) → ((i : ℕ) → IsAllowed net m i → m i < cap → ⊥) → (steps : List ℕ) (k : ℕ → ℕ) → IsBelow k m → AreAllowed net steps k → IsCapped net cap (after steps k) → IsBelow (after steps k) m
below_capped net ok cap m over [] k h a c = h
below_capped net ok cap m over (i ∷ steps) k h (a, rest) c =
    let up = after_above steps (with_tick_of i k) i in
    let b = bump_same i k in
    let ci = c i in
    below_capped net ok cap m over steps (with_tick_of i k) (bump_below k m i h (λ e. over i (step_stays net ok k m h i e a) (omega arith))) rest c

pub greatest_by : (net : Network) → IsNetwork net → (cap : ℕ) (k : ℕ → ℕ) → IsReachable net k → IsCapped net cap k → ((i : ℕ) → IsAllowed net k i → k i < cap → ⊥) → IsGreatest net cap k
greatest_by net ok cap k r c over = record {
  reachable = r;
  capped = c;
  above = λ m rm cm i.
      let same : m ≡ after rm.steps zeros = fun_ext rm.is_after in
      let b = below_capped net ok cap k over rm.steps zeros (λ j. omega arith) rm.allowed (subst (IsCapped net cap) same cm) i in
      let e = rm.is_after i in
      omega arith;
}

pub total_cap : (n cap : ℕ) (k : ℕ → ℕ) → ((i : ℕ) → k i ≤ cap) → total n k ≤ n * cap
total_cap zero cap k h = omega arith
total_cap (suc n) cap k h = let a = total_cap n cap k h in let b = h n in omega arith

pub bump_capped : (net : Network) (cap : ℕ) (k : ℕ → ℕ) (i : ℕ) → IsCapped net cap k → k i < cap → IsCapped net cap (with_tick_of i k)
bump_capped net cap k i c l j =
    let cj = c j in
    ⊎_elim
    (λ (e : j ≡ i). let b : with_tick_of i k j ≡ suc (k j) = subst (λ x. with_tick_of x k j ≡ suc (k j)) e (bump_same j k) in let f = ap k e in omega arith)
    (λ (e : j ≡ i → ⊥). let b = bump_other i j k e in omega arith)
    (cases_eq j i)

climb : (net : Network) → IsNetwork net → (cap fuel : ℕ) (k : ℕ → ℕ) → IsReachable net k → IsCapped net cap k → net.size * cap ≤ fuel + total net.size k → (m : ℕ → ℕ) × IsGreatest net cap m
climb net ok cap zero k r c f =
    ⊎_elim
    (λ (s : Step net cap k).
    let up = total_cap net.size cap (with_tick_of s.at k) (bump_capped net cap k s.at c s.below) in
    let t = total_bump net.size s.at k s.allowed.supplied.inside in
    absurd (omega arith))
    (λ (none : (i : ℕ) → i < net.size → IsAllowed net k i → k i < cap → ⊥). (k, greatest_by net ok cap k r c (λ i a b. none i a.supplied.inside a b)))
    (find_step net cap k net.size)
climb net ok cap (suc fuel) k r c f =
    ⊎_elim
    (λ (s : Step net cap k).
    let t = total_bump net.size s.at k s.allowed.supplied.inside in
    climb net ok cap fuel (with_tick_of s.at k) (reach_push net k s.at r s.allowed) (bump_capped net cap k s.at c s.below) (omega arith))
    (λ (none : (i : ℕ) → i < net.size → IsAllowed net k i → k i < cap → ⊥). (k, greatest_by net ok cap k r c (λ i a b. none i a.supplied.inside a b)))
    (find_step net cap k net.size)

pub greatest : (net : Network) → IsNetwork net → (cap : ℕ) → (k : ℕ → ℕ) × IsGreatest net cap k
greatest net ok cap =
    climb net ok cap (net.size * cap) zeros (record { steps = []; allowed = tt; is_after = λ i. refl }) (λ i. omega arith) (omega arith)
