-- The fewest ticks with which every joined instance can have ended: a search through all lists of so many steps.
use Rattle.std.proofs.Common.{◌≡◌, ◌⊎◌, ◌+◌, ◌<◌, ◌≤◌, ℕ, zero, suc, List, [], ◌∷◌, length, inl, inr, refl, sym, ap, subst, ⊎_elim, arith}
use Rattle.std.proofs.lemmas.Bool.{cases_lt}
use Rattle.std.proofs.Math.Path.{fun_ext}
use Rattle.kahn_model.specs.Network.{Network, IsNetwork}
use Rattle.kahn_model.specs.Counts.{total, zeros, after, with_tick_of, IsAllowed, AreAllowed, IsReachable}
use Rattle.kahn_model.specs.Outcome.{HaveJoinedEnded, HasJoinedLeft, IsDone}
use Rattle.kahn_model.specs.Ending.{IsLeastToEnd}
use Rattle.kahn_model.proofs.Count.{total_bump}
use Rattle.kahn_model.proofs.Ends.{is_allowed, reach_push}
use Rattle.kahn_model.proofs.Ending.{joined_left}

-- a reachable count of at most so many ticks at which they have ended
record Found (net : Network) (most : ℕ) : Type 0 where
  count : ℕ → ℕ
  reachable : IsReachable net count
  ended : HaveJoinedEnded net count
  few : total net.size count ≤ most

-- no list of at most so many steps from here leads to one
IsBarren : Network → ℕ → (ℕ → ℕ) → Type 0
IsBarren net fuel k = (steps : List ℕ) → length steps ≤ fuel → AreAllowed net steps k → HaveJoinedEnded net (after steps k) → ⊥

module _ (net : Network) where
  barren_now : (k : ℕ → ℕ) → (HaveJoinedEnded net k → ⊥) → IsBarren net 0 k
  unfolding IsBarren
  barren_now k d [] l a h = d h
  barren_now k d (i ∷ steps) l a h = absurd (omega arith)

  barren_then : (fuel : ℕ) (k : ℕ → ℕ) → (HaveJoinedEnded net k → ⊥) → ((i : ℕ) → IsAllowed net k i → IsBarren net fuel (with_tick_of i k)) → IsBarren net (suc fuel) k
  unfolding IsBarren
  barren_then fuel k d more [] l a h = d h
  barren_then fuel k d more (i ∷ steps) l (a, rest) h = more i a steps (omega arith) rest h

  not_ended : (k : ℕ → ℕ) → HasJoinedLeft net k → HaveJoinedEnded net k → ⊥
  not_ended k left all = left.goes_on (all left.instance left.inside left.joined)

  -- the first n instances, one after the other
  each : (fuel most : ℕ) (k : ℕ → ℕ) → ((i : ℕ) → IsAllowed net k i → Found net most ⊎ IsBarren net fuel (with_tick_of i k)) → (n : ℕ) → Found net most ⊎ ((i : ℕ) → i < n → IsAllowed net k i → IsBarren net fuel (with_tick_of i k))
  each fuel most k step zero = inr (λ i l a. absurd (omega arith))
  each fuel most k step (suc n) =
      ⊎_elim
      (λ (f : Found net most). inl f)
      (λ (none : (i : ℕ) → i < n → IsAllowed net k i → IsBarren net fuel (with_tick_of i k)).
      ⊎_elim
      (λ (a : IsAllowed net k n).
      ⊎_elim
      (λ (f : Found net most). inl f)
      (λ (b : IsBarren net fuel (with_tick_of n k)). inr (λ i l x. next none i l x (λ (same : n ≡ i). subst (λ (j : ℕ). IsBarren net fuel (with_tick_of j k)) same b)))
      (step n a))
      (λ (d : IsAllowed net k n → ⊥). inr (λ i l x. next none i l x (λ (same : n ≡ i). absurd (d (subst (IsAllowed net k) (sym same) x)))))
      (is_allowed net k n))
      (each fuel most k step n)
    where
      next : ((i : ℕ) → i < n → IsAllowed net k i → IsBarren net fuel (with_tick_of i k)) → (i : ℕ) → i < suc n → IsAllowed net k i → (n ≡ i → IsBarren net fuel (with_tick_of i k)) → IsBarren net fuel (with_tick_of i k)
      next none i l x last = ⊎_elim (λ (s : i < n). none i s x) (λ (s : n ≤ i). last (omega arith)) (cases_lt i n)

  search_from : (fuel most : ℕ) (k : ℕ → ℕ) → IsReachable net k → total net.size k + fuel ≤ most → Found net most ⊎ IsBarren net fuel k
  search_from zero most k r few =
      ⊎_elim
      (λ (left : HasJoinedLeft net k). inr (barren_now k (not_ended k left)))
      (λ (all : HaveJoinedEnded net k). inl (record { count = k; reachable = r; ended = all; few = omega arith }))
      (joined_left net k)
  search_from (suc fuel) most k r few =
      ⊎_elim
      (λ (left : HasJoinedLeft net k).
      ⊎_elim
      (λ (f : Found net most). inl f)
      (λ (none : (i : ℕ) → i < net.size → IsAllowed net k i → IsBarren net fuel (with_tick_of i k)). inr (barren_then fuel k (not_ended k left) (λ i a. none i a.supplied.inside a)))
      (each fuel most k
      (λ i a. let t = total_bump net.size i k a.supplied.inside in search_from fuel most (with_tick_of i k) (reach_push net k i r a) (omega arith))
      net.size))
      (λ (all : HaveJoinedEnded net k). inl (record { count = k; reachable = r; ended = all; few = omega arith }))
      (joined_left net k)

  total_after : (steps : List ℕ) (k : ℕ → ℕ) → AreAllowed net steps k → total net.size (after steps k) ≡ total net.size k + length steps
  total_after [] k a = omega arith
  total_after (i ∷ steps) k (a, rest) =
      let h = total_after steps (with_tick_of i k) rest in
      let t = total_bump net.size i k a.supplied.inside in
      omega arith

  total_none : (n : ℕ) → total n zeros ≡ 0
  total_none zero = refl
  total_none (suc n) = let h = total_none n in omega arith

  start : IsReachable net zeros
  start = record { steps = []; allowed = tt; is_after = λ i. refl }

  -- none with so few ticks says that every one has more
  past_barren : (fuel : ℕ) → IsBarren net fuel zeros → (m : ℕ → ℕ) → IsReachable net m → HaveJoinedEnded net m → fuel < total net.size m
  unfolding IsBarren
  past_barren fuel b m r h =
      let same : m ≡ after r.steps zeros = fun_ext r.is_after in
      let t = total_after r.steps zeros r.allowed in
      let z = total_none net.size in
      let e = ap (total net.size) same in
      ⊎_elim
      (λ (l : fuel < length r.steps). omega arith)
      (λ (l : length r.steps ≤ fuel). absurd (b r.steps l r.allowed (subst (HaveJoinedEnded net) same h)))
      (cases_lt fuel (length r.steps))

  least_from : (fuel n : ℕ) → ((m : ℕ → ℕ) → IsReachable net m → HaveJoinedEnded net m → n ≤ total net.size m) → (m : ℕ → ℕ) → IsReachable net m → HaveJoinedEnded net m → total net.size m ≤ n + fuel → (a : ℕ) × IsLeastToEnd net a
  least_from zero n low m r h few =
      let l = low m r h in
      (n, record { count = m; reachable = r; ended = h; sum = omega arith; least = low })
  least_from (suc fuel) n low m r h few =
      let z = total_none net.size in
      ⊎_elim
      (λ (f : Found net n).
      let l = low f.count f.reachable f.ended in
      let u = f.few in
      (n, record { count = f.count; reachable = f.reachable; ended = f.ended; sum = omega arith; least = low }))
      (λ (b : IsBarren net n zeros). least_from fuel (suc n) (λ x rx hx. let p = past_barren n b x rx hx in omega arith) m r h (omega arith))
      (search_from n n zeros start (omega arith))

pub least_to_end : (net : Network) → IsNetwork net → (n : ℕ) (k : ℕ → ℕ) → IsDone net n k → (a : ℕ) × IsLeastToEnd net a
least_to_end net ok n k d = least_from net (total net.size k) 0 (λ m r h. omega arith) k d.greatest.reachable d.ended (omega arith)
