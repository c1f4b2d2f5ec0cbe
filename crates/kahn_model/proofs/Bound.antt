-- StreamOperation soon the counts of a clock pass every reachable count.
use Rattle.std.proofs.Common.{◌≡◌, ℕ, zero, suc, ◌+◌, ◌-◌, ◌*◌, ◌<◌, ◌≤◌, List, [], ◌∷◌, length, Bool, true, false, ◌&&◌, refl, sym, ap, subst, ⊎_elim, arith}
use Rattle.std.specs.Prelude.{nat_lt, if◌then◌else◌}
use Rattle.std.proofs.Math.Path.{fun_ext}
use Rattle.std.proofs.lemmas.Bool.{cases_lt, cases_eq, lt-ltb, and_from as and_true}
use Rattle.std.proofs.lemmas.Bool.Decides.{nat_tests}
use Rattle.kahn_model.specs.Behavior.{Local, Put, Load, Store, Tick, Did, Take, See, End}
use Rattle.kahn_model.specs.Network.{Network, IsNetwork}
use Rattle.kahn_model.specs.Counts.{total, round_of, ticks_made, written, taken, HasToken, HasRoom, IsAllowed, with_tick_of, after, AreAllowed, zeros, IsReachable, HasEnded}
use Rattle.kahn_model.specs.Outcome.{HaveJoinedEnded}
use Rattle.kahn_model.specs.Ending.{IsLeastToEnd}
use Rattle.kahn_model.specs.Timed.{Clock, ago, tick_moves, next_moves, moves, past_of, count_at, lost, IsClock}
use Rattle.kahn_model.proofs.Count.{IsBelow, OwnTick, own_round, made_same, next_same, step_stays, written_le, taken_le, written_same, taken_same, bump_same, bump_other, total_bump}
use Rattle.kahn_model.proofs.Ended.{ended_later}
use Rattle.kahn_model.proofs.Clocked.{count_le, count_up, past_below, past_above}

module _ (net : Network) (ok : IsNetwork net) (clock : Clock) (top : ℕ) (ready : ℕ → Bool) (waits : ℕ) (is_clock : IsClock clock top ready waits) where
  -- a token that was there is seen to be there
  token_seen : (n m i s : ℕ) → n + top ≤ m → net.consumer s ≡ i → ticks_made net (count_at net clock n) i ≡ ticks_made net (count_at net clock m) i → length (taken net (count_at net clock n) s) < length (written net (count_at net clock n) s) → nat_lt (length (taken net (count_at net clock m) s)) (length (written net (ago (past_of net clock m) (clock.latency s)) s)) ≡ true
  token_seen n m i s h own same l =
      let lat = is_clock.latest s in
      let w = written_le net ok _ _ (past_above net clock n m (clock.latency s) (omega arith)) s in
      let t = ap length (taken_same net (count_at net clock n) (count_at net clock m) i s own same) in
      lt-ltb _ _ (omega arith)

  -- and so is room
  room_seen : (n m i s : ℕ) → 1 ≤ n → n + top ≤ m → net.producer s ≡ i → ticks_made net (count_at net clock n) i ≡ ticks_made net (count_at net clock m) i → length (written net (count_at net clock n) s) - length (taken net (count_at net clock n) s) < net.depth s → (nat_lt (clock.latency s) m && nat_lt (length (written net (ago (past_of net clock m) (2 * clock.latency s)) s) - length (taken net (ago (past_of net clock m) (clock.latency s)) s)) (net.depth s)) ≡ true
  room_seen n m i s one h own same l =
      let lat = is_clock.latest s in
      let t = taken_le net ok _ _ (past_above net clock n m (clock.latency s) (omega arith)) s in
      let w = written_le net ok _ _ (past_below net clock m (2 * clock.latency s)) s in
      let e = ap length (written_same net (count_at net clock n) (count_at net clock m) i s own same) in
      let free : length (written net (ago (past_of net clock m) (2 * clock.latency s)) s) - length (taken net (ago (past_of net clock m) (clock.latency s)) s) < net.depth s = omega arith in
      and_true _ _ (lt-ltb (clock.latency s) m (omega arith)) (lt-ltb _ _ free)

  tick_late : (n m i : ℕ) → 1 ≤ n → n + top ≤ m → ready m ≡ true → ticks_made net (count_at net clock n) i ≡ ticks_made net (count_at net clock m) i → (t : Tick) → OwnTick net.producer net.consumer i t → HasToken net (count_at net clock n) t → HasRoom net (count_at net clock n) t → tick_moves net clock m (past_of net clock m) i t ≡ true
  tick_late n m i one h r same (Take s t) own tok room = token_seen n m i s h own same tok
  tick_late n m i one h r same (See s t) own tok room = token_seen n m i s h own same tok
  tick_late n m i one h r same (Did (Put s t)) own tok room = room_seen n m i s one h own same room
  tick_late n m i one h r same (Did (Load a b)) own tok room = is_clock.answered m r i a
  tick_late n m i one h r same (Did (Store a b c)) own tok room = is_clock.answered m r i a
  tick_late n m i one h r same (Did Local) own tok room = refl
  tick_late n m i one h r same End own tok room = refl

  -- an instance whose step is allowed moves once the greatest latency is over, in a cycle in which every memory answers
  moves_late : (n m i : ℕ) → 1 ≤ n → n + top ≤ m → ready m ≡ true → IsAllowed net (count_at net clock n) i → count_at net clock n i ≡ count_at net clock m i → moves net clock m (past_of net clock m) i ≡ true
  moves_late n m i one h r a e =
      let t = a.supplied.tick in
      let below = count_le net clock n m (omega arith) in
      let same = made_same net ok _ _ below i e t a.supplied.is_next in
      let own = own_round net ok (round_of net (count_at net clock n)) i (count_at net clock n i) t a.supplied.is_next in
      let is_next = next_same net ok _ _ below i e t a.supplied.is_next in
      and_true _ _ (lt-ltb 0 m (omega arith))
      (and_true _ _ (lt-ltb i net.size a.supplied.inside)
      (subst (λ o. next_moves net clock m (past_of net clock m) i o ≡ true) (sym is_next) (tick_late n m i one h r same t own a.supplied.token a.room)))

  moved : (m i : ℕ) → moves net clock m (past_of net clock m) i ≡ true → count_at net clock (suc m) i ≡ suc (count_at net clock m i)
  moved m i e = ap (λ b. if b then suc (count_at net clock m i) else count_at net clock m i) e

  lost_yes : (m : ℕ) → ready m ≡ true → lost ready (suc m) ≡ lost ready m
  lost_yes m e = grind (arith, nat_tests)

  lost_no : (m : ℕ) → 1 ≤ m → ready m ≡ false → lost ready (suc m) ≡ suc (lost ready m)
  lost_no m h e = grind (arith, nat_tests)

  lost_up : (m : ℕ) → lost ready m ≤ lost ready (suc m)
  lost_up m = grind (arith, nat_tests)

  lost_le : (n m : ℕ) → n ≤ m → lost ready n ≤ lost ready m
  lost_le n zero h = let e : n ≡ 0 = omega arith in subst (λ x. lost ready x ≤ 0) (sym e) (omega arith)
  lost_le n (suc m) h =
      ⊎_elim
      (λ (l : m < n). let e : suc m ≡ n = omega arith in subst (λ x. lost ready n ≤ lost ready x) (sym e) (omega arith))
      (λ (l : n ≤ m). let a = lost_le n m l in let b = lost_up m in omega arith)
      (cases_lt m n)

  -- instance i has passed the number x by a cycle that is not far from m
  record Passed (i x m : ℕ) (from : ℕ) : Type 0 where
    at : ℕ
    later : m ≤ at
    soon : at + lost ready m ≤ from + lost ready at
    passed : x ≤ count_at net clock at i

  find : (n i : ℕ) → 1 ≤ n → IsAllowed net (count_at net clock n) i → (fuel m : ℕ) → n + top ≤ m → count_at net clock n i ≡ count_at net clock m i → waits ≤ fuel + lost ready m → Passed i (suc (count_at net clock n i)) m (suc m)
  find n i one a zero m h e f = go (ready m) refl
    where
      go : (b : Bool) → ready m ≡ b → Passed i (suc (count_at net clock n i)) m (suc m)
      go true r = let u = moved m i (moves_late n m i one h r a e) in let w = lost_yes m r in record { at = suc m; later = omega arith; soon = omega arith; passed = omega arith }
      go false r = let w = lost_no m (omega arith) r in let few = is_clock.few (suc m) in absurd (omega arith)
  find n i one a (suc fuel) m h e f =
      go (ready m) refl (λ g w. find n i one a fuel (suc m) (omega arith) g w)
    where
      go : (b : Bool) → ready m ≡ b → (count_at net clock n i ≡ count_at net clock (suc m) i → waits ≤ fuel + lost ready (suc m) → Passed i (suc (count_at net clock n i)) (suc m) (suc (suc m))) → Passed i (suc (count_at net clock n i)) m (suc m)
      go true r rec = let u = moved m i (moves_late n m i one h r a e) in let w = lost_yes m r in record { at = suc m; later = omega arith; soon = omega arith; passed = omega arith }
      go false r rec =
          let w = lost_no m (omega arith) r in
          let up = count_up net clock m i in
          ⊎_elim
          (λ (l : count_at net clock n i < count_at net clock (suc m) i). record { at = suc m; later = omega arith; soon = omega arith; passed = l })
          (λ (l : count_at net clock (suc m) i ≤ count_at net clock n i).
          let p = rec (omega arith) (omega arith) in
          let a1 = p.later in let a2 = p.soon in
          record { at = p.at; later = omega arith; soon = omega arith; passed = p.passed })
          (cases_lt (count_at net clock n i) (count_at net clock (suc m) i))

  progress : (n i : ℕ) → 1 ≤ n → IsAllowed net (count_at net clock n) i → Passed i (suc (count_at net clock n i)) n (suc (n + top))
  progress n i one a =
      let m = n + top in
      let up = count_le net clock n m (omega arith) i in
      let l1 = lost_le n m (omega arith) in
      ⊎_elim
      (λ (l : count_at net clock n i < count_at net clock m i). record { at = m; later = omega arith; soon = omega arith; passed = l })
      (λ (l : count_at net clock m i ≤ count_at net clock n i).
      let p = find n i one a waits m (omega arith) (omega arith) (omega arith) in
      let a1 = p.later in let a2 = p.soon in
      record { at = p.at; later = omega arith; soon = omega arith; passed = p.passed })
      (cases_lt (count_at net clock n i) (count_at net clock m i))

  -- the cycles that steps take at most, but for those in which a memory does not answer
  abbrev cost : List ℕ → ℕ
  cost [] = 0
  cost (i ∷ steps) = suc top + cost steps

  record Reached (k : ℕ → ℕ) (n from : ℕ) : Type 0 where
    at : ℕ
    later : n ≤ at
    soon : at + lost ready n ≤ from + lost ready at
    reached : IsBelow k (count_at net clock at)

  bump_passed : (k m : ℕ → ℕ) (i : ℕ) → IsBelow k m → suc (k i) ≤ m i → IsBelow (with_tick_of i k) m
  bump_passed k m i h l j =
      let hj = h j in
      ⊎_elim
      (λ (e : j ≡ i). let b : with_tick_of i k j ≡ suc (k j) = subst (λ x. with_tick_of x k j ≡ suc (k j)) e (bump_same j k) in
      let c : k j ≡ k i = ap k e in let f : m j ≡ m i = ap m e in omega arith)
      (λ (e : j ≡ i → ⊥). let b = bump_other i j k e in omega arith)
      (cases_eq j i)

  reach : (steps : List ℕ) (k : ℕ → ℕ) (n : ℕ) → 1 ≤ n → AreAllowed net steps k → IsBelow k (count_at net clock n) → Reached (after steps k) n (n + cost steps)
  reach [] k n one a h = record { at = n; later = omega arith; soon = omega arith; reached = h }
  reach (i ∷ steps) k n one (a, rest) h =
      ⊎_elim
      (λ (l : k i < count_at net clock n i).
      let p = reach steps (with_tick_of i k) n one rest (bump_passed k _ i h l) in
      let a1 = p.later in let a2 = p.soon in
      record { at = p.at; later = omega arith; soon = omega arith; reached = p.reached })
      (λ (l : count_at net clock n i ≤ k i).
      let hi = h i in
      let e : k i ≡ count_at net clock n i = omega arith in
      let q = progress n i one (step_stays net ok k (count_at net clock n) h i e a) in
      let q1 = q.later in let q2 = q.soon in let q3 = q.passed in
      let up : IsBelow k (count_at net clock q.at) = λ j. let x = h j in let y = count_le net clock n q.at q1 j in omega arith in
      let p = reach steps (with_tick_of i k) q.at (omega arith) rest (bump_passed k _ i up (omega arith)) in
      let a1 = p.later in let a2 = p.soon in
      record { at = p.at; later = omega arith; soon = omega arith; reached = p.reached })
      (cases_lt (k i) (count_at net clock n i))

  cost_is : (steps : List ℕ) (k : ℕ → ℕ) → AreAllowed net steps k → cost steps + total net.size k * suc top ≡ total net.size (after steps k) * suc top
  cost_is [] k a = omega arith
  cost_is (i ∷ steps) k (a, rest) =
      let h = cost_is steps (with_tick_of i k) rest in
      let b = total_bump net.size i k a.supplied.inside in
      let c : total net.size (with_tick_of i k) * suc top ≡ suc (total net.size k) * suc top = ap (λ x. x * suc top) b in
      omega arith

  total_zeros : (n : ℕ) → total n zeros ≡ 0
  total_zeros zero = refl
  total_zeros (suc n) = let h = total_zeros n in omega arith

  -- what has ended has ended in a cycle that is not late
  pub done_in_time : (k : ℕ → ℕ) → IsReachable net k → (n : ℕ) × (1 ≤ n) × (n ≤ 1 + total net.size k * suc top + waits) × ((i : ℕ) → HasEnded net k i → HasEnded net (count_at net clock n) i)
  done_in_time k r =
      let same : after r.steps zeros ≡ k = sym (fun_ext r.is_after) in
      let p = reach r.steps zeros 1 (omega arith) r.allowed (λ i. omega arith) in
      let a1 = p.later in
      let a2 = p.soon in
      let c = cost_is r.steps zeros r.allowed in
      let z : total net.size zeros * suc top ≡ 0 * suc top = ap (λ x. x * suc top) (total_zeros net.size) in
      let t : total net.size (after r.steps zeros) * suc top ≡ total net.size k * suc top = ap (λ (x : ℕ → ℕ). total net.size x * suc top) same in
      let few = is_clock.few p.at in
      let below : IsBelow k (count_at net clock p.at) = subst (λ x. IsBelow x (count_at net clock p.at)) same p.reached in
      (p.at, omega arith, omega arith, λ i e. ended_later net ok k (count_at net clock p.at) below i e)

  -- so have all joined instances
  pub joined_in_time : (a : ℕ) → IsLeastToEnd net a → (n : ℕ) × (1 ≤ n) × (n ≤ 1 + a * suc top + waits) × HaveJoinedEnded net (count_at net clock n)
  joined_in_time a l =
      let d = done_in_time l.count l.reachable in
      (d.0, d.1, subst (λ (x : ℕ). d.0 ≤ 1 + x * suc top + waits) l.sum d.2, λ i inside j. d.3 i (l.ended i inside j))
