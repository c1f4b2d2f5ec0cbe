-- If requests are answered soon, timed counts pass each reachable count in time.
use Rattle.std.proofs.Common.{◌≡◌, ℕ, zero, suc, ◌+◌, ◌-◌, ◌*◌, ◌<◌, ◌≤◌, List, [], ◌∷◌, Bool, true, false, Option, Some, None, refl, sym, ap, subst, ⊎_elim, arith}
use Rattle.std.proofs.Math.Path.{fun_ext}
use Rattle.std.proofs.lemmas.Bool.{cases_lt, cases_eq}
use Rattle.kahn_model.specs.Network.{Network, IsNetwork}
use Rattle.kahn_model.specs.Counts.{total, with_tick_of, after, AreAllowed, zeros, IsReachable}
use Rattle.kahn_model.specs.Timed.{Clock, count_at}
use Rattle.kahn_model.proofs.Count.{IsBelow, step_stays, bump_same, bump_other, total_bump}
use Rattle.kahn_model.proofs.Clocked.{count_le}
use Rattle.circuit_meaning.specs.Pace.{memory_of, MakesIn, AreAnswered, IsPrompt, AnsweredCountsArePrompt}
use Rattle.hw_network_laws.proofs.network.Pace.{keeps_pace}

-- the first cycle from n to n + d in which a bit is true, if it is true in cycle n + d
first_true : (f : ℕ → Bool) (d n : ℕ) → f (n + d) ≡ true → (m : ℕ) × (n ≤ m) × (m ≤ n + d) × ((j : ℕ) → n ≤ j → j < m → f j ≡ false) × (f m ≡ true)
first_true f zero n e = (n, omega arith, omega arith, λ j le l. absurd (omega arith), subst (λ z. f z ≡ true) (let z : n + 0 ≡ n = omega arith in z) e)
first_true f (suc d) n e = go (f n) refl (first_true f d (suc n) (subst (λ z. f z ≡ true) (let z : n + suc d ≡ suc n + d = omega arith in z) e))
  where
    go : (b : Bool) → f n ≡ b → ((m : ℕ) × (suc n ≤ m) × (m ≤ suc n + d) × ((j : ℕ) → suc n ≤ j → j < m → f j ≡ false) × (f m ≡ true))
        → (m : ℕ) × (n ≤ m) × (m ≤ n + suc d) × ((j : ℕ) → n ≤ j → j < m → f j ≡ false) × (f m ≡ true)
    go true h r = (n, omega arith, omega arith, λ j le l. absurd (omega arith), h)
    go false h r =
        let low : suc n ≤ r.0 = r.1 in
        let high : r.0 ≤ suc n + d = r.2 in (
          r.0,
          omega arith,
          omega arith,
          λ j le l.
              ⊎_elim
              (λ (later : n < j). r.3 j later l)
              (λ (here : j ≤ n). let same : n ≡ j = omega arith in subst (λ z. f z ≡ false) same h)
              (cases_lt n j),
          r.4,
        )

bump_passed : (k m : ℕ → ℕ) (i : ℕ) → IsBelow k m → suc (k i) ≤ m i → IsBelow (with_tick_of i k) m
bump_passed k m i h l j =
    let hj = h j in
    ⊎_elim
    (λ (e : j ≡ i). let b : with_tick_of i k j ≡ suc (k j) = subst (λ x. with_tick_of x k j ≡ suc (k j)) e (bump_same j k) in
    let c : k j ≡ k i = ap k e in let f : m j ≡ m i = ap m e in omega arith)
    (λ (e : j ≡ i → ⊥). let b = bump_other i j k e in omega arith)
    (cases_eq j i)

module _ (net : Network) (ok : IsNetwork net) (clock : Clock) (late : ℕ) where
  -- an allowed tick is made soon, whether it waits for a memory or not
  prompt : ((s : ℕ) → clock.latency s ≤ late) → AreAnswered net clock late → IsPrompt net clock late
  prompt short answered n i one a = by (memory_of a.supplied.tick) refl
    where
      by : (o : Option ℕ) → memory_of a.supplied.tick ≡ o → (m : ℕ) × (n ≤ m) × (m ≤ n + late) × MakesIn net clock n i m
      by None e = (keeps_pace net ok clock late short).soon n i one a e
      by (Some x) e =
          let r = answered n i x a.supplied.tick one a.supplied.is_next e in
          let low : n ≤ r.0 = r.1 in
          let high : r.0 ≤ n + late = r.2 in
          let d : (d : ℕ) × (n + d ≡ r.0) = (r.0 - n, omega arith) in
          let f = first_true (clock.answers i x) d.0 n (subst (λ z. clock.answers i x z ≡ true) (sym d.1) r.3) in
          let here : f.0 ≤ n + d.0 = f.2 in
          let same : n + d.0 ≡ r.0 = d.1 in
          (f.0, f.1, omega arith, (keeps_pace net ok clock late short).answered n i x f.0 one a e f.1 f.3 f.4)

  module _ (soon : IsPrompt net clock late) where
    -- the cycles that steps take at most
    abbrev cost : List ℕ → ℕ
    cost [] = 0
    cost (i ∷ steps) = suc late + cost steps

    record Passed (k : ℕ → ℕ) (from : ℕ) : Type 0 where
      at : ℕ
      some : 1 ≤ at
      within : at ≤ from
      passed : IsBelow k (count_at net clock at)

    pass : (steps : List ℕ) (k : ℕ → ℕ) (n : ℕ) → 1 ≤ n → AreAllowed net steps k → IsBelow k (count_at net clock n) → Passed (after steps k) (n + cost steps)
    pass [] k n one a h = record { at = n; some = one; within = omega arith; passed = h }
    pass (i ∷ steps) k n one (a, rest) h =
        ⊎_elim
        (λ (l : k i < count_at net clock n i).
        let p = pass steps (with_tick_of i k) n one rest (bump_passed k (count_at net clock n) i h l) in
        let w = p.within in
        record { at = p.at; some = p.some; within = omega arith; passed = p.passed })
        (λ (l : count_at net clock n i ≤ k i).
        let hi = h i in
        let e : k i ≡ count_at net clock n i = omega arith in
        let m = soon n i one (step_stays net ok k (count_at net clock n) h i e a) in
        let low : n ≤ m.0 = m.1 in
        let high : m.0 ≤ n + late = m.2 in
        let made = m.3.made in
        let up : IsBelow k (count_at net clock (suc m.0)) = λ j. let x = h j in let y = count_le net clock n (suc m.0) (omega arith) j in omega arith in
        let p = pass steps (with_tick_of i k) (suc m.0) (omega arith) rest (bump_passed k (count_at net clock (suc m.0)) i up (omega arith)) in
        let w = p.within in
        record { at = p.at; some = p.some; within = omega arith; passed = p.passed })
        (cases_lt (k i) (count_at net clock n i))

    cost_is : (steps : List ℕ) (k : ℕ → ℕ) → AreAllowed net steps k → cost steps + total net.size k * suc late ≡ total net.size (after steps k) * suc late
    cost_is [] k a = omega arith
    cost_is (i ∷ steps) k (a, rest) =
        let h = cost_is steps (with_tick_of i k) rest in
        let b = total_bump net.size i k a.supplied.inside in
        let c : total net.size (with_tick_of i k) * suc late ≡ suc (total net.size k) * suc late = ap (λ x. x * suc late) b in
        omega arith

    total_zeros : (n : ℕ) → total n zeros ≡ 0
    total_zeros zero = refl
    total_zeros (suc n) = let h = total_zeros n in omega arith

    passes : (k : ℕ → ℕ) → IsReachable net k → (n : ℕ) × (1 ≤ n) × (n ≤ 1 + total net.size k * suc late) × ((i : ℕ) → k i ≤ count_at net clock n i)
    passes k r =
        let same : after r.steps zeros ≡ k = sym (fun_ext r.is_after) in
        let p = pass r.steps zeros 1 (omega arith) r.allowed (λ i. omega arith) in
        let w = p.within in
        let c = cost_is r.steps zeros r.allowed in
        let z : total net.size zeros * suc late ≡ 0 * suc late = ap (λ x. x * suc late) (total_zeros net.size) in
        let t : total net.size (after r.steps zeros) * suc late ≡ total net.size k * suc late = ap (λ (x : ℕ → ℕ). total net.size x * suc late) same in
        (p.at, p.some, omega arith, subst (λ x. IsBelow x (count_at net clock p.at)) same p.passed)

pub answered_counts_are_prompt : AnsweredCountsArePrompt
answered_counts_are_prompt net ok clock late short answered =
    let soon = prompt net ok clock late short answered in
    record { prompt = soon; passes = passes net ok clock late soon }
