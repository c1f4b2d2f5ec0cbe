-- A network is done in time by the answers up to then, whatever its memories do later.
use Rattle.std.proofs.Common.{◌≡◌, ℕ, zero, suc, ◌+◌, ◌-◌, ◌*◌, ◌<◌, ◌≤◌, Bool, true, false, ◌&&◌, not, List, ◌∷◌, Option, Some, None, refl, sym, ap, subst, ◌∙◌, arith, zero-add, ⊎_elim}
use Rattle.std.specs.Prelude.{if◌then◌else◌, nat_lt}
use Rattle.std.proofs.Math.Path.{fun_ext}
use Rattle.std.proofs.lemmas.Bool.{cases_lt, lt-ltb, le-ltb}
use Rattle.kahn_model.specs.declared.tick.Action.TheVariants.{Load, Store}
use Rattle.kahn_model.specs.declared.tick.Tick.{Tick}
use Rattle.kahn_model.specs.declared.tick.Tick.TheVariants.{Did}
use Rattle.kahn_model.specs.Counts.{next}
use Rattle.kahn_model.specs.Ending.{IsLeastToEnd}
use Rattle.kahn_model.specs.Network.{Network, IsNetwork}
use Rattle.kahn_model.specs.Outcome.{HaveJoinedEnded}
use Rattle.kahn_model.specs.Timed.{Clock, IsClock, ago, tick_moves, next_moves, moves, past_of, count_at, lost}
use Rattle.kahn_model.proofs.Bound.{joined_in_time}

-- ---- the cycles in which some memory does not answer

module _ (ready : ℕ → Bool) where
  abbrev more : Bool → ℕ → ℕ
  more b n = if b then suc n else n

  more_low : (b : Bool) (n : ℕ) → n ≤ more b n
  more_low true n = omega arith
  more_low false n = omega arith

  more_high : (b : Bool) (n : ℕ) → more b n ≤ suc n
  more_high true n = omega arith
  more_high false n = omega arith

  lost_later : (n d : ℕ) → lost ready n ≤ lost ready (d + n)
  lost_later n zero = subst (λ z. lost ready n ≤ lost ready z) (sym (zero-add n)) (omega arith)
  lost_later n (suc d) =
      let h = lost_later n d in
      let m = more_low (nat_lt 0 (d + n) && not (ready (d + n))) (lost ready (d + n)) in
      let next : suc d + n ≡ suc (d + n) = omega arith in
      let step : lost ready (suc (d + n)) ≡ more (nat_lt 0 (d + n) && not (ready (d + n))) (lost ready (d + n)) = refl in
      subst (λ z. lost ready n ≤ lost ready z) (sym next) (omega (arith, h, m, step))

  pub lost_grows : (n m : ℕ) → n ≤ m → lost ready n ≤ lost ready m
  lost_grows n m le = let sum : (m - n) + n ≡ m = omega arith in subst (λ z. lost ready n ≤ lost ready z) sum (lost_later n (m - n))

  lost_slow : (n d : ℕ) → lost ready (d + n) ≤ d + lost ready n
  lost_slow n zero = subst (λ z. lost ready z ≤ 0 + lost ready n) (sym (zero-add n)) (omega arith)
  lost_slow n (suc d) =
      let h = lost_slow n d in
      let m = more_high (nat_lt 0 (d + n) && not (ready (d + n))) (lost ready (d + n)) in
      let next : suc d + n ≡ suc (d + n) = omega arith in
      let step : lost ready (suc (d + n)) ≡ more (nat_lt 0 (d + n) && not (ready (d + n))) (lost ready (d + n)) = refl in
      subst (λ z. lost ready z ≤ suc d + lost ready n) (sym next) (omega (arith, h, m, step))

  pub lost_behind : (n m : ℕ) → n ≤ m → n + lost ready m ≤ m + lost ready n
  lost_behind n m le =
      let sum : (m - n) + n ≡ m = omega arith in
      let slow : lost ready m ≤ (m - n) + lost ready n = subst (λ z. lost ready z ≤ (m - n) + lost ready n) sum (lost_slow n (m - n)) in
      omega arith

  -- ---- answers that are cut off at a limit, behind which every memory answers

  module _ (limit : ℕ) where
    abbrev until : ℕ → Bool
    until n = if nat_lt n limit then ready n else true

    until_low : (n : ℕ) → n < limit → until n ≡ ready n
    until_low n l = ap (λ (b : Bool). if b then ready n else true) (lt-ltb n limit l)

    until_high : (n : ℕ) → limit ≤ n → until n ≡ true
    until_high n l = ap (λ (b : Bool). if b then ready n else true) (le-ltb n limit l)

    lost_same : (n : ℕ) → n ≤ limit → lost until n ≡ lost ready n
    lost_same zero le = refl
    lost_same (suc n) le =
        ap (λ b. more (nat_lt 0 n && not b) (lost until n)) (until_low n (omega arith)) ∙ ap (λ k. more (nat_lt 0 n && not (ready n)) k) (lost_same n (omega arith))

    none_more : (b : Bool) (k : ℕ) → more (b && false) k ≡ k
    none_more true k = refl
    none_more false k = refl

    lost_few : (n : ℕ) → lost until n ≤ lost ready limit
    lost_few zero = omega arith
    lost_few (suc n) =
        ⊎_elim
        (λ (low : n < limit). subst (λ k. k ≤ lost ready limit) (sym (lost_same (suc n) (omega arith))) (lost_grows (suc n) limit (omega arith)))
        (λ (up : limit ≤ n). subst (λ k. k ≤ lost ready limit) (sym (ap (λ b. more (nat_lt 0 n && not b) (lost until n)) (until_high n up) ∙ none_more (nat_lt 0 n) (lost until n))) (lost_few n))
        (cases_lt n limit)

module _ (net : Network) (ok : IsNetwork net) (clock : Clock) (top : ℕ) (ready : ℕ → Bool) (latest : (s : ℕ) → clock.latency s ≤ top) (answered : (n : ℕ) → ready n ≡ true → (i m : ℕ) → clock.answers i m n ≡ true) where
  module _ (limit : ℕ) where
    abbrev cut : Clock
    cut = record { latency = clock.latency; answers = λ i m n. if nat_lt n limit then clock.answers i m n else true }

    cut_low : (i m n : ℕ) → n < limit → cut.answers i m n ≡ clock.answers i m n
    cut_low i m n l = ap (λ (b : Bool). if b then clock.answers i m n else true) (lt-ltb n limit l)

    cut_answers : (n : ℕ) → until ready limit n ≡ true → (i m : ℕ) → cut.answers i m n ≡ true
    cut_answers n so i m =
        ⊎_elim
        (λ (low : n < limit). cut_low i m n low ∙ answered n (sym (until_low ready limit n low) ∙ so) i m)
        (λ (up : limit ≤ n). ap (λ (b : Bool). if b then clock.answers i m n else true) (le-ltb n limit up))
        (cases_lt n limit)

    is_cut : IsClock cut top (until ready limit) (lost ready limit)
    is_cut = record { latest = latest; answered = cut_answers; few = lost_few ready limit }

    module _ (n : ℕ) (low : n < limit) (past : List (ℕ → ℕ)) (i : ℕ) where
      tick_same : (t : Tick) → tick_moves net cut n past i t ≡ tick_moves net clock n past i t
      tick_same (Did (Load m a)) = cut_low i m n low
      tick_same (Did (Store m a v)) = cut_low i m n low
      tick_same _ = refl

      next_same : (o : Option Tick) → next_moves net cut n past i o ≡ next_moves net clock n past i o
      next_same None = refl
      next_same (Some t) = tick_same t

      moves_same : moves net cut n past i ≡ moves net clock n past i
      moves_same = ap (λ b. nat_lt 0 n && (nat_lt i net.size && b)) (next_same (next net (ago past 0) i))

    abbrev step_of : Clock → ℕ → List (ℕ → ℕ) → ℕ → ℕ
    step_of c n past i = if moves net c n past i then suc (ago past 0 i) else ago past 0 i

    past_same : (n : ℕ) → n ≤ limit → past_of net cut n ≡ past_of net clock n
    past_same zero le = refl
    past_same (suc n) le =
        let p = past_of net clock n in
        let steps : step_of cut n p ≡ step_of clock n p = fun_ext (λ i. ap (λ (b : Bool). if b then suc (ago p 0 i) else ago p 0 i) (moves_same n (omega arith) p i)) in
        ap (λ (l : List (ℕ → ℕ)). step_of cut n l ∷ l) (past_same n (omega arith)) ∙ ap (λ (f : ℕ → ℕ). f ∷ p) steps

    count_same : (n : ℕ) → n ≤ limit → count_at net cut n ≡ count_at net clock n
    count_same n le = ap (λ (l : List (ℕ → ℕ)). ago l 0) (past_same n le)

  module _ (a : ℕ) (least : IsLeastToEnd net a) where
    soon : (limit : ℕ) → 1 + a * suc top + lost ready limit ≤ limit → (n : ℕ) × (1 ≤ n) × (n ≤ limit) × HaveJoinedEnded net (count_at net clock n)
    soon limit enough =
        let t = joined_in_time net ok (cut limit) top (until ready limit) (lost ready limit) (is_cut limit) a least in
        let le : t.0 ≤ 1 + a * suc top + lost ready limit = t.2 in
        let low : t.0 ≤ limit = omega arith in
        (t.0, t.1, low, subst (HaveJoinedEnded net) (count_same limit t.0 low) t.3)

    -- with the cycles before it in which some memory does not answer
    pub in_time_by : (limit : ℕ) → 1 + a * suc top + lost ready limit ≤ limit → (n : ℕ) × (1 ≤ n) × (n ≤ 1 + a * suc top + lost ready n) × HaveJoinedEnded net (count_at net clock n)
    in_time_by zero enough = absurd (omega arith)
    in_time_by (suc limit) enough =
        ⊎_elim {C = (n : ℕ) × (1 ≤ n) × (n ≤ 1 + a * suc top + lost ready n) × HaveJoinedEnded net (count_at net clock n)}
        (λ (late : limit < 1 + a * suc top + lost ready limit).
        let t = soon (suc limit) enough in
        let low : t.0 ≤ suc limit = t.2 in
        (t.0, t.1, before t.0 low late, t.3))
        (λ (early : 1 + a * suc top + lost ready limit ≤ limit). in_time_by limit early)
        (cases_lt limit (1 + a * suc top + lost ready limit)) where
          before : (n : ℕ) → n ≤ suc limit → limit < 1 + a * suc top + lost ready limit → n ≤ 1 + a * suc top + lost ready n
          before n low late =
              ⊎_elim
              (λ (inside : n < suc limit). let b = lost_behind ready n limit (omega arith) in omega arith)
              (λ (end : suc limit ≤ n). let g = lost_grows ready limit n (omega arith) in omega arith)
              (cases_lt n (suc limit))
