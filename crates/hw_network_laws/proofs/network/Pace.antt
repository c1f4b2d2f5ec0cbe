-- How late the timed counts can be, and how many tokens a stream can have on its way.
use Rattle.std.proofs.Common.{◌≡◌, ℕ, zero, suc, ◌+◌, ◌-◌, ◌*◌, ◌<◌, ◌≤◌, [], ◌∷◌, length, Bool, true, false, Some, None, refl, sym, ap, ◌∙◌, subst, arith, length-append}
use Rattle.std.specs.Prelude.{◌==◌, nat_lt, if◌then◌else◌}
use Rattle.std.proofs.lemmas.Bool.{lt-ltb, ltb-true, eqb-true, and_from as and_both}
use Rattle.tapa_base.specs.Operators.{bit}
use Rattle.kahn_model.specs.declared.tick.Action.TheVariants.{Local, Put, Load, Store}
use Rattle.kahn_model.specs.declared.tick.Tick.{Tick}
use Rattle.kahn_model.specs.declared.tick.Tick.TheVariants.{Did, Take, See, End}
use Rattle.kahn_model.specs.Network.{Network, IsNetwork, put_on}
use Rattle.kahn_model.specs.Counts.{round_of, ticks_made, written, taken, HasToken, HasRoom, IsAllowed}
use Rattle.kahn_model.specs.Timed.{Clock, moves, past_of, count_at}
use Rattle.kahn_model.proofs.Count.{OwnTick, own_round, made_same, next_same, written_le, taken_le, written_same, taken_same}
use Rattle.kahn_model.proofs.Order.{prefix_length}
use Rattle.kahn_model.proofs.Taken.{taken_begins}
use Rattle.kahn_model.proofs.Clocked.{clock_founded, count_up, count_le}
use Rattle.hw_network_laws.specs.network.Timed.{IsMadeIn, IsNextTick}
use Rattle.circuit_meaning.specs.Pace.{memory_of, MakesIn, is_ready, times, on_their_way, KeepsPace}
use Rattle.hw_network_laws.proofs.network.Made.{made_more, made_stay, written_more}
use Rattle.hw_network_laws.proofs.network.Timed.{one_next, moves_by_row, moved_tick, stays}
use Rattle.tapa_base.proofs.Tests.{both_true as and_parts}

-- ---- numbers of cycles

bit_few : (b : Bool) → bit b ≤ 1
bit_few true = omega arith
bit_few false = omega arith

times_few : (holds : ℕ → Bool) (n d : ℕ) → times holds n d ≤ suc d
times_few holds n zero = bit_few (holds n)
times_few holds n (suc d) = let h = times_few holds n d in let b = bit_few (holds (n - suc d)) in omega arith

-- one cycle later one more comes, and the last one goes
times_next : (holds : ℕ → Bool) (n d : ℕ) → times holds (suc n) d + bit (holds (n - d)) ≡ times holds n d + bit (holds (suc n))
times_next holds n zero =
    let e : bit (holds (n - 0)) ≡ bit (holds n) = ap (λ m. bit (holds m)) (let z : n - 0 ≡ n = omega arith in z) in omega arith
times_next holds n (suc d) =
    let h = times_next holds n d in
    let e : bit (holds (suc n - suc d)) ≡ bit (holds (n - d)) = ap (λ m. bit (holds m)) (let z : suc n - suc d ≡ n - d = omega arith in z) in
    omega arith

module _ (W T : ℕ → ℕ) (r : ℕ → Bool) (L depth : ℕ) (none : W 0 ≡ 0) (never : r 0 ≡ false) (grows : (n : ℕ) → W (suc n) ≤ W n + bit (r (n - L))) (takes : (n : ℕ) → T n ≤ T (suc n)) (room : (n : ℕ) → r n ≡ true → W (n - L) < depth + T n) where
  one_more : (n : ℕ) → W (suc n) ≤ suc (W n)
  one_more n = let g = grows n in let b = times_few r (n - L) 0 in omega arith

  lately : (n d : ℕ) → W n ≤ W (n - d) + d
  lately n zero = let e : W (n - 0) ≡ W n = ap W (let z : n - 0 ≡ n = omega arith in z) in omega arith
  lately zero (suc d) = let e : W (0 - suc d) ≡ W 0 = ap W (let z : 0 - suc d ≡ 0 = omega arith in z) in omega arith
  lately (suc n) (suc d) =
      let h = lately n d in
      let m = one_more n in
      let e : W (suc n - suc d) ≡ W (n - d) = ap W (let z : suc n - suc d ≡ n - d = omega arith in z) in
      omega arith

  times_none : (d : ℕ) → times r 0 d ≡ 0
  times_none zero = ap bit never
  times_none (suc d) =
      let h = times_none d in
      let e : bit (r (0 - suc d)) ≡ 0 = ap (λ m. bit (r m)) (let z : 0 - suc d ≡ 0 = omega arith in z) ∙ ap bit never in
      omega arith

  pub few_tokens : (n : ℕ) → W n + times r n L ≤ depth + 2 * L + T n
  few_tokens zero = let e = times_none L in omega arith
  few_tokens (suc n) = go (r (suc n)) refl (few_tokens n)
    where
      go : (b : Bool) → r (suc n) ≡ b → W n + times r n L ≤ depth + 2 * L + T n → W (suc n) + times r (suc n) L ≤ depth + 2 * L + T (suc n)
      go true e h =
          let a = room (suc n) e in
          let l = lately (suc n) L in
          let f = times_few r (suc n) L in
          omega arith
      go false e h =
          let g = grows n in
          let t = takes n in
          let x = times_next r n L in
          let z : bit (r (suc n)) ≡ 0 = ap bit e in
          omega arith

-- ---- the counts of a clock

module _ (net : Network) (ok : IsNetwork net) (clock : Clock) where
  abbrev at : ℕ → ℕ → ℕ
  at n = count_at net clock n

  -- where a tick puts a token, its stream was ready as long ago as its latency says
  put_bit : (s n i : ℕ) (t : Tick) → IsMadeIn net clock n i t → length (put_on s t) ≤ bit (is_ready net clock s (n - clock.latency s))
  put_bit s n i (Did (Put q t)) row = go (q == s) refl
    where
      was_ready : q ≡ s → is_ready net clock s (n - clock.latency s) ≡ true
      was_ready e =
          let same : IsMadeIn net clock n i (Did (Put s t)) = subst (λ x. IsMadeIn net clock n i (Did (Put x t))) e row in
          let late = same.0 in
          let z : n - 2 * clock.latency s ≡ n - clock.latency s - clock.latency s = omega arith in
          let room = subst (λ m. length (written net (at m) s) - length (taken net (at (n - clock.latency s)) s) < net.depth s) z same.1 in
          and_both _ _ (lt-ltb 0 (n - clock.latency s) (omega arith)) (lt-ltb _ _ room)

      go : (b : Bool) → (q == s) ≡ b → length (if b then t ∷ [] else []) ≤ bit (is_ready net clock s (n - clock.latency s))
      go false e = omega arith
      go true e =
          let o : bit (is_ready net clock s (n - clock.latency s)) ≡ 1 = ap bit (was_ready (eqb-true q s e)) in
          omega arith
  put_bit s n i _ row = omega arith

  count_if : (n i : ℕ) (b : Bool) → moves net clock n (past_of net clock n) i ≡ b → at (suc n) i ≡ (if b then suc (at n i) else at n i)
  count_if n i b e = ap (λ z. if z then suc (at n i) else at n i) e

  written_grows : (s n : ℕ) → length (written net (at (suc n)) s) ≤ length (written net (at n) s) + bit (is_ready net clock s (n - clock.latency s))
  written_grows s n = go (moves net clock n (past_of net clock n) p) refl
    where
      p : ℕ
      p = net.producer s

      go : (b : Bool) → moves net clock n (past_of net clock n) p ≡ b → length (written net (at (suc n)) s) ≤ length (written net (at n) s) + bit (is_ready net clock s (n - clock.latency s))
      go false e =
          let made = made_stay net ok (at n) (at (suc n)) (count_up net clock n) (clock_founded net ok clock n) (clock_founded net ok clock (suc n)) p (count_if n p false e) in
          let w = ap length (written_same net (at (suc n)) (at n) p s refl made) in
          omega arith
      go true e =
          let m = moved_tick net ok clock n p e in
          let made = made_more net ok (at n) (at (suc n)) (count_up net clock n) (clock_founded net ok clock n) (clock_founded net ok clock (suc n)) p m.0 (count_if n p true e) m.1 in
          let w = ap length (written_more net (at n) (at (suc n)) s m.0 made) in
          let l = length-append (written net (at n) s) (put_on s m.0) in
          let o = put_bit s n p m.0 m.2 in
          omega arith

  was_room : (s n : ℕ) → is_ready net clock s n ≡ true → length (written net (at (n - clock.latency s)) s) < net.depth s + length (taken net (at n) s)
  was_room s n e =
      let l : length (written net (at (n - clock.latency s)) s) - length (taken net (at n) s) < net.depth s = ltb-true (length (written net (at (n - clock.latency s)) s) - length (taken net (at n) s)) (net.depth s) (and_parts (nat_lt 0 n) (nat_lt (length (written net (at (n - clock.latency s)) s) - length (taken net (at n) s)) (net.depth s)) e).1 in
      omega arith

  few : (s n : ℕ) → length (written net (at n) s) - length (taken net (at n) s) + on_their_way net clock s n ≤ net.depth s + 2 * clock.latency s
  few s n =
      let h = few_tokens (λ m. length (written net (at m) s)) (λ m. length (taken net (at m) s)) (is_ready net clock s) (clock.latency s) (net.depth s) refl refl (written_grows s) (λ m. taken_le net ok (at m) (at (suc m)) (count_up net clock m) s) (was_room s) n in
      let t = prefix_length _ _ (taken_begins net ok (at n) (clock_founded net ok clock n) s) in
      omega arith

  -- an allowed tick
  module _ (n i : ℕ) (one : 1 ≤ n) (a : IsAllowed net (at n) i) where
    still_next : (m : ℕ) → n ≤ m → at m i ≡ at n i → IsNextTick net (at m) i a.supplied.tick
    still_next m le same = (round_of net (at m), next_same net ok (at n) (at m) (count_le net clock n m le) i (sym same) a.supplied.tick a.supplied.is_next)

    made_in : (m : ℕ) → n ≤ m → at m i ≡ at n i → IsMadeIn net clock m i a.supplied.tick → MakesIn net clock n i m
    made_in m le same row =
        record {
          before = same;
          made = count_if m i true (moves_by_row net ok clock m i a.supplied.tick (omega arith) a.supplied.inside (still_next m le same) row) ∙ ap suc same;
        }

    stays_at : (m : ℕ) → n ≤ m → at m i ≡ at n i → (IsMadeIn net clock m i a.supplied.tick → ⊥) → at (suc m) i ≡ at n i
    stays_at m le same not_row =
        stays net ok clock m i (λ u late inside is row. not_row (subst (IsMadeIn net clock m i) (one_next net ok clock (at m) i u a.supplied.tick is (still_next m le same)) row)) ∙ same

    -- that waits for a memory is made where it answers
    by_answer : (x m : ℕ) (u : Tick) → memory_of u ≡ Some x → clock.answers i x m ≡ true → IsMadeIn net clock m i u
    by_answer x m (Did Local) f e = tt
    by_answer x m (Did (Load y c)) f e = let q : x ≡ y = cc in subst (λ z. clock.answers i z m ≡ true) q e
    by_answer x m (Did (Store y c v)) f e = let q : x ≡ y = cc in subst (λ z. clock.answers i z m ≡ true) q e
    by_answer x m End f e = tt
    by_answer x m _ f e = cc

    answer_of : (x m : ℕ) (u : Tick) → memory_of u ≡ Some x → IsMadeIn net clock m i u → clock.answers i x m ≡ true
    answer_of x m (Did (Load y c)) f e = let q : y ≡ x = cc in subst (λ z. clock.answers i z m ≡ true) q e
    answer_of x m (Did (Store y c v)) f e = let q : y ≡ x = cc in subst (λ z. clock.answers i z m ≡ true) q e
    answer_of x m _ f e = cc

    stays_until : (x : ℕ) → memory_of a.supplied.tick ≡ Some x → (d : ℕ) → ((j : ℕ) → n ≤ j → j < n + d → clock.answers i x j ≡ false) → at (n + d) i ≡ at n i
    stays_until x e zero silent = ap (λ z. at z i) (let z : n + 0 ≡ n = omega arith in z)
    stays_until x e (suc d) silent =
        let h = stays_until x e d (λ j le l. silent j le (omega arith)) in
        let z : suc (n + d) ≡ n + suc d = omega arith in
        let f = silent (n + d) (omega arith) (omega arith) in
        subst (λ y. at y i ≡ at n i) z
        (stays_at (n + d) (omega arith) h (λ row. let g = answer_of x (n + d) a.supplied.tick e row in let bad : true ≡ false = sym g ∙ f in cc))

    pub answered : (x m : ℕ) → memory_of a.supplied.tick ≡ Some x → n ≤ m → ((j : ℕ) → n ≤ j → j < m → clock.answers i x j ≡ false) → clock.answers i x m ≡ true → MakesIn net clock n i m
    answered x m e le silent here =
        let z : n + (m - n) ≡ m = omega arith in
        let same = subst (λ y. at y i ≡ at n i) z (stays_until x e (m - n) (λ j l u. silent j l (omega arith))) in
        made_in m le same (by_answer x m a.supplied.tick e here)

    -- that waits for none is made after the greatest latency at the latest
    module _ (top : ℕ) (latest : (s : ℕ) → clock.latency s ≤ top) where
      module _ (m : ℕ) (late : n + top ≤ m) (same : at m i ≡ at n i) where
        as_many : ticks_made net (at n) i ≡ ticks_made net (at m) i
        as_many = made_same net ok (at n) (at m) (count_le net clock n m (omega arith)) i (sym same) a.supplied.tick a.supplied.is_next

        token_late : (s : ℕ) → net.consumer s ≡ i → length (taken net (at n) s) < length (written net (at n) s) → length (taken net (at m) s) < length (written net (at (m - clock.latency s)) s)
        token_late s own l =
            let lat = latest s in
            let e = ap length (taken_same net (at n) (at m) i s own as_many) in
            let w = written_le net ok (at n) (at (m - clock.latency s)) (count_le net clock n (m - clock.latency s) (omega arith)) s in
            omega arith

        room_late : (s : ℕ) → net.producer s ≡ i → length (written net (at n) s) - length (taken net (at n) s) < net.depth s → (clock.latency s < m) × (length (written net (at (m - 2 * clock.latency s)) s) - length (taken net (at (m - clock.latency s)) s) < net.depth s)
        room_late s own l =
            let lat = latest s in
            let w = written_le net ok (at (m - 2 * clock.latency s)) (at m) (count_le net clock (m - 2 * clock.latency s) m (omega arith)) s in
            let e = ap length (written_same net (at n) (at m) i s own as_many) in
            let u = taken_le net ok (at n) (at (m - clock.latency s)) (count_le net clock n (m - clock.latency s) (omega arith)) s in
            (omega arith, omega arith)

        row_late : (u : Tick) → OwnTick net.producer net.consumer i u → HasToken net (at n) u → HasRoom net (at n) u → memory_of u ≡ None → IsMadeIn net clock m i u
        row_late (Did (Put s v)) own tok room e = room_late s own room
        row_late (Did (Load y c)) own tok room e = cc
        row_late (Did (Store y c v)) own tok room e = cc
        row_late (Take s v) own tok room e = token_late s own tok
        row_late (See s v) own tok room e = token_late s own tok
        row_late _ own tok room e = tt

      own : OwnTick net.producer net.consumer i a.supplied.tick
      own = own_round net ok (round_of net (at n)) i (at n i) a.supplied.tick a.supplied.is_next

      abbrev Found : Type 0
      Found = (m : ℕ) × (n ≤ m) × (m ≤ n + top) × MakesIn net clock n i m

      find : memory_of a.supplied.tick ≡ None → (fuel d : ℕ) → d + fuel ≡ top → at (n + d) i ≡ at n i → Found
      find e zero d all same = (n + d, omega arith, omega arith, made_in (n + d) (omega arith) same (row_late (n + d) (omega arith) same a.supplied.tick own a.supplied.token a.room e))
      find e (suc fuel) d all same = go (moves net clock (n + d) (past_of net clock (n + d)) i) refl (λ s. find e fuel (suc d) (omega arith) s)
        where
          go : (b : Bool) → moves net clock (n + d) (past_of net clock (n + d)) i ≡ b → (at (n + suc d) i ≡ at n i → Found) → Found
          go true q rec = (n + d, omega arith, omega arith, record { before = same; made = count_if (n + d) i true q ∙ ap suc same })
          go false q rec =
              let z : suc (n + d) ≡ n + suc d = omega arith in
              rec (subst (λ y. at y i ≡ at n i) z (count_if (n + d) i false q ∙ same))

      pub soon : memory_of a.supplied.tick ≡ None → (m : ℕ) × (n ≤ m) × (m ≤ n + top) × MakesIn net clock n i m
      soon e = find e top 0 (omega arith) (ap (λ z. at z i) (let z : n + 0 ≡ n = omega arith in z))

  pub keeps_pace : (top : ℕ) → ((s : ℕ) → clock.latency s ≤ top) → KeepsPace net clock top
  keeps_pace top latest = record {
    soon = λ n i one a e. soon n i one a top latest e;
    answered = λ n i x m one a e le silent here. answered n i one a x m e le silent here;
    few = few;
  }
