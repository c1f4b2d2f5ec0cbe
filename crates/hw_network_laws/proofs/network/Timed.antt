-- The counts of a clock, row by row.
use Rattle.std.proofs.Common.{◌≡◌, ℕ, zero, suc, ◌-◌, ◌+◌, ◌*◌, ◌<◌, ◌≤◌, length, Bool, true, false, ◌&&◌, Option, Some, None, refl, sym, ap, ◌∙◌, arith}
use Rattle.std.specs.Prelude.{slice_get, nat_lt, if◌then◌else◌}
use Rattle.std.proofs.lemmas.Bool.{lt-ltb, ltb-true, and_from as and_both}
use Rattle.kahn_model.specs.declared.tick.Action.TheVariants.{Local, Put}
use Rattle.kahn_model.specs.declared.tick.Tick.{Tick}
use Rattle.kahn_model.specs.declared.tick.Tick.TheVariants.{Did, Take, See, End}
use Rattle.kahn_model.specs.Network.{Network, IsNetwork, round}
use Rattle.kahn_model.specs.Counts.{round_of, written, taken, next}
use Rattle.kahn_model.specs.Timed.{Clock, ago, tick_moves, next_moves, moves, past_of, count_at}
use Rattle.kahn_model.proofs.Order.{prefix_get}
use Rattle.kahn_model.proofs.Grow.{round_le}
use Rattle.kahn_model.proofs.Reach.{next_in_time}
use Rattle.kahn_model.proofs.Clocked.{clock_founded}
use Rattle.hw_network_laws.specs.network.Timed.{IsMadeIn, IsNextTick, GoesByRows}
use Rattle.hw_network_laws.proofs.network.Ahead.{token_there}
use Rattle.hw_network_laws.proofs.network.Seen.{ago_is}
use Rattle.tapa_base.proofs.Tests.{both_true as and_parts}

module _ (net : Network) (clock : Clock) (n : ℕ) where
  abbrev now : ℕ → ℕ
  now = count_at net clock n

  -- a token that is there, and room that is there
  seen_is : (s : ℕ) → nat_lt (length (taken net now s)) (length (written net (ago (past_of net clock n) (clock.latency s)) s)) ≡ nat_lt (length (taken net now s)) (length (written net (count_at net clock (n - clock.latency s)) s))
  seen_is s = ap (λ k. nat_lt (length (taken net now s)) (length (written net k s))) (ago_is net clock n (clock.latency s))

  room_is : (s : ℕ) → nat_lt (length (written net (ago (past_of net clock n) (2 * clock.latency s)) s) - length (taken net (ago (past_of net clock n) (clock.latency s)) s)) (net.depth s) ≡ nat_lt (length (written net (count_at net clock (n - 2 * clock.latency s)) s) - length (taken net (count_at net clock (n - clock.latency s)) s)) (net.depth s)
  room_is s =
      ap (λ k. nat_lt (length (written net k s) - length (taken net (ago (past_of net clock n) (clock.latency s)) s)) (net.depth s)) (ago_is net clock n (2 * clock.latency s))
      ∙ ap (λ k. nat_lt (length (written net (count_at net clock (n - 2 * clock.latency s)) s) - length (taken net k s)) (net.depth s)) (ago_is net clock n (clock.latency s))

  pub by_row : (i : ℕ) (t : Tick) → IsMadeIn net clock n i t → tick_moves net clock n (past_of net clock n) i t ≡ true
  by_row i (Take s t) l = seen_is s ∙ lt-ltb _ _ l
  by_row i (See s t) l = seen_is s ∙ lt-ltb _ _ l
  by_row i (Did (Put s t)) (late, room) = and_both _ _ (lt-ltb (clock.latency s) n late) (room_is s ∙ lt-ltb _ _ room)
  by_row i (Did Local) e = refl
  by_row i End e = refl
  by_row i _ e = e

  pub row_of : (i : ℕ) (t : Tick) → tick_moves net clock n (past_of net clock n) i t ≡ true → IsMadeIn net clock n i t
  row_of i (Take s t) e = ltb-true _ _ (sym (seen_is s) ∙ e)
  row_of i (See s t) e = ltb-true _ _ (sym (seen_is s) ∙ e)
  row_of i (Did (Put s t)) e =
      let p = and_parts _ _ e in
      (ltb-true (clock.latency s) n p.0, ltb-true _ _ (sym (room_is s) ∙ p.1))
  row_of i (Did Local) e = tt
  row_of i End e = tt
  row_of i _ e = e

module _ (net : Network) (ok : IsNetwork net) (clock : Clock) where
  pub one_next : (k : ℕ → ℕ) (i : ℕ) (t u : Tick) → IsNextTick net k i t → IsNextTick net k i u → t ≡ u
  one_next k i t u (m, e) (l, f) =
      let us = round net (m + l) i in
      let a : slice_get us (k i) ≡ Some t = prefix_get (round net m i) us (k i) t (round_le net ok m (m + l) (omega arith) i) e in
      let b : slice_get us (k i) ≡ Some u = prefix_get (round net l i) us (k i) u (round_le net ok l (m + l) (omega arith) i) f in
      cc

  zeros_first : (n i : ℕ) → n ≤ 1 → count_at net clock n i ≡ 0
  zeros_first zero i l = refl
  zeros_first (suc zero) i l = refl
  zeros_first (suc (suc n)) i l = absurd (omega arith)

  abbrev it_moves : ℕ → ℕ → Bool
  it_moves n i = moves net clock n (past_of net clock n) i

  pub moves_by_row : (n i : ℕ) (t : Tick) → 1 ≤ n → i < net.size → IsNextTick net (count_at net clock n) i t → IsMadeIn net clock n i t → it_moves n i ≡ true
  moves_by_row n i t late inside (m, e) row =
      let mv = by_row net clock n i t row in
      let is : next net (count_at net clock n) i ≡ Some t = next_in_time net ok (count_at net clock n) (clock_founded net ok clock n) m i t inside e (token_there net ok clock n i t mv) in
      and_both _ _ (lt-ltb 0 n (omega arith)) (and_both _ _ (lt-ltb i net.size inside) (ap (next_moves net clock n (past_of net clock n) i) is ∙ mv))

  moved : (n i : ℕ) (o : Option Tick) → next net (count_at net clock n) i ≡ o → next_moves net clock n (past_of net clock n) i o ≡ true → (t : Tick) × (next net (count_at net clock n) i ≡ Some t) × IsMadeIn net clock n i t
  moved n i None f e = cc
  moved n i (Some t) f e = (t, f, row_of net clock n i t e)

  pub moved_tick : (n i : ℕ) → it_moves n i ≡ true → (t : Tick) × (next net (count_at net clock n) i ≡ Some t) × IsMadeIn net clock n i t
  moved_tick n i e = moved n i (next net (count_at net clock n) i) refl (and_parts _ _ (and_parts _ _ e).1).1

  pub stays : (n i : ℕ) → ((t : Tick) → 1 ≤ n → i < net.size → IsNextTick net (count_at net clock n) i t → IsMadeIn net clock n i t → ⊥) → count_at net clock (suc n) i ≡ count_at net clock n i
  stays n i none = go (it_moves n i) refl
    where
      go : (b : Bool) → it_moves n i ≡ b → count_at net clock (suc n) i ≡ count_at net clock n i
      go false e = ap (λ b. if b then suc (count_at net clock n i) else count_at net clock n i) e
      go true e =
          let p = and_parts _ _ e in
          let q = and_parts _ _ p.1 in
          let late = ltb-true 0 n p.0 in
          let m = moved_tick n i e in
          absurd (none m.0 (omega arith) (ltb-true i net.size q.0) (round_of net (count_at net clock n), m.1) m.2)

  pub goes_by_rows : GoesByRows net clock
  goes_by_rows = record {
    zeros = zeros_first;
    one_next = λ n i t u e f. one_next (count_at net clock n) i t u e f;
    made = λ n i t late inside next row. ap (λ b. if b then suc (count_at net clock n i) else count_at net clock n i) (moves_by_row n i t late inside next row);
    stays = stays;
  }
