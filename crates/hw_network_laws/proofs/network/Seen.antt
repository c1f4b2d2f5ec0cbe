-- What the channels show in a cycle is what the timed counts ask for.
use Rattle.std.proofs.Common.{◌≡◌, ℕ, zero, suc, ◌-◌, ◌*◌, ◌≤◌, List, [], ◌∷◌, length, true, ◌&&◌, Some, refl, sym, ap, ◌∙◌, arith}
use Rattle.std.specs.Prelude.{slice_get, nat_lt}
use Rattle.tapa_base.specs.declared.token.Token.{Token}
use Rattle.kahn_model.specs.declared.tick.Action.TheVariants.{Put}
use Rattle.kahn_model.specs.declared.tick.StreamOperation.{StreamOperation}
use Rattle.kahn_model.specs.declared.tick.StreamOperation.TheVariants.{Read}
use Rattle.kahn_model.specs.declared.tick.Tick.TheVariants.{Did}
use Rattle.kahn_model.specs.Behavior.{tick_of}
use Rattle.kahn_model.specs.Network.{Network}
use Rattle.kahn_model.specs.Counts.{written, taken}
use Rattle.kahn_model.specs.Timed.{Clock, ago, tick_moves, past_of, count_at}
use Rattle.hw_lines.specs.Signals.{Streams}
use Rattle.hw_network_laws.specs.network.Channel.{carried, drawn, KeepsContract}
use Rattle.hw_network_laws.specs.network.Clocked.{AreCarried}
use Rattle.hw_network_laws.proofs.network.Ahead.{ahead, ahead_is}
use Rattle.hw_network_laws.proofs.network.Allowed.{IsSeen}
use Rattle.tapa_base.proofs.Got.{get_drop}

-- the count of d cycles ago
pub ago_is : (net : Network) (clock : Clock) (n d : ℕ) → ago (past_of net clock n) d ≡ count_at net clock (n - d)
ago_is net clock n zero = let e : n ≡ n - 0 = omega arith in ap (λ m. count_at net clock m) e
ago_is net clock zero (suc d) = let e : 0 - suc d ≡ 0 = omega arith in ap (λ m. count_at net clock m) (sym e)
ago_is net clock (suc n) (suc d) = let e : n - d ≡ suc n - suc d = omega arith in ago_is net clock n d ∙ ap (λ m. count_at net clock m) e

module _ (net : Network) (clock : Clock) (S : Streams) (channels : (s : ℕ) → KeepsContract S s (net.depth s) (clock.latency s)) (n : ℕ) (so_far : (m : ℕ) → m ≤ suc n → AreCarried net clock S m) where
  put_ago : (s d : ℕ) → length (written net (ago (past_of net clock (suc n)) d) s) ≡ length (carried S s (suc n - d))
  put_ago s d =
      ap (λ k. length (written net k s)) (ago_is net clock (suc n) d)
      ∙ ap length (sym ((so_far (suc n - d) (omega arith)).put s))

  taken_ago : (s d : ℕ) → length (taken net (ago (past_of net clock (suc n)) d) s) ≡ length (drawn S s (suc n - d))
  taken_ago s d =
      ap (λ k. length (taken net k s)) (ago_is net clock (suc n) d)
      ∙ ap length (sym ((so_far (suc n - d) (omega arith)).took s))

  token_is : (i s : ℕ) → net.consumer s ≡ i → S.has s (suc n) ≡ true → slice_get (ahead net (count_at net clock (suc n)) i s) 0 ≡ Some (S.dout s (suc n))
  token_is i s own has =
      let k = count_at net clock (suc n) in
      let at = so_far (suc n) (omega arith) in
      ap (λ l. slice_get l 0) (ahead_is net k i s own)
      ∙ get_drop (written net k s) (length (taken net k s))
      ∙ ap (λ l. slice_get l (length (taken net k s))) (sym (at.put s))
      ∙ ap (λ (l : List Token). slice_get (carried S s (suc n)) (length l)) (sym (at.took s))
      ∙ (channels s).token n has

  waits_for : (s : ℕ) → nat_lt (length (taken net (ago (past_of net clock (suc n)) 0) s)) (length (written net (ago (past_of net clock (suc n)) (clock.latency s)) s)) ≡ S.has s (suc n)
  waits_for s =
      ap (λ (l : List Token). nat_lt (length l) (length (written net (ago (past_of net clock (suc n)) (clock.latency s)) s))) (sym ((so_far (suc n) (omega arith)).took s))
      ∙ ap (nat_lt (length (drawn S s (suc n)))) (put_ago s (clock.latency s))
      ∙ sym ((channels s).offer n)

  wait_is : (i : ℕ) (how : StreamOperation) (s : ℕ) (t : Token) → tick_moves net clock (suc n) (past_of net clock (suc n)) i (tick_of how s t) ≡ S.has s (suc n)
  wait_is i Read s t = waits_for s
  wait_is i _ s t = waits_for s

  room_is : (i s : ℕ) (t : Token) → tick_moves net clock (suc n) (past_of net clock (suc n)) i (Did (Put s t)) ≡ S.rdy s (suc n)
  room_is i s t =
      let L = clock.latency s in
      ap (λ a. nat_lt L (suc n) && nat_lt (a - length (taken net (ago (past_of net clock (suc n)) L) s)) (net.depth s)) (put_ago s (2 * L))
      ∙ ap (λ b. nat_lt L (suc n) && nat_lt (length (carried S s (suc n - 2 * L)) - b) (net.depth s)) (taken_ago s L)
      ∙ sym ((channels s).ready n)

  pub seen : (i : ℕ) → IsSeen S (clock.answers i) net.consumer (suc n) i (ahead net (count_at net clock (suc n)) i) (tick_moves net clock (suc n) (past_of net clock (suc n)) i)
  seen i = record {
    front = token_is i;
    wait = wait_is i;
    room = room_is i;
    load = λ m a. refl;
    store = λ m a v. refl;
    local = refl;
    end = refl;
  }
