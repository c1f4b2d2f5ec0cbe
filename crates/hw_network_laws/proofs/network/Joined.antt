-- A clocked network is done where its joined instances have ended.
use Rattle.std.proofs.Common.{◌≡◌, ℕ, zero, suc, ◌<◌, ◌≤◌, ◌+◌, ◌*◌, Bool, refl, sym, ap, ◌∙◌, subst, arith}
use Rattle.std.specs.Prelude.{flat_map}
use Rattle.kahn_model.specs.Network.{Network, put_on}
use Rattle.kahn_model.specs.Counts.{written, IsKahnPrefix, IsKahnStream}
use Rattle.kahn_model.specs.Outcome.{IsJoined, HaveJoinedEnded, IsDone, shown}
use Rattle.kahn_model.specs.Ending.{IsLeastToEnd}
use Rattle.kahn_model.specs.Timed.{Clock, IsClock, count_at}
use Rattle.kahn_model.proofs.Clocked.{clock_founded, count_le}
use Rattle.kahn_model.proofs.Reach.{is_kahn, whole as all_of_it}
use Rattle.kahn_model.proofs.Ended.{ended_later, ended_same}
use Rattle.kahn_model.proofs.Shown.{shown_written}
use Rattle.kahn_model.proofs.Least.{least_to_end}
use Rattle.kahn_model.proofs.Bound.{joined_in_time}
use Rattle.hw_lines.specs.Signals.{Streams, History, Part}
use Rattle.hw_network_laws.specs.network.Channel.{carried}
use Rattle.hw_network_laws.specs.network.Clocked.{IsClocked}
use Rattle.hw_network_laws.specs.network.Joined.{AreJoinedOver, DoneIsOfJoined}
use Rattle.hw_network_laws.proofs.network.Together.{in_step}

module _ (net : Network) (clock : Clock) (parts : ℕ → Part) (S : Streams) (h : ℕ → History) (ok : IsClocked net clock parts S h) where
  told : (n : ℕ) → 1 ≤ n → AreJoinedOver net h n → HaveJoinedEnded net (count_at net clock n)
  told zero l f = absurd (omega arith)
  told (suc n) l f = λ i inside j. ((in_step net clock parts S h ok n).1 i inside).ended (f i inside j)

  only : (n : ℕ) → 1 ≤ n → HaveJoinedEnded net (count_at net clock n) → AreJoinedOver net h n
  only zero l f = absurd (omega arith)
  only (suc n) l f = λ i inside j. ((in_step net clock parts S h ok n).1 i inside).only (f i inside j)

  later : (n m : ℕ) → n ≤ m → HaveJoinedEnded net (count_at net clock n) → HaveJoinedEnded net (count_at net clock m)
  later n m le f i inside j = ended_later net ok.network (count_at net clock n) (count_at net clock m) (count_le net clock n m le) i (f i inside j)

  after : (n m : ℕ) → 1 ≤ n → n ≤ m → AreJoinedOver net h n → HaveJoinedEnded net (count_at net clock m)
  after n m one le f = later n m le (told n one f)

  carried_is : (s n : ℕ) → carried S s n ≡ written net (count_at net clock n) s
  carried_is s zero = refl
  carried_is s (suc n) = (in_step net clock parts S h ok n).0.put s

  shows : (bound : ℕ) (k : ℕ → ℕ) → IsDone net bound k → (s n m : ℕ) → 1 ≤ n → n ≤ m → AreJoinedOver net h n → net.producer s < net.size → IsJoined net (net.producer s) → carried S s m ≡ shown net k s
  shows bound k d s n m one le f inside j =
      let p = net.producer s in
      carried_is s m
      ∙ ap (flat_map (put_on s)) (ended_same net ok.network (count_at net clock m) k p (after n m one le f p inside j) (d.ended p inside j))
      ∙ sym (shown_written net k s j)

  soon : (top : ℕ) (ready : ℕ → Bool) (waits : ℕ) → IsClock clock top ready waits → (a : ℕ) → IsLeastToEnd net a → (n : ℕ) × (1 ≤ n) × (n ≤ 1 + a * suc top + waits) × AreJoinedOver net h n
  soon top ready waits c a l =
      let d = joined_in_time net ok.network clock top ready waits c a l in
      (d.0, d.1, d.2, only d.0 d.1 d.3)

  in_time : (top : ℕ) (ready : ℕ → Bool) (waits : ℕ) → IsClock clock top ready waits → (bound : ℕ) (k : ℕ → ℕ) → IsDone net bound k → (a : ℕ) × IsLeastToEnd net a × ((n : ℕ) × (1 ≤ n) × (n ≤ 1 + a * suc top + waits) × AreJoinedOver net h n)
  in_time top ready waits c bound k d =
      let least = least_to_end net ok.network bound k d in
      (least.0, least.1, soon top ready waits c least.0 least.1)

  pub done_is_of_joined : DoneIsOfJoined net clock S h
  done_is_of_joined = record {
    told = told;
    only = only;
    stays = λ n m one le f. only m (omega arith) (after n m one le f);
    begins = λ s n. subst (IsKahnPrefix net s) (sym (carried_is s n)) (is_kahn net ok.network (count_at net clock n) (clock_founded net ok.network clock n) s);
    whole = λ s n m one le f inside j.
        subst (IsKahnStream net s) (sym (carried_is s m)) (all_of_it net ok.network (count_at net clock m) s (after n m one le f (net.producer s) inside j));
    shows = shows;
    soon = soon;
    in_time = in_time;
  }
