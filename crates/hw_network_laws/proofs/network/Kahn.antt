-- What a clocked network carries is Kahn's.
use Rattle.std.proofs.Common.{◌≡◌, ℕ, zero, suc, ◌<◌, ◌≤◌, true, sym, subst, arith}
use Rattle.kahn_model.specs.Network.{Network}
use Rattle.kahn_model.specs.Counts.{HasEnded, IsKahnPrefix, IsKahnStream}
use Rattle.kahn_model.specs.Timed.{Clock, count_at}
use Rattle.kahn_model.proofs.Clocked.{clock_founded}
use Rattle.kahn_model.proofs.Reach.{is_kahn, whole as all_of_it}
use Rattle.kahn_model.proofs.Bound.{done_in_time}
use Rattle.hw_lines.specs.Signals.{Streams, History, Part}
use Rattle.hw_network_laws.specs.network.Clocked.{IsClocked, CarriesKahn}
use Rattle.hw_network_laws.proofs.network.Together.{in_step}

module _ (net : Network) (clock : Clock) (parts : ℕ → Part) (S : Streams) (h : ℕ → History) (ok : IsClocked net clock parts S h) where
  ended_at : (k : ℕ → ℕ) (n : ℕ) → 1 ≤ n → ((i : ℕ) → HasEnded net k i → HasEnded net (count_at net clock n) i) → (i : ℕ) → i < net.size → HasEnded net k i → (h i).ended n ≡ true
  ended_at k zero l f i inside e = absurd (omega arith)
  ended_at k (suc n) l f i inside e = ((in_step net clock parts S h ok n).1 i inside).only (f i e)

  pub carries_kahn : CarriesKahn net clock S h
  carries_kahn = record {
    begins = λ s n. subst (IsKahnPrefix net s) (sym ((in_step net clock parts S h ok n).0.put s)) (is_kahn net ok.network (count_at net clock (suc n)) (clock_founded net ok.network clock (suc n)) s);
    whole = λ s n inside e.
        let w = in_step net clock parts S h ok n in
        subst (IsKahnStream net s) (sym (w.0.put s)) (all_of_it net ok.network (count_at net clock (suc n)) s ((w.1 (net.producer s) inside).ended e));
    in_time = λ top ready waits c k r.
        let d = done_in_time net ok.network clock top ready waits c k r in
        (d.0, d.1, d.2, ended_at k d.0 d.1 d.3);
  }
