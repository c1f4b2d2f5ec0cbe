-- What a network shows where its joined instances have ended.
use Rattle.std.proofs.Common.{◌≡◌, ℕ, ◌<◌, ◌≤◌, List, [], Bool, true, false, refl, sym, ap, subst, arith}
use Rattle.std.specs.Prelude.{flat_map, if◌then◌else◌}
use Rattle.tapa_base.specs.declared.token.Token.{Token}
use Rattle.kahn_model.specs.Network.{Network, IsNetwork, put_on, take_from, stream}
use Rattle.kahn_model.specs.Counts.{written, taken, IsReachable, IsKahnPrefix, IsKahnStream}
use Rattle.kahn_model.specs.Outcome.{IsJoined, HaveJoinedEnded, IsDone, shown}
use Rattle.kahn_model.specs.Ending.{ShowAlike}
use Rattle.kahn_model.proofs.Order.{prefix_trans}
use Rattle.kahn_model.proofs.Reach.{reach_founded, is_kahn, whole}
use Rattle.kahn_model.proofs.Ends.{greatest}
use Rattle.kahn_model.proofs.Ended.{ended_same, ended_count, ended_later}
use Rattle.kahn_model.proofs.Joined.{joined_same}
use Rattle.kahn_model.proofs.Taken.{taken_begins}

alike_by : (a b : Bool) (w x t u : List Token) → (a ≡ false → w ≡ x) → (b ≡ false → t ≡ u) → (if a then (if b then [] else t) else w) ≡ (if a then (if b then [] else u) else x)
alike_by true true w x t u f g = refl
alike_by true false w x t u f g = g refl
alike_by false b w x t u f g = f refl

begins_by : (net : Network) (s : ℕ) (a b : Bool) (w t : List Token) → IsKahnPrefix net s w → IsKahnPrefix net s t → IsKahnPrefix net s (if a then (if b then [] else t) else w)
begins_by net s true true w t f g = (0, tt)
begins_by net s true false w t f g = g
begins_by net s false b w t f g = f

-- what a joined producer has written is shown
pub shown_written : (net : Network) (k : ℕ → ℕ) (s : ℕ) → IsJoined net (net.producer s) → shown net k s ≡ written net k s
shown_written net k s j = ap (λ (b : Bool). if b then (if net.detached (net.consumer s) then [] else taken net k s) else written net k s) j

module _ (net : Network) (ok : IsNetwork net) where
  pub ends_alike : (k m : ℕ → ℕ) → IsReachable net k → IsReachable net m → HaveJoinedEnded net k → HaveJoinedEnded net m → ShowAlike net k m
  ends_alike k m rk rm hk hm = record {
    ticks = joined_same net k m (λ i l j. ended_count net ok k m i rk rm (hk i l j) (hm i l j));
    tokens = λ s lp lc.
        let p = net.producer s in
        let c = net.consumer s in
        alike_by (net.detached p) (net.detached c) (written net k s) (written net m s) (taken net k s) (taken net m s)
        (λ j. ap (flat_map (put_on s)) (ended_same net ok k m p (hk p lp j) (hm p lp j)))
        (λ j. ap (flat_map (take_from s)) (ended_same net ok k m c (hk c lc j) (hm c lc j)));
  }

  pub ends_stay : (n m : ℕ) → n ≤ m → (k : ℕ → ℕ) → IsDone net n k → (l : ℕ → ℕ) × IsDone net m l
  ends_stay n m le k d =
      let g = greatest net ok m in
      let l = g.0 in
      let up : (i : ℕ) → k i ≤ l i = g.1.above k d.greatest.reachable (λ i. let c = d.greatest.capped i in omega arith) in
      let ended : HaveJoinedEnded net l = λ i inside j. ended_later net ok k l up i (d.ended i inside j) in
      let same = (ends_alike k l d.greatest.reachable g.1.reachable d.ended ended).ticks in
      let w = d.within in
      (l, record { greatest = g.1; ended = ended; within = omega arith })

  pub shown_begins : (k : ℕ → ℕ) → IsReachable net k → (s : ℕ) → IsKahnPrefix net s (shown net k s)
  shown_begins k r s =
      let f = reach_founded net k r in
      let w = is_kahn net ok k f s in
      begins_by net s (net.detached (net.producer s)) (net.detached (net.consumer s)) (written net k s) (taken net k s) w
      (w.0, prefix_trans (taken net k s) (written net k s) (stream net w.0 s) (taken_begins net ok k f s) w.1)

  pub shown_whole : (k : ℕ → ℕ) → HaveJoinedEnded net k → (s : ℕ) → net.producer s < net.size → IsJoined net (net.producer s) → IsKahnStream net s (shown net k s)
  shown_whole k h s l j = subst (IsKahnStream net s) (sym (shown_written net k s j)) (whole net ok k s (h (net.producer s) l j))
