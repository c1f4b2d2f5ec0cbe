-- An instance that has ended makes no more ticks, and has made the same ones in every count.
use Rattle.std.proofs.Common.{◌≡◌, ℕ, suc, ◌<◌, ◌≤◌, length, take, Some, sym, ap, ◌∙◌, ⊎_elim, arith, length-take}
use Rattle.std.specs.Prelude.{slice_get}
use Rattle.std.proofs.lemmas.Bool.{cases_lt}
use Rattle.std.proofs.lemmas.List.{take_all}
use Rattle.std.proofs.lemmas.Option.{slice_get_within}
use Rattle.kahn_model.specs.Behavior.{End}
use Rattle.kahn_model.specs.Network.{Network, IsNetwork, stream, round}
use Rattle.kahn_model.specs.Counts.{total, round_of, ticks_made, IsAllowed, IsReachable, HasEnded}
use Rattle.kahn_model.proofs.Order.{take_prefix, prefix_get, prefix_whole}
use Rattle.kahn_model.proofs.Grow.{round_le}
use Rattle.kahn_model.proofs.Late.{end_last}
use Rattle.kahn_model.proofs.Count.{IsBelow, made_le}
use Rattle.kahn_model.proofs.Reach.{reach_founded, all_made}

module _ (net : Network) (ok : IsNetwork net) where
  -- the round has no tick beyond them
  ended_full : (k : ℕ → ℕ) (i : ℕ) → HasEnded net k i → length (round net (round_of net k) i) ≤ k i
  ended_full k i (j, e) =
      let us = round net (round_of net k) i in
      let at : slice_get us j ≡ Some End = prefix_get (take (k i) us) us j End (take_prefix (k i) us) e in
      let all : length us ≡ suc j = end_last (net.job i (round_of net k)) (stream net (total net.size k)) j at in
      let made = slice_get_within (take (k i) us) j End e in
      let cut = length-take (k i) us in
      omega arith

  pub ended_over : (k : ℕ → ℕ) (i : ℕ) → HasEnded net k i → IsAllowed net k i → ⊥
  ended_over k i h a =
      let full = ended_full k i h in
      let there = slice_get_within (round net (round_of net k) i) (k i) a.supplied.tick a.supplied.is_next in
      omega arith

  pub ended_later : (k m : ℕ → ℕ) → IsBelow k m → (i : ℕ) → HasEnded net k i → HasEnded net m i
  ended_later k m h i (j, e) = (j, prefix_get _ _ j End (made_le net ok k m h i) e)

  ended_by : (k m : ℕ → ℕ) (i : ℕ) → round_of net k ≤ round_of net m → HasEnded net k i → HasEnded net m i → ticks_made net k i ≡ ticks_made net m i
  ended_by k m i le (j, e) h =
      let us = round net (round_of net k) i in
      let vs = round net (round_of net m) i in
      let at : slice_get us j ≡ Some End = prefix_get (take (k i) us) us j End (take_prefix (k i) us) e in
      let len : length us ≡ suc j = end_last (net.job i (round_of net k)) (stream net (total net.size k)) j at in
      let pre = round_le net ok (round_of net k) (round_of net m) le i in
      let long : length vs ≡ suc j = end_last (net.job i (round_of net m)) (stream net (total net.size m)) j (prefix_get us vs j End pre at) in
      let same : us ≡ vs = prefix_whole us vs pre (omega arith) in
      take_all (k i) us (ended_full k i (j, e)) ∙ same ∙ sym (take_all (m i) vs (ended_full m i h))

  pub ended_same : (k m : ℕ → ℕ) (i : ℕ) → HasEnded net k i → HasEnded net m i → ticks_made net k i ≡ ticks_made net m i
  ended_same k m i g h =
      ⊎_elim
      (λ (l : round_of net k < round_of net m). ended_by k m i (omega arith) g h)
      (λ (l : round_of net m ≤ round_of net k). sym (ended_by m k i l h g))
      (cases_lt (round_of net k) (round_of net m))

  pub ended_count : (k m : ℕ → ℕ) (i : ℕ) → IsReachable net k → IsReachable net m → HasEnded net k i → HasEnded net m i → k i ≡ m i
  ended_count k m i rk rm g h =
      let a = all_made net ok k (reach_founded net k rk) i in
      let b = all_made net ok m (reach_founded net m rm) i in
      let e = ap length (ended_same k m i g h) in
      omega arith
