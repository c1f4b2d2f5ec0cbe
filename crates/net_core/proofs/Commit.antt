-- The ticks of a batch are steps at every later count at which its instance has not moved.
use Rattle.std.proofs.Common.{◌≡◌, ℕ, ◌<◌, List, ◌++◌, length, sym, ap, ◌∙◌, subst, arith}
use Rattle.std.specs.Prelude.{flat_map}
use Rattle.kahn_model.specs.declared.tick.Tick.{Tick}
use Rattle.kahn_model.specs.Prefix.{IsPrefixOf}
use Rattle.kahn_model.specs.Behavior.{ticks}
use Rattle.kahn_model.specs.Network.{Network, IsNetwork, put_on}
use Rattle.kahn_model.specs.Counts.{ticks_made, written, IsReachable}
use Rattle.kahn_model.proofs.Order.{prefix_trans, prefix_flat_map, prefix_whole}
use Rattle.kahn_model.proofs.Grow.{ticks_grow}
use Rattle.kahn_model.proofs.Count.{IsBelow, made_le, taken_le}
use Rattle.kahn_model.proofs.Reach.{reach_founded, all_made}
use Rattle.net_core.proofs.Chunk.{plus, HasRoomFor, Chunk, chunk}

module _ (net : Network) (ok : IsNetwork net) (k m : ℕ → ℕ) (rk : IsReachable net k) (rm : IsReachable net m) (below : IsBelow k m) (i : ℕ) (inside : i < net.size) (still : m i ≡ k i) where
  own_same : ticks_made net m i ≡ ticks_made net k i
  own_same =
      let a = all_made net ok k (reach_founded net k rk) i in
      let b = all_made net ok m (reach_founded net m rm) i in
      sym (prefix_whole _ _ (made_le net ok k m below i) (omega arith))

  pub commit_chunk : (n : ℕ) (ts : List Tick) → IsPrefixOf (ticks_made net k i ++ ts) (ticks (net.job i n) (written net k)) → HasRoomFor net k i ts → Chunk net m i ts (plus i (length ts) m)
  commit_chunk n ts p room =
      chunk net ok n i inside ts m rm
      (subst (λ l. IsPrefixOf (l ++ ts) (ticks (net.job i n) (written net m))) (sym own_same)
      (prefix_trans _ _ _ p (ticks_grow _ _ (written net k) (written net m) (ok.grows i n n (omega arith)) (λ s. prefix_flat_map (put_on s) _ _ (made_le net ok k m below (net.producer s))))))
      (λ s e some.
      let w : written net m s ≡ written net k s = ap (λ j. flat_map (put_on s) (ticks_made net m j)) e ∙ ap (flat_map (put_on s)) own_same ∙ ap (λ j. flat_map (put_on s) (ticks_made net k j)) (sym e) in
      let lw = ap length w in
      let t = taken_le net ok k m below s in
      let r = room s e some in
      omega arith)
