-- The ticks of the joined instances.
use Rattle.std.proofs.Common.{◌≡◌, ℕ, zero, suc, ◌<◌, ◌≤◌, List, [], ◌∷◌, Bool, true, false, refl, ap, ◌∙◌, arith}
use Rattle.std.specs.Prelude.{if◌then◌else◌}
use Rattle.kahn_model.specs.Network.{Network}
use Rattle.kahn_model.specs.Counts.{total, with_tick_of, AreAllowed, after, zeros, IsReachable}
use Rattle.kahn_model.specs.Outcome.{IsJoined, joined_part, joined_ticks}
use Rattle.kahn_model.specs.Ending.{AreAllJoined}
use Rattle.kahn_model.proofs.Count.{IsBelow, total_grows, total_bump, bump_below, bump_other}
use Rattle.kahn_model.proofs.Reach.{total_has}

pub total_same : (n : ℕ) (f g : ℕ → ℕ) → ((i : ℕ) → i < n → f i ≡ g i) → total n f ≡ total n g
total_same zero f g h = refl
total_same (suc n) f g h =
    let a = total_same n f g (λ i l. h i (omega arith)) in
    let b = h n (omega arith) in
    omega arith

pub total_less : (n i : ℕ) (f g : ℕ → ℕ) → IsBelow f g → i < n → f i < g i → total n f < total n g
total_less n i f g h l less =
    let a = total_bump n i f l in
    let b = total_grows n (with_tick_of i f) g (bump_below f g i h (λ e. omega arith)) in
    omega arith

le_by : (b : Bool) (x y : ℕ) → x ≤ y → (if b then 0 else x) ≤ (if b then 0 else y)
le_by true x y h = omega arith
le_by false x y h = h

same_by : (b : Bool) (x y : ℕ) → (b ≡ false → x ≡ y) → (if b then 0 else x) ≡ (if b then 0 else y)
same_by true x y h = refl
same_by false x y h = h refl

module _ (net : Network) where
  pub part_is : (k : ℕ → ℕ) (i : ℕ) → IsJoined net i → joined_part net k i ≡ k i
  part_is k i j = ap (λ (b : Bool). if b then 0 else k i) j

  pub part_none : (k : ℕ → ℕ) (i : ℕ) → net.detached i ≡ true → joined_part net k i ≡ 0
  part_none k i d = ap (λ (b : Bool). if b then 0 else k i) d

  parts_le : (k m : ℕ → ℕ) → IsBelow k m → IsBelow (joined_part net k) (joined_part net m)
  parts_le k m h i = le_by (net.detached i) (k i) (m i) (h i)

  pub joined_up : (k m : ℕ → ℕ) → IsBelow k m → joined_ticks net k ≤ joined_ticks net m
  joined_up k m h = total_grows net.size (joined_part net k) (joined_part net m) (parts_le k m h)

  pub joined_has : (k : ℕ → ℕ) (i : ℕ) → i < net.size → IsJoined net i → k i ≤ joined_ticks net k
  joined_has k i l j =
      let a = total_has net.size i (joined_part net k) l in
      let b = part_is k i j in
      omega arith

  pub joined_more : (k m : ℕ → ℕ) (i : ℕ) → IsBelow k m → i < net.size → IsJoined net i → k i < m i → joined_ticks net k < joined_ticks net m
  joined_more k m i h l j less =
      let a = part_is k i j in
      let b = part_is m i j in
      total_less net.size i (joined_part net k) (joined_part net m) (parts_le k m h) l (omega arith)

  pub joined_same : (k m : ℕ → ℕ) → ((i : ℕ) → i < net.size → IsJoined net i → k i ≡ m i) → joined_ticks net k ≡ joined_ticks net m
  joined_same k m h = total_same net.size (joined_part net k) (joined_part net m) (λ i l. same_by (net.detached i) (k i) (m i) (h i l))

  pub joined_all : (k : ℕ → ℕ) → AreAllJoined net → joined_ticks net k ≡ total net.size k
  joined_all k all = total_same net.size (joined_part net k) k (λ i l. part_is k i (all i l))

  after_outside : (steps : List ℕ) (k : ℕ → ℕ) (i : ℕ) → net.size ≤ i → AreAllowed net steps k → after steps k i ≡ k i
  after_outside [] k i out a = refl
  after_outside (j ∷ steps) k i out (a, rest) =
      let inside = a.supplied.inside in
      after_outside steps (with_tick_of j k) i out rest ∙ bump_other j i k (λ e. omega arith)

  -- a number that is no instance's makes no tick
  pub reach_outside : (k : ℕ → ℕ) → IsReachable net k → (i : ℕ) → net.size ≤ i → k i ≡ 0
  reach_outside k r i out = r.is_after i ∙ after_outside r.steps zeros i out r.allowed
