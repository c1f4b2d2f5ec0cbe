-- Sums over views, after one view has changed.
use Rattle.std.proofs.Common.{◌≡◌, ◌≢◌, ℕ, zero, suc, ◌+◌, ◌<◌, ◌≤◌, Bool, true, false, List, [], ◌∷◌, ◌++◌, set, refl, sym, ap, arith}
use mathlib.Core.Option.{some, some-injective, some-ne-none}
use lib.ListN.{get_elem?}
use Rattle.coro_threads.specs.declared.views.View.{View}
use Rattle.coro_threads.specs.Turn.{total, bit}

module _ (f : View → ℕ) where
  pub total_set : (vs : List View) (j : ℕ) (v w : View) → get_elem? vs j ≡ some v → total f (set vs j w) + f v ≡ total f vs + f w
  total_set [] j v w e = absurd (some-ne-none v (sym e))
  total_set (x ∷ xs) zero v w e = let h : f x ≡ f v = ap f (some-injective x v e) in omega (arith, h)
  total_set (x ∷ xs) (suc j) v w e = omega (arith, total_set xs j v w e)

  pub total_snoc : (vs : List View) (w : View) → total f (vs ++ w ∷ []) ≡ total f vs + f w
  total_snoc [] w = omega arith
  total_snoc (x ∷ xs) w = omega (arith, total_snoc xs w)

  pub total_at : (vs : List View) (j : ℕ) (v : View) → get_elem? vs j ≡ some v → f v ≤ total f vs
  total_at [] j v e = absurd (some-ne-none v (sym e))
  total_at (x ∷ xs) zero v e = let h : f x ≡ f v = ap f (some-injective x v e) in omega (arith, h)
  total_at (x ∷ xs) (suc j) v e = omega (arith, total_at xs j v e)

  pub total_two : (vs : List View) (i j : ℕ) (v w : View) → j ≢ i → get_elem? vs i ≡ some v → get_elem? vs j ≡ some w → f v + f w ≤ total f vs
  total_two [] i j v w ne e d = absurd (some-ne-none v (sym e))
  total_two (x ∷ xs) zero zero v w ne e d = absurd (ne refl)
  total_two (x ∷ xs) zero (suc j) v w ne e d = let h : f x ≡ f v = ap f (some-injective x v e) in omega (arith, h, total_at xs j w d)
  total_two (x ∷ xs) (suc i) zero v w ne e d = let h : f x ≡ f w = ap f (some-injective x w d) in omega (arith, h, total_at xs i v e)
  total_two (x ∷ xs) (suc i) (suc j) v w ne e d = omega (arith, total_two xs i j v w (λ h. ne (ap suc h)) e d)

pub bit_one : (b : Bool) → 0 < bit b → b ≡ true
bit_one true h = refl
bit_one false h = absurd (omega arith)

pub bit_zero : (b : Bool) → bit b ≡ 0 → b ≡ false
bit_zero true h = absurd (omega arith)
bit_zero false h = refl

pub bit_small : (b : Bool) → bit b ≤ 1
bit_small true = omega arith
bit_small false = omega arith

pub bit_of : (b : Bool) → b ≡ true → bit b ≡ 1
bit_of b e = ap bit e

pub bit_off : (b : Bool) → b ≡ false → bit b ≡ 0
bit_off b e = ap bit e
