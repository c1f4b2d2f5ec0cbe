-- The larger of each pair is at least either.
use Rattle.std.proofs.Common.{ℕ, zero, suc, ◌≤◌, List, [], ◌∷◌, slice_index, arith}
use Rattle.coro_threads.specs.Turn.{larger}

pub larger_left : (xs ys : List ℕ) (i : ℕ) → slice_index xs i ≤ slice_index (larger xs ys) i
larger_left [] ys i = omega arith
larger_left (x ∷ xs) [] i = omega arith
larger_left (x ∷ xs) (y ∷ ys) zero = omega arith
larger_left (x ∷ xs) (y ∷ ys) (suc i) = larger_left xs ys i

pub larger_right : (xs ys : List ℕ) (i : ℕ) → slice_index ys i ≤ slice_index (larger xs ys) i
larger_right [] ys i = omega arith
larger_right (x ∷ xs) [] i = omega arith
larger_right (x ∷ xs) (y ∷ ys) zero = omega arith
larger_right (x ∷ xs) (y ∷ ys) (suc i) = larger_right xs ys i
