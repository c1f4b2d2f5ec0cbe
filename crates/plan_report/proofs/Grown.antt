-- A list of numbers with one more.
use Rattle.std.proofs.Common.{◌≡◌, ◌≤◌, ◌<◌, ℕ, ◌+◌, List, [], ◌∷◌, ◌++◌, length, get_or, arith}
use Rattle.std.proofs.lemmas.Grind.{common_steps}
use Rattle.std.proofs.lemmas.List.{get_or_push}

pub grown_by : (f : ℕ → ℕ) (xs ys : List ℕ) (n x : ℕ) → ys ≡ xs ++ x ∷ [] → length xs ≡ n → ((d : ℕ) → d < n → get_or xs d 0 ≡ f d) → x ≡ f n → (d : ℕ) → d < n + 1 → get_or ys d 0 ≡ f d
grown_by f xs ys n x e l h i d lt = grind (arith, common_steps, h d, get_or_push xs x 0 n l)

pub grown_low : (xs ys : List ℕ) (most x : ℕ) → ys ≡ xs ++ x ∷ [] → ((d : ℕ) → get_or xs d 0 ≤ most) → x ≤ most → (d : ℕ) → get_or ys d 0 ≤ most
grown_low xs ys most x e h i d = grind (arith, common_steps, h d)
