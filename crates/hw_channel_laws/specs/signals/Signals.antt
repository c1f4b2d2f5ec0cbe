-- Signals: a number in each cycle. Cycle 0 is the cycle of reset.
use Rattle.std.specs.Prelude.{◌≡◌, ℕ, zero, suc, ◌+◌, Bool, List, [], ◌∷◌, ◌++◌, ◌==◌, ◌&&◌, if◌then◌else◌}

abbrev pub Signal : Type 0
Signal = ℕ → ℕ

-- whether both signals are 1 in a cycle
abbrev pub both : Signal → Signal → ℕ → Bool
both a b n = (a n == 1) && (b n == 1)

pub record Resets (rst : Signal) : Type 0 where
  pub first : rst 0 ≡ 1
  pub later : (n : ℕ) → rst (suc n) ≡ 0

-- what a signal carries in those cycles from 1 on before cycle n in which `go` holds
abbrev pub carried_before : (ℕ → Bool) → Signal → ℕ → List ℕ
carried_before go carried zero = []
carried_before go carried (suc zero) = []
carried_before go carried (suc (suc n)) = if go (suc n) then carried_before go carried (suc n) ++ carried (suc n) ∷ [] else carried_before go carried (suc n)

-- how many cycles these are
abbrev pub times : (ℕ → Bool) → ℕ → ℕ
times go zero = 0
times go (suc zero) = 0
times go (suc (suc n)) = if go (suc n) then times go (suc n) + 1 else times go (suc n)

-- in how many of the k cycles from n on a signal is 1
abbrev pub ones : Signal → ℕ → ℕ → ℕ
ones a n zero = 0
ones a n (suc k) = if a (n + k) == 1 then ones a n k + 1 else ones a n k
