-- What a channel guarantees to its two ends: tokens and readiness delayed by its latency, and room for its depth.
use Rattle.std.specs.Prelude.{◌≡◌, ℕ, zero, suc, ◌-◌, ◌*◌, List, [], ◌∷◌, ◌++◌, length, true, ◌&&◌, nat_lt, if◌then◌else◌, Some, slice_get}
use Rattle.tapa_base.specs.declared.token.Token.{Token}
use Rattle.hw_lines.specs.Signals.{Streams}
use Rattle.hw_lines.specs.Machine.{put_in}

-- the tokens that are put in the cycles from 1 to before n
abbrev pub carried : Streams → ℕ → ℕ → List Token
carried S s zero = []
carried S s (suc n) = carried S s n ++ (if nat_lt 0 n then put_in S s n else [])

abbrev pub took_in : Streams → ℕ → ℕ → List Token
took_in S s n = if S.take s n then S.dout s n ∷ [] else []

-- and those that are taken
abbrev pub drawn : Streams → ℕ → ℕ → List Token
drawn S s zero = []
drawn S s (suc n) = drawn S s n ++ (if nat_lt 0 n then took_in S s n else [])

pub record KeepsContract (S : Streams) (s depth latency : ℕ) : Type 0 where
  pub ready :
      (n : ℕ) → S.rdy s (suc n) ≡ (nat_lt latency (suc n) && nat_lt (length (carried S s (suc n - 2 * latency)) - length (drawn S s (suc n - latency))) depth)
  pub offer : (n : ℕ) → S.has s (suc n) ≡ nat_lt (length (drawn S s (suc n))) (length (carried S s (suc n - latency)))
  pub token : (n : ℕ) → S.has s (suc n) ≡ true → slice_get (carried S s (suc n)) (length (drawn S s (suc n))) ≡ Some (S.dout s (suc n))
