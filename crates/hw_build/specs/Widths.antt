-- How many bits a number takes.
use Rattle.std.specs.Prelude.{ℕ, ◌-◌, ◌==◌, if◌then◌else◌}
use Rattle.std.specs.Int.Count.{count_leading_zeros}

-- bits for the numbers up to n, of 32 bits themselves, and at least one
unfoldable pub bits_for : ℕ → ℕ
bits_for n = if n == 0 then 1 else 32 - count_leading_zeros 32 n
