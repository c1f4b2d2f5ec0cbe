-- Numbers on a stream as tokens.
use Rattle.std.proofs.Common.{ℕ, ◌-◌, ◌^◌, ◌<◌, ◌≤◌, arith}
use Rattle.std.proofs.Math.Pow.{pow_mono}

-- a datum of at most 64 bits
pub low_datum : (bits din : ℕ) → bits ≤ 65 → din < 2 ^ (bits - 1) → din < 2 ^ 64
low_datum bits din h low = let few : bits - 1 ≤ 64 = omega arith in let most : 2 ^ (bits - 1) ≤ 2 ^ 64 = pow_mono few in omega arith
