-- The first values of registers.
use Rattle.std.proofs.Common.{◌≡◌, ℕ, ◌+◌, cond, eqb, slice_index, ap, add-one}
use Rattle.hw_lines.specs.declared.nets.Net.TheVariants.{Scalar}
use Rattle.hw_lines.specs.Shape.{Shape}
use Rattle.hw_lines.specs.States.{net}
use Rattle.hw_lines.specs.Effects.{first_by}

pub first_more : (S : Shape) (r i : ℕ) → first_by S r (i + 1) ≡ cond (eqb (slice_index S.scalars i) r) (net (Scalar i)) (first_by S r i)
first_more S r i = ap (first_by S r) (add-one i)
