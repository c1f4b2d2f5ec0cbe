use Rattle.std.proofs.Common.{◌≡◌, ◌<◌, ℕ, Some}
use Rattle.std.specs.Prelude.{slice_get, slice_index}
use Rattle.tapa_base.specs.Kinds.{values_of}
use Rattle.tapa_syntax.specs.declared.program.Scalar.{Scalar}
use Rattle.kahn_reference.proofs.first.scalars_fit.Given as goal

abbrev pub invariant-loop-x : goal.invariant-loop-x
invariant-loop-x l = (y : ℕ) (c : Scalar) → y < l.x → slice_get l.program.scalars.items y ≡ Some c → slice_index l.scalars y < values_of c.kind
