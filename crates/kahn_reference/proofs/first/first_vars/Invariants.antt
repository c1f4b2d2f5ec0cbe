use Rattle.std.proofs.Common.{◌≡◌, length, replicate, drop}
use Rattle.kahn_model.specs.Start.{with_values}
use Rattle.kahn_reference.proofs.first.first_vars.Given as goal

abbrev pub invariant-loop-p : goal.invariant-loop-p
invariant-loop-p l =
    with_values (drop l.p l.leaf.scalars.items) (drop l.p l.values) l.vars.items ≡ with_values l.leaf.scalars.items l.values (replicate (length l.leaf.vars.items) 0)
