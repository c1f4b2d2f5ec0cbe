use Rattle.std.proofs.Common.{◌≡◌, ◌++◌}
use Rattle.std.specs.Prelude.{replicate}
use Rattle.sim_flat.proofs.flat.add_owners.Given as goal

abbrev pub invariant-loop-i : goal.invariant-loop-i
invariant-loop-i l = l.owners.items ≡ l.fn.owners.items ++ replicate l._i l.instance
