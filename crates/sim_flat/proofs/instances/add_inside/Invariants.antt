use Rattle.std.proofs.Common.{◌≡◌, ◌++◌, drop}
use Rattle.sim_flat.specs.Rows.{rows_inside}
use Rattle.sim_flat.proofs.instances.add_inside.Given as goal

abbrev pub invariant-loop-child : goal.invariant-loop-child
invariant-loop-child l =
    l.rows.items ++ rows_inside l.around l.depth l.child (drop l.child l.kinds) ≡ l.fn.rows.items ++ rows_inside l.around l.depth 0 l.kinds
