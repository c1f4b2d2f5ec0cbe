use Rattle.std.proofs.Common.{◌≡◌, Some}
use Rattle.vlog_tree.specs.Cycle.{copies}
use Rattle.vlog_values.specs.Numbers.{fitting}
use Rattle.vlog_values.proofs.values.repeat.Given as goal

abbrev pub invariant-loop-i : goal.invariant-loop-i
invariant-loop-i l = Some l.n ≡ fitting (copies l.bits l.a l._i)
