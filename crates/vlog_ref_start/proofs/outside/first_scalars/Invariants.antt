use Rattle.std.proofs.Common.{◌≡◌, ◌++◌, drop}
use Rattle.vlog_ref_start.specs.Outside.{labelled_from}
use Rattle.vlog_ref_start.proofs.outside.first_scalars.Given as goal

abbrev pub invariant-loop-at : goal.invariant-loop-at
invariant-loop-at l = l.out.items ++ labelled_from l.at (drop l.at l.labels) l.numbers ≡ labelled_from 0 l.labels l.numbers
