use Rattle.std.proofs.Common.{◌+◌, cond}
use Rattle.std.specs.Option.{option_copied}
use Rattle.vlog_comb_loops.specs.Rooms.{room}
use Rattle.vlog_comb_loops.specs.Summaries.{is_named, IsSoundSum, AreSums}
use Rattle.vlog_comb_loops.proofs.sums.sums_of.Given as goal

abbrev pub invariant-loop-steady : goal.invariant-loop-steady
invariant-loop-steady l = AreSums (IsSoundSum l.library (is_named (option_copied l.root))) l.library l.sums.items

abbrev pub decreases-loop-steady : goal.decreases-loop-steady
decreases-loop-steady l = cond l.steady 0 1 + room l.library l.sums.items
