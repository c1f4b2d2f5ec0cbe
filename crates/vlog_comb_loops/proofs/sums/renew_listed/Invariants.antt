use Rattle.std.proofs.Common.{◌<◌, ◌≤◌, length}
use Rattle.std.specs.Option.{option_copied}
use Rattle.vlog_comb_loops.specs.Rooms.{room}
use Rattle.vlog_comb_loops.specs.Summaries.{is_named, IsSoundSum, AreSums}
use Rattle.vlog_comb_loops.proofs.sums.renew_listed.Given as goal

abbrev pub invariant-loop-place : goal.invariant-loop-place
invariant-loop-place l = record {
  sound : AreSums (IsSoundSum l.library (is_named (option_copied l.root))) l.library l.sums.items;
  less : 1 ≤ length l.next.items → room l.library l.sums.items < room l.library l.fn.sums.items;
  more : room l.library l.sums.items ≤ room l.library l.fn.sums.items;
}
