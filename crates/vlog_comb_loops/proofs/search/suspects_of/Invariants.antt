use Rattle.std.proofs.Common.{◌≡◌, ◌+◌, true, cond, length}
use Rattle.std.specs.Option.{option_copied}
use Rattle.vlog_comb_loops.specs.Rooms.{room}
use Rattle.vlog_comb_loops.specs.Search.{AreJudged}
use Rattle.vlog_comb_loops.specs.Summaries.{is_named, IsSoundSum, IsClosedSum, AreSums}
use Rattle.vlog_comb_loops.proofs.search.suspects_of.Given as goal

abbrev pub invariant-loop-steady : goal.invariant-loop-steady
invariant-loop-steady l = record {
  sound : AreSums (IsSoundSum l.library (is_named (option_copied l.root))) l.library l.sums.items;
  closed : l.steady ≡ true → AreSums (IsClosedSum l.library (is_named (option_copied l.root)) l.sums.items) l.library l.sums.items;
  judged : l.steady ≡ true → AreJudged l.library (is_named (option_copied l.root)) l.sums.items (length l.library) l.suspects.items;
}

abbrev pub decreases-loop-steady : goal.decreases-loop-steady
decreases-loop-steady l = cond l.steady 0 1 + room l.library l.sums.items
