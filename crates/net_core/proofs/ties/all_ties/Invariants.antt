use Rattle.std.proofs.Common.{◌≡◌, length}
use Rattle.net_core.specs.Ties.{AreAllTies}
use Rattle.net_core.proofs.ties.all_ties.Given as goal

abbrev pub invariant-loop-i : goal.invariant-loop-i
invariant-loop-i l = record {
  len : length l.all.items ≡ l.i;
  each : AreAllTies l.program l.all.items;
}
