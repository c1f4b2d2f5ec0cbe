use Rattle.std.proofs.Common.{◌≡◌, length}
use Rattle.net_core.specs.Ties.{AreTies}
use Rattle.net_core.proofs.ties.ties_of.Given as goal

abbrev pub invariant-loop-p : goal.invariant-loop-p
invariant-loop-p l = record {
  len : length l.ties.items ≡ l.p;
  each : AreTies l.program l.i l.ties.items;
}
