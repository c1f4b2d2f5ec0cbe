use Rattle.std.proofs.Common.{◌≤◌, length}
use Rattle.latency_balance.specs.Paths.{AreInside}
use Rattle.latency_balance.proofs.exits.add_exits.Given as goal

abbrev pub invariant-loop-stream : goal.invariant-loop-stream
invariant-loop-stream l = record {
  inside : AreInside l.graph l.moves.items;
  more : length l.initial.moves.items ≤ length l.moves.items;
}
