use Rattle.std.proofs.Common.{◌≡◌, length}
use Rattle.sim_design.specs.Memories.{AreNumbersBelow}
use Rattle.sim_design.proofs.memories.memories_of.Given as goal

abbrev pub invariant-loop-number : goal.invariant-loop-number
invariant-loop-number l = record {
  count : length l.all.numbers.items ≡ l.number;
  below : AreNumbersBelow l.flat l.outside l.all.numbers.items l.all.widths.items;
}
