use Rattle.std.proofs.Common.{◌≡◌, List, length}
use Rattle.vlog_tree.specs.Form.{ModuleTree}
use Rattle.sim_tape.specs.Tape.{Extends}
use Rattle.sim_tape.specs.Trees.{tree_of}
use Rattle.sim_gates.specs.Nets.{SlotsBefore}
use Rattle.sim_flat.specs.Flat.{IsFlat}
use Rattle.sim_design.specs.Given.{HaveOwn, AreGivenNets}
use Rattle.sim_design.proofs.Giving.{AllFreeBelow}
use Rattle.sim_design.proofs.given.give_all.Given as goal

abbrev pub invariant-loop-number : goal.invariant-loop-number
invariant-loop-number l = record {
  extends : Extends (tree_of l.fn.tape) (tree_of l.tape);
  slots : SlotsBefore l.pairs.items (length (tree_of l.tape).gates);
  own : HaveOwn l.pairs.items;
  count : length l.pairs.items ≡ l.number;
  all : (ms : List ModuleTree) (top : ModuleTree) → IsFlat ms top l.flat → AllFreeBelow ms top l.flat l.pairs.items;
  given : (ms : List ModuleTree) (top : ModuleTree) → IsFlat ms top l.flat → AreGivenNets ms top l.flat l.pairs.items (tree_of l.tape);
}
