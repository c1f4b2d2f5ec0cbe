use Rattle.std.proofs.Common.{length, drop}
use Rattle.std.specs.List.{list_all}
use Rattle.std.specs.Prelude.{IsTrue}
use Rattle.sim_tape.specs.Tape.{Extends}
use Rattle.sim_tape.specs.Trees.{tree_of}
use Rattle.sim_gates.specs.Nets.{SlotsBefore, Told}
use Rattle.sim_gates.specs.Parts.{has_conditions}
use Rattle.sim_gates.specs.Next.{ItemsLeft, AreApart, AreKnown, SamePlaces}
use Rattle.sim_gates.proofs.blocks.blocks_of.Given as goal

abbrev pub invariant-loop-item : goal.invariant-loop-item
invariant-loop-item l = record {
  extends : Extends (tree_of l.fn.tape) (tree_of l.tape);
  slots : SlotsBefore l.after.next.items (length (tree_of l.tape).gates);
  same : SamePlaces l.nets.pairs.now l.after.next.items;
  known : AreKnown l.nets.scope.now l.nets.memories.now l.after.stores.items;
  value : AreApart l.nets.scope.now l.nets.memories.now
      → Told l.nets.scope.now l.nets.pairs.now (tree_of l.tape) (λ s c ns. IsTrue (list_all (has_conditions l.nets.scope.now) l.items)
      → ItemsLeft l.nets.scope.now l.nets.memories.now l.after.next.items l.after.stores.items l.items (drop l.item-index l.items) s c ns);
}
