use Rattle.std.proofs.Common.{length, drop}
use Rattle.std.specs.List.{list_all}
use Rattle.std.specs.Prelude.{reverse, IsTrue}
use Rattle.vlog_tree.specs.Cycle.{Cycle}
use Rattle.sim_tape.specs.Tape.{Extends}
use Rattle.sim_tape.specs.Trees.{tree_of}
use Rattle.sim_gates.specs.Nets.{SlotsBefore, Told}
use Rattle.sim_gates.specs.Parts.{WalkBefore, is_condition}
use Rattle.sim_gates.specs.Next.{ShowsNext, StepsLeft, AreApart, AreKnown, SamePlaces}
use Rattle.sim_gates.specs.Ready.{IsReady, elses}
use Rattle.vlog_tree.specs.Form.{nested}
use Rattle.vlog_tree.specs.declared.tree.Item.TheVariants.{Always}
use Rattle.sim_gates.proofs.blocks.add_steps.Given as goal

abbrev pub invariant-loop-step : goal.invariant-loop-step
invariant-loop-step l = record {
  extends : Extends (tree_of l.fn.tape) (tree_of l.tape);
  walk : WalkBefore (length (tree_of l.tape).gates) l.walk.on (reverse l.walk.parts.items);
  slots : SlotsBefore l.after.next.items (length (tree_of l.tape).gates);
  same : SamePlaces l.fn.after.next.items l.after.next.items;
  known : AreKnown l.nets.scope.now l.nets.memories.now l.fn.after.stores.items → AreKnown l.nets.scope.now l.nets.memories.now l.after.stores.items;
  value : AreApart l.nets.scope.now l.nets.memories.now
      → Told l.nets.scope.now l.nets.pairs.now (tree_of l.tape) (λ s c ns. (first now : Cycle) → IsTrue (list_all (is_condition l.nets.scope.now) l.steps)
      → ShowsNext l.nets.scope.now l.nets.memories.now l.fn.after.next.items l.fn.after.stores.items s first now ns
      → StepsLeft l.nets.scope.now l.nets.memories.now l.after.next.items l.after.stores.items l.walk.on (reverse l.walk.parts.items) l.steps (drop l.step-index l.steps) s c first now ns);
  ready : SamePlaces l.nets.pairs.now l.fn.after.next.items → IsReady l.nets.scope.now l.nets.pairs.now l.nets.memories.now (Always l.steps)
      → IsTrue (nested (elses (reverse l.walk.parts.items)) (drop l.step-index l.steps));
}
