use Rattle.std.proofs.Common.{◌≡◌, ℕ, List, None, length, get_or, take}
use Rattle.std.specs.Prelude.{IsSome}
use Rattle.vlog_tree.specs.Form.{ModuleTree}
use Rattle.tapa_base.specs.Lists.{Has}
use Rattle.vlog_tree.specs.Flattened.{FlatNet}
use Rattle.sim_flat.specs.Flat.{HasNumber}
use Rattle.sim_flat.specs.Order.{IsNetOrder}
use Rattle.sim_tape.specs.Tape.{Extends}
use Rattle.sim_tape.specs.Trees.{tree_of}
use Rattle.sim_gates.specs.Nets.{SlotsBefore}
use Rattle.sim_design.specs.Plans.{IsPlan}
use Rattle.vlog_run_laws.specs.runs.Readable.{CanBeRead}
use Rattle.sim_design.specs.Placed.{AllFree, AreKept, ArePlacedMore}
use Rattle.sim_design.proofs.all.place_all.Given as goal

abbrev pub invariant-loop-number : goal.invariant-loop-number
invariant-loop-number l = record {
  extends : Extends (tree_of l.fn.tape) (tree_of l.tape);
  slots : SlotsBefore l.pairs.items (length (tree_of l.tape).gates);
  kept : AreKept l.fn.pairs.items l.pairs.items;
  all : (ms : List ModuleTree) (top : ModuleTree) → IsPlan ms top l.plan → IsNetOrder ms top l.plan.flat.now l.order → length l.fn.pairs.items ≡ length l.plan.flat.now.owners.items → AllFree ms top l.plan.flat.now l.fn.pairs.items
      → (number : ℕ) (n : FlatNet) → Has (take l.number-index l.order) number → HasNumber ms l.plan.flat.now number n → CanBeRead ms top n → IsSome (get_or l.pairs.items number None);
  more : (ms : List ModuleTree) (top : ModuleTree) → IsPlan ms top l.plan → ArePlacedMore ms top l.plan.flat.now l.plan.memories.now l.fn.pairs.items (tree_of l.fn.tape) l.pairs.items (tree_of l.tape);
}
