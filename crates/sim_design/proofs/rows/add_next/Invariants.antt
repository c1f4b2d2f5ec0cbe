use Rattle.std.proofs.Common.{◌≡◌}
use Rattle.vlog_tree.specs.Form.{ModuleTree}
use Rattle.sim_tape.specs.Tape.{TapeTree, Extends}
use Rattle.sim_tape.specs.Trees.{tree_of}
use Rattle.sim_design.specs.Below.{HasPlaces, AreNextBelow}
use Rattle.sim_design.proofs.rows.add_next.Given as goal

abbrev pub invariant-loop-instance : goal.invariant-loop-instance
invariant-loop-instance l = record {
  extends : Extends (tree_of l.fn.draft.tape) (tree_of l.draft.tape);
  pairs : l.draft.pairs.items ≡ l.fn.draft.pairs.items;
  memories : l.draft.memories.items ≡ l.fn.draft.memories.items;
  cells : l.draft.cells.items ≡ l.fn.draft.cells.items;
  next : (top : ModuleTree) (t : TapeTree) → HasPlaces l.modules top l.flat l.fn.draft.pairs.items l.fn.draft.memories.items l.fn.draft.cells.items t
      → AreNextBelow l.modules top l.flat l.fn.draft.pairs.items l.fn.draft.memories.items (tree_of l.draft.tape) l.draft.commits.items l.draft.stores.items l.instance;
}
