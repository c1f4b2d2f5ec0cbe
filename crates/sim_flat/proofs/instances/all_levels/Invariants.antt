use Rattle.std.proofs.Common.{length}
use Rattle.number_graph.specs.Graphs.{rows_of}
use Rattle.sim_flat.specs.Rows.{AreRows, HaveDepth}
use Rattle.sim_flat.specs.Sizes.{CountsWithin}
use Rattle.sim_flat.proofs.instances.all_levels.Given as goal

abbrev pub invariant-loop-depth : goal.invariant-loop-depth
invariant-loop-depth l = record {
  rows : AreRows (rows_of l.kinds) l.top l.all.rows.items l.all.first.items;
  deepest : HaveDepth l.all.rows.items (length l.all.first.items) (length l.all.rows.items) l.depth;
  counted : CountsWithin (rows_of l.kinds) l.top l.all.rows.items (length l.all.first.items);
}
