use Rattle.std.proofs.Common.{◌≡◌, ℕ, ◌+◌, ◌<◌, ◌≤◌, length}
use Rattle.number_graph.specs.Graphs.{rows_of}
use Rattle.sim_flat.specs.Rows.{row_at, AreRows, HaveDepth}
use Rattle.sim_flat.specs.Sizes.{KeepSums}
use Rattle.sim_flat.proofs.instances.add_level.Given as goal

abbrev pub invariant-loop-k : goal.invariant-loop-k
invariant-loop-k l = record {
  done : length l.all.first.items ≡ l._k;
  count : l.to ≤ length l.all.rows.items;
  level : (s : ℕ) → l._k ≤ s → s < l.to → (row_at l.all.rows.items s).depth + 1 ≡ l.depth;
  deeper : HaveDepth l.all.rows.items l.to (length l.all.rows.items) l.depth;
  rows : (top : ℕ) → AreRows (rows_of l.kinds) top l.fn.all.rows.items l.fn.all.first.items → AreRows (rows_of l.kinds) top l.all.rows.items l.all.first.items;
  sums : KeepSums (rows_of l.kinds) l.fn.all.rows.items (length l.fn.all.first.items) l.all.rows.items (length l.all.first.items);
}
