use Rattle.std.proofs.Common.{◌≡◌, ◌++◌, drop, length}
use Rattle.sim_flat.specs.Written.{written, lines_writes, lines_children, child_rows}
use Rattle.sim_flat.proofs.tables.add_lines.Given as goal

abbrev pub invariant-loop-line : goal.invariant-loop-line
invariant-loop-line l = record {
  sources : written (lines_writes l.scopes l.scope l.line (length l.children.items) (drop l.line l.items)) l.sources.items ≡ written (lines_writes l.scopes l.scope 0 0 l.items) l.fn.sources.items;
  rows : child_rows l.children.items ++ lines_children l.scopes l.scope l.line (drop l.line l.items) ≡ lines_children l.scopes l.scope 0 l.items;
}
