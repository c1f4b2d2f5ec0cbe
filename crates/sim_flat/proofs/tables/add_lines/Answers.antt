use Rattle.sim_flat.proofs.Writes.{lines_step, rows_step, lines_end, rows_end}
use Rattle.sim_flat.proofs.tables.add_lines.Goals as goal

pub loop-line-preserved : goal.loop-line-preserved
loop-line-preserved c =
    let e = c.in_ok-add_line.ensures in
    record {
      sources = lines_step c.args.scopes.now c.args.scope.now c.args.items.now c.loop-line.line _ _ c.index-items-line.result _ _ _ c.loop-line-test.true c.index-items-line.is e.count e.sources c.loop-line.invariant.sources;
      rows = rows_step c.args.scopes.now c.args.scope.now c.args.items.now c.loop-line.line c.index-items-line.result _ _ _ c.loop-line-test.true c.index-items-line.is e.rows c.loop-line.invariant.rows;
    }

pub returns : goal.returns
returns c = record {
  sources = lines_end c.args.scopes.now c.args.scope.now c.args.items.now c.loop-line.line _ _ _ c.loop-line-test.false c.loop-line.invariant.sources;
  rows = rows_end c.args.scopes.now c.args.scope.now c.args.items.now c.loop-line.line _ _ c.loop-line-test.false c.loop-line.invariant.rows;
}
