use Rattle.std.proofs.Common.{arith}
use Rattle.sim_pass.proofs.Reading.{rows_read}
use Rattle.sim_pass.proofs.readers.add_rows.Goals as goal

pub loop-i-preserved : goal.loop-i-preserved
loop-i-preserved c = record {
  kept = λ k s h. c.in_ok-add_row.ensures.kept k s (c.loop-i.invariant.kept k s h);
  added = rows_read c.args.wides.now c.args.rows.now c.loop-i.readers c.add_row.new.readers c.args.run.now.rule c.args.run.now.from c.loop-i.i c.args.block c.in_ok-add_row.ensures.kept c.loop-i.invariant.added (omega arith) c.index-rows-i.result c.index-rows-i.is c.in_ok-add_row.ensures.added;
}
