use Rattle.std.proofs.Common.{length, arith}
use Rattle.sim_pass.proofs.Marking.{aside_next, row_fits}
use Rattle.sim_pass.proofs.changes.keep_aside.Goals as goal

pub bounds-numbers-rows : goal.bounds-numbers-rows
bounds-numbers-rows c = row_fits c.args.rows.now c.args.from c.args.to (length c.args.numbers.now) c.requires.fits c.requires.end c.loop-i.i c.loop-i.auto.i c.loop-i-test.true c.index-rows-i.result

pub loop-i-preserved : goal.loop-i-preserved
loop-i-preserved c =
    aside_next c.args.rows.now c.args.from c.loop-i.i c.loop-i.aside c.put_aside.new.aside c.args.numbers.now c.loop-i.auto.i (omega arith) c.index-rows-i.result c.put_aside.auto.aside c.put_aside.ensures.put c.put_aside.ensures.others c.loop-i.invariant
