use Rattle.std.proofs.Common.{length}
use Rattle.sim_pass.proofs.Marking.{changed_next, row_fits}
use Rattle.sim_pass.proofs.changes.mark_changed.Goals as goal

pub bounds-numbers-slot : goal.bounds-numbers-slot
bounds-numbers-slot c = row_fits c.args.rows.now c.args.from c.args.to (length c.args.numbers.now) c.requires.fits c.requires.end c.loop-i.i c.loop-i.auto.i c.loop-i-test.true c.index-rows-i.result

pub loop-i-preserved : goal.loop-i-preserved
loop-i-preserved c = record {
  kept = λ k h. c.mark_if_changed.ensures.kept k (c.loop-i.invariant.kept k h);
  followed = λ old held.
      changed_next c.args.rows.now c.args.from c.loop-i.i c.args.to c.args.aside.now c.args.numbers.now c.args.readers.now c.loop-i.marks c.mark_if_changed.new.marks c.loop-i.auto.i c.loop-i-test.true c.requires.end c.index-rows-i.result
      c.mark_if_changed.ensures.kept c.mark_if_changed.ensures.marked old held (c.loop-i.invariant.followed old held);
}
