use Rattle.std.proofs.Common.{◌≡◌, ◌+◌, ◌≤◌, length, arith}
use Rattle.number_graph.specs.Graphs.{rows_of}
use Rattle.sim_flat.proofs.Grown.{deeper_more, level_more}
use Rattle.sim_flat.proofs.Sizing.{keep_more}
use Rattle.sim_flat.proofs.instances.add_level.Goals as goal

pub loop-k-preserved : goal.loop-k-preserved
loop-k-preserved c =
    let old = c.loop-k.all.rows.items in
    let new = c.add_next.new.all.rows.items in
    let i = c.loop-k.invariant in
    let e = c.in_ok-add_next.ensures in
    let count : length old ≤ length new = e.more.count in
    let done : length c.add_next.new.all.first.items ≡ length c.loop-k.all.first.items + 1 = e.done in
    record {
      done = omega (arith, i.done, done);
      count = omega (arith, i.count, count);
      level = level_more old new c.loop-k._k c.len-to.result c.args.depth e.more i.count i.level;
      deeper = deeper_more old new c.len-to.result c.args.depth e.more i.deeper e.deeper;
      rows = λ top r. e.rows top (i.rows top r);
      sums = keep_more (rows_of c.args.kinds.now) c.args.all.now.rows.items old new (length c.args.all.now.first.items) (length c.loop-k.all.first.items) (length c.add_next.new.all.first.items) i.sums e.sums;
    }
