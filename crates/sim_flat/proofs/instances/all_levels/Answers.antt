use Rattle.std.proofs.Common.{length, arith}
use Rattle.number_graph.specs.Graphs.{rows_of}
use Rattle.sim_flat.proofs.Sizing.{within_more}
use Rattle.sim_flat.proofs.instances.all_levels.Goals as goal

pub loop-depth-preserved : goal.loop-depth-preserved
loop-depth-preserved c =
    let e = c.in_ok-add_level.ensures in
    record {
      rows = e.rows c.args.top c.loop-depth.invariant.rows;
      deepest = λ s low high. e.deeper s (omega (arith, e.done)) high;
      counted = within_more (rows_of c.args.kinds.now) c.args.top c.loop-depth.all.rows.items c.add_level.new.all.rows.items (length c.loop-depth.all.first.items) (length c.add_level.new.all.first.items) c.loop-depth.invariant.counted e.sums;
    }
