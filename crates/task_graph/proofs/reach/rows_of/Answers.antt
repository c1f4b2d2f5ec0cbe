use Rattle.task_graph.proofs.Walks.{rows_more}
use Rattle.task_graph.proofs.reach.rows_of.Goals as goal

pub loop-node-preserved : goal.loop-node-preserved
loop-node-preserved c =
    let inv = c.loop-node.invariant in
    let more = rows_more c.args.graph.now c.loop-node.node c.loop-node.rows.items c.in_ok-row.row c.push.new.self.items inv.len inv.marks c.in_ok-row.ensures c.in_ok-push.ensures.items in
    record { len = more.0; marks = more.1 }
