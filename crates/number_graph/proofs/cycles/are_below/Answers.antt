use Rattle.std.proofs.Common.{rules, ◌<◌, get_or}
use Rattle.number_graph.proofs.Marking.{taken_of}
use Rattle.number_graph.proofs.cycles.are_below.Goals as goal

pub loop-node-preserved : goal.loop-node-preserved
loop-node-preserved c = λ k h.
    let i = c.loop-node.node-index in
    let nodes = c.args.nodes.now in
    let here : get_or c.args.levels.now (get_or nodes i 0) 0 < c.args.level = search rules in
    taken_of nodes i (λ n. get_or c.args.levels.now n 0 < c.args.level) c.loop-node-test.true c.loop-node.invariant here k h
