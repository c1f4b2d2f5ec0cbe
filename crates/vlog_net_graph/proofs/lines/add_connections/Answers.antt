use Rattle.std.proofs.Common.{[], ◌∷◌, map, refl}
use Rattle.vlog_tree.specs.declared.tree.Connection.{Connection}
use Rattle.vlog_tree.specs.Loops.{connection_edge}
use Rattle.vlog_net_graph.specs.Merged.{under}
use Rattle.vlog_net_graph.proofs.Growing.{so_far_start, so_far_step, so_far_end}
use Rattle.vlog_net_graph.proofs.lines.add_connections.Goals as goal

pub loop-l-init : goal.loop-l-init
loop-l-init c = so_far_start (map (λ (l : Connection). under c.args.front.now (connection_edge c.args.ports.now c.args.instance.now l))) c.args.connections.now c.args.g.now

pub loop-l-preserved : goal.loop-l-preserved
loop-l-preserved c =
    so_far_step (map (λ (l : Connection). under c.args.front.now (connection_edge c.args.ports.now c.args.instance.now l))) c.args.connections.now c.loop-l.l-index c.l-item.result c.args.g.now c.loop-l.g c.add_connection.new.g (under c.args.front.now (connection_edge c.args.ports.now c.args.instance.now c.l-item.result) ∷ []) (λ rest. refl)
    c.loop-l-test.true c.l-item.is c.loop-l.invariant c.in_ok-add_connection.ensures

pub returns : goal.returns
returns c = so_far_end (map (λ (l : Connection). under c.args.front.now (connection_edge c.args.ports.now c.args.instance.now l))) c.args.connections.now c.loop-l.l-index c.args.g.now c.loop-l.g refl c.loop-l-test.false c.loop-l.invariant
