use Rattle.std.proofs.Common.{List, map, sym, ap, subst, ◌∙◌}
use Rattle.std.specs.Prelude.{OnOk}
use Rattle.vlog_tree.specs.declared.table.Declaration.{Declaration}
use Rattle.vlog_tree.specs.declared.tree.Connection.{Connection}
use Rattle.vlog_tree.specs.declared.tree.Item.{Item}
use Rattle.vlog_tree.specs.Table.{Name, port_declared, ports_of}
use Rattle.vlog_tree.specs.Loops.{value_nets, connection_edge, line_edges}
use Rattle.vlog_net_graph.specs.Growth.{Adds}
use Rattle.vlog_net_graph.specs.Merged.{under}
use Rattle.vlog_net_graph.proofs.Growing.{fused}
use Rattle.vlog_net_graph.proofs.lines.add_line.Goals as goal

pub returns-in-Assign : goal.returns-in-Assign
returns-in-Assign c =
    let front = c.args.front.now in
    let x = c.in-Assign.x in
    subst (λ e. OnOk c.add_value.result (Adds c.args.g.now c.add_value.new.g e))
    (fused front (λ (y : Name). (x, y)) (value_nets c.in-Assign.e) ∙ ap (λ (i : Item). map (under front) (line_edges c.args.library.now i)) (sym c.in-Assign.is)) c.add_value.ensures

pub returns-in-Instance : goal.returns-in-Instance
returns-in-Instance c =
    let front = c.args.front.now in
    let i = c.in-Instance.i in
    let ls = c.connections.result.now in
    let ports = map port_declared (ports_of c.args.library.now c.in-Instance.m) in
    subst (λ e. OnOk c.add_connections.result (Adds c.args.g.now c.add_connections.new.g e))
    (fused front (connection_edge c.ports_named-ports.result.now i) ls
    ∙ ap (λ (ps : List Declaration). map (under front) (map (connection_edge ps i) ls)) c.ports_named-ports.ensures
    ∙ ap (λ (l : List Connection). map (under front) (map (connection_edge ports i) l)) c.connections.ensures
    ∙ ap (λ (item : Item). map (under front) (line_edges c.args.library.now item)) (sym c.in-Instance.is)) c.add_connections.ensures
