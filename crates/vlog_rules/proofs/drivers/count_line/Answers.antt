use Rattle.std.proofs.Common.{◌++◌, List, sym, subst}
use Rattle.std.specs.List.{flat_map}
use Rattle.vlog_tree.specs.declared.tree.Connection.{Connection}
use Rattle.vlog_tree.specs.declared.tree.Item.{Item}
use Rattle.vlog_tree.specs.declared.table.Declaration.{Declaration}
use Rattle.vlog_tree.specs.Table.{times_in}
use Rattle.vlog_tree.specs.V4.{connection_driven, line_driven}
use Rattle.vlog_rules.specs.Drives.{CountsPlaces}
use Rattle.vlog_rules.proofs.drivers.count_line.Goals as goal

pub returns-in-Assign : goal.returns-in-Assign
returns-in-Assign c = λ names t.
    subst (λ (i : Item). CountsPlaces c.args.scope.now c.count_net.new.counts.items (times_in (names ++ line_driven c.args.library.now i))) (sym c.in-Assign.is) (c.count_net.ensures names t)

pub returns-in-Instance : goal.returns-in-Instance
returns-in-Instance c = λ names t.
    let ds = c.args.scope.now in
    let new = c.count_connections.new.counts.items in
    let ports = c.ports_named.result.now in
    subst (λ (i : Item). CountsPlaces ds new (times_in (names ++ line_driven c.args.library.now i))) (sym c.in-Instance.is)
    (subst (λ (p : List Declaration). CountsPlaces ds new (times_in (names ++ flat_map (connection_driven p) c.in-Instance.connections))) c.ports_named.ensures
    (subst (λ (ls : List Connection). CountsPlaces ds new (times_in (names ++ flat_map (connection_driven ports) ls))) c.connections.ensures (c.count_connections.ensures names t)))
