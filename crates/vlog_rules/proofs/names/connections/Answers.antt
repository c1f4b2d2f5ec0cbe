use Rattle.std.proofs.Common.{◌∙◌, sym, ap}
use Rattle.std.specs.Option.{option_copied}
use Rattle.vlog_tree.specs.V2.{connection_uses}
use Rattle.vlog_tree.proofs.Walks.{goes_on, found}
use Rattle.vlog_rules.proofs.names.connections.Goals as goal

pub returns-in-Some : goal.returns-in-Some
returns-in-Some c =
    sym (found (connection_uses c.args.ports.now c.args.scope.now) c.args.connections.now c.loop-l.l-index _ c.l-item.result _ c.loop-l-test.true c.l-item.is (sym c.connection.ensures ∙ ap option_copied c.in-Some.is) c.loop-l.invariant)

pub loop-l-preserved : goal.loop-l-preserved
loop-l-preserved c =
    goes_on (connection_uses c.args.ports.now c.args.scope.now) c.args.connections.now c.loop-l.l-index _ c.l-item.result c.loop-l-test.true c.l-item.is (sym c.connection.ensures ∙ ap option_copied c.in_default.is) c.loop-l.invariant
