use Rattle.std.proofs.Common.{◌∙◌, sym, ap}
use Rattle.std.specs.Option.{option_copied}
use Rattle.vlog_tree.specs.V2.{port_uses}
use Rattle.vlog_tree.proofs.Walks.{goes_on, found}
use Rattle.vlog_rules.proofs.names.ports.Goals as goal

pub returns-in-Some : goal.returns-in-Some
returns-in-Some c =
    sym (found (port_uses c.args.scope.now) c.args.ports.now c.loop-p.p-index _ c.p-item.result _ c.loop-p-test.true c.p-item.is (sym c.port.ensures ∙ ap option_copied c.in-Some.is) c.loop-p.invariant)

pub loop-p-preserved : goal.loop-p-preserved
loop-p-preserved c =
    goes_on (port_uses c.args.scope.now) c.args.ports.now c.loop-p.p-index _ c.p-item.result c.loop-p-test.true c.p-item.is (sym c.port.ensures ∙ ap option_copied c.in_default.is) c.loop-p.invariant
