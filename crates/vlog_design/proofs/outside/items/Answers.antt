use Rattle.std.proofs.Common.{◌∙◌, sym, ap}
use Rattle.std.specs.Option.{option_copied}
use Rattle.vlog_tree.specs.V6.{clock_connections}
use Rattle.vlog_tree.proofs.Walks.{goes_on, found}
use Rattle.vlog_design.proofs.outside.items.Goals as goal

pub returns-in-Some : goal.returns-in-Some
returns-in-Some c =
    sym (found clock_connections c.args.items.now c.loop-i.i-index _ c.i-item.result _ c.loop-i-test.true c.i-item.is (sym c.item.ensures ∙ ap option_copied c.in-Some.is) c.loop-i.invariant)

pub loop-i-preserved : goal.loop-i-preserved
loop-i-preserved c =
    goes_on clock_connections c.args.items.now c.loop-i.i-index _ c.i-item.result c.loop-i-test.true c.i-item.is (sym c.item.ensures ∙ ap option_copied c.in_default.is) c.loop-i.invariant
