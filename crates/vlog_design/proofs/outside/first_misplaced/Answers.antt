use Rattle.std.proofs.Common.{◌∙◌, sym, ap}
use Rattle.std.specs.Option.{option_copied}
use Rattle.vlog_tree.specs.V6.{module_tops}
use Rattle.vlog_tree.proofs.Walks.{goes_on, found}
use Rattle.vlog_design.proofs.outside.first_misplaced.Goals as goal

pub returns-in-Some : goal.returns-in-Some
returns-in-Some c =
    sym (found (module_tops c.args.library.now) c.modules-modules.result.now c.loop-at.at _ c.index-modules-at.result _ c.loop-at-test.true c.index-modules-at.is (sym c.in_ok-x.ensures ∙ ap option_copied c.in-Some.is) c.loop-at.invariant)

pub loop-at-preserved : goal.loop-at-preserved
loop-at-preserved c =
    goes_on (module_tops c.args.library.now) c.modules-modules.result.now c.loop-at.at _ c.index-modules-at.result c.loop-at-test.true c.index-modules-at.is (sym c.in_ok-x.ensures ∙ ap option_copied c.in_default.is) c.loop-at.invariant
