use Rattle.std.proofs.Common.{◌∙◌}
use Rattle.std.proofs.lemmas.Result.{IfOk-weaker}
use Rattle.cross_pipe.proofs.RelayRows.{even_is, odd_is}
use Rattle.cross_pipe.proofs.relay.row.Goals as goal

pub returns-then-steps-eq0 : goal.returns-then-steps-eq0
returns-then-steps-eq0 c = IfOk-weaker c.even.result _ _ (λ m e. e ∙ even_is c.args.bits c.args.steps c.if-steps-eq0.true) c.even.ensures

pub returns-else-steps-eq0 : goal.returns-else-steps-eq0
returns-else-steps-eq0 c = IfOk-weaker c.odd.result _ _ (λ m e. e ∙ odd_is c.args.bits c.args.steps c.if-steps-eq0.false) c.odd.ensures
