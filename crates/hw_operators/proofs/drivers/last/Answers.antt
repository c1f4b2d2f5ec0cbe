use Rattle.std.proofs.Common.{◌∙◌, arith}
use Rattle.std.proofs.lemmas.Result.{IfOk-weaker}
use Rattle.hw_operators.proofs.Lasts.{last_is}
use Rattle.hw_operators.proofs.drivers.last.Goals as goal

pub returns : goal.returns
returns c =
    IfOk-weaker c.wire.result _ _
    (λ a e. e ∙ last_is c.args.at.now.front.now c.args.at.now.first c.args.drivers.now c.args.before.now _ (omega arith) (omega arith))
    c.wire.ensures
