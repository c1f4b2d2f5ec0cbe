use Rattle.std.proofs.Common.{sym, ◌∙◌}
use Rattle.std.proofs.lemmas.Result.{IfOk-weaker}
use Rattle.command_answers.proofs.report.report_key.Goals as goal

pub returns : goal.returns
returns g c = λ end message status. c.report_made.ensures c.args.name.now end (IfOk-weaker c.key_line.result _ _ (λ line is. is ∙ sym message) c.key_line.ensures) status
