use Rattle.vcd_text.proofs.Common.{then_err}
use Rattle.vcd_text.proofs.Numbers.{word_value}
use Rattle.vcd_text.proofs.number.value_at.Goals as goal

pub returns-else-bits-eq1-clause-stop : goal.returns-else-bits-eq1-clause-stop
returns-else-bits-eq1-clause-stop c = then_err _ _ c.word.result (λ left p. (p.0, p.1, word_value c.args.bits c.args.before c.args.text.now p.0 c.if-bits-eq1.false p.2)) c.word.ensures.stop
