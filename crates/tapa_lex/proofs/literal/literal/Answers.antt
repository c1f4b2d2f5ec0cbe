use Rattle.tapa_lex.proofs.Values.{too_wide}
use Rattle.tapa_lex.proofs.literal.literal.Goals as goal

pub returns-in_default : goal.returns-in_default
returns-in_default c =
    too_wide c.args.word.now c.base_of-base.result c.run-len.result c.behind_mark-body.result.now c.split_at.result.0.now c.base_of-base.ensures.value c.behind_mark-body.ensures c.run-len.ensures.value c.split_at.ensures.front (λ h. c.in_default.ensures {u = tt} h)
