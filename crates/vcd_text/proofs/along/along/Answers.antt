use Rattle.vcd_text.proofs.Common.{short_text}
use Rattle.vcd_text.proofs.along.along.Goals as goal

pub returns-else-at-text : goal.returns-else-at-text
returns-else-at-text c = short_text c.args.word.now c.args.text.now c.loop-at.at _ c.if-at-text.false c.loop-at.invariant.along
