use Rattle.vcd_text.proofs.NoDump.{dump_or_none}
use Rattle.vcd_text.proofs.laws.law_never_both.Goals as goal

pub returns : goal.returns
returns c = λ z place d n. dump_or_none z place d n
