use Rattle.vcd_text.proofs.NoDump.{none_once}
use Rattle.vcd_text.proofs.laws.law_none_once.Goals as goal

pub returns : goal.returns
returns c = λ z place there p q. none_once z place there p q
