use Rattle.vlog_lex.proofs.Laid.{gap_first}
use Rattle.vlog_lex.proofs.laws.law_gap_in_front.Goals as goal

pub returns : goal.returns
returns c = λ bytes text ms gap h. (h.0, gap_first bytes text h.0 gap h.1, h.2)
