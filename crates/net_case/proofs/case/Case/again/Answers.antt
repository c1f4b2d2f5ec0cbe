use Rattle.std.proofs.Common.{inr, arith}
use Rattle.net_case.proofs.case.Case.again.Goals as goal

pub of-requires-clause-joined : goal.of-requires-clause-joined
of-requires-clause-joined g c = let w = c.requires.within.joined in omega arith

pub of-requires-clause-answered : goal.of-requires-clause-answered
of-requires-clause-answered g c = inr c.requires.answered
