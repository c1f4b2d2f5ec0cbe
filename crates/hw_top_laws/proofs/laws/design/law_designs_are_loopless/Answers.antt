use Rattle.hw_top_laws.proofs.design.Answers.{answers}
use Rattle.hw_top_laws.proofs.design.Kept.{order}
use Rattle.hw_top_laws.proofs.design.Loops.{top_no_loop}
use Rattle.hw_top_laws.proofs.design.OrderWhole.{designs_are_loopless}
use Rattle.hw_top_laws.proofs.laws.design.law_designs_are_loopless.Goals as goal

pub returns : goal.returns
returns c = record { order = order; answers = answers; top = top_no_loop; designs = designs_are_loopless }
