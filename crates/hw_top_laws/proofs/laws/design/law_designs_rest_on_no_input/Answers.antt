use Rattle.hw_top_laws.proofs.design.Inputs.{designs_rest_on_no_input}
use Rattle.hw_top_laws.proofs.laws.design.law_designs_rest_on_no_input.Goals as goal

pub returns : goal.returns
returns c = designs_rest_on_no_input
