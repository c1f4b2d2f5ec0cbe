use Rattle.hw_network_laws.proofs.modules.Designs.{clocked}
use Rattle.hw_network_laws.proofs.laws.modules.law_designs_are_clocked.Goals as goal

pub returns : goal.returns
returns c = clocked
