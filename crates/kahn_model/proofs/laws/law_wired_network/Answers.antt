use Rattle.kahn_model.proofs.Wired.{wired_network}
use Rattle.kahn_model.proofs.laws.law_wired_network.Goals as goal

pub returns : goal.returns
returns c = wired_network
