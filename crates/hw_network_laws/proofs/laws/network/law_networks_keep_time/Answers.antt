use Rattle.hw_network_laws.proofs.network.Together.{in_step}
use Rattle.hw_network_laws.proofs.laws.network.law_networks_keep_time.Goals as goal

pub returns : goal.returns
returns c = in_step
