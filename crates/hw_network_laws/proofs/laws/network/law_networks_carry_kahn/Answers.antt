use Rattle.hw_network_laws.proofs.network.Kahn.{carries_kahn}
use Rattle.hw_network_laws.proofs.laws.network.law_networks_carry_kahn.Goals as goal

pub returns : goal.returns
returns c = carries_kahn
