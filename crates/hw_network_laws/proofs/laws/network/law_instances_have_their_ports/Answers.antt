use Rattle.hw_network_laws.proofs.network.Ports.{has_ports}
use Rattle.hw_network_laws.proofs.laws.network.law_instances_have_their_ports.Goals as goal

pub returns : goal.returns
returns c = has_ports
