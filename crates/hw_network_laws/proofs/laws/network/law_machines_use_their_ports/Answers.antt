use Rattle.hw_network_laws.proofs.network.Ports.{lowered_uses}
use Rattle.hw_network_laws.proofs.laws.network.law_machines_use_their_ports.Goals as goal

pub returns : goal.returns
returns c = lowered_uses
