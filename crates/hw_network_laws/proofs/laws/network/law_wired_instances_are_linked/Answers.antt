use Rattle.hw_network_laws.proofs.network.Ports.{linked}
use Rattle.hw_network_laws.proofs.laws.network.law_wired_instances_are_linked.Goals as goal

pub returns : goal.returns
returns c = λ program w first i x leaf at body ports S a. linked program w i x leaf at body first ports S a
