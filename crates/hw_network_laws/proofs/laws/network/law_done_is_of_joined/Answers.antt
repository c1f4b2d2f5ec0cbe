use Rattle.hw_network_laws.proofs.network.Joined.{done_is_of_joined}
use Rattle.hw_network_laws.proofs.laws.network.law_done_is_of_joined.Goals as goal

pub returns : goal.returns
returns c = done_is_of_joined
