use Rattle.hw_network_laws.proofs.network.Asked.{machines_stand_at_next, requests_stay}
use Rattle.hw_network_laws.proofs.laws.network.law_requests_stay.Goals as goal

pub returns : goal.returns
returns c = record { next = machines_stand_at_next; held = requests_stay }
