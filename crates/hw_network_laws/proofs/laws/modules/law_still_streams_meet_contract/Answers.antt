use Rattle.hw_network_laws.proofs.modules.Channels.{still_meets}
use Rattle.hw_network_laws.proofs.laws.modules.law_still_streams_meet_contract.Goals as goal

pub returns : goal.returns
returns c = λ s late S q. still_meets s S q late
