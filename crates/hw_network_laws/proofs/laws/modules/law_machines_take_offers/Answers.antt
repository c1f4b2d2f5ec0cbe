use Rattle.std.proofs.Common.{◌≡◌}
use Rattle.hw_network_laws.proofs.modules.Channels.{takes_offers}
use Rattle.hw_network_laws.proofs.laws.modules.law_machines_take_offers.Goals as goal

pub returns : goal.returns
returns c = λ part net i S answers h r s own. takes_offers part S answers (λ s. net.consumer s ≡ i) (λ s. net.producer s ≡ i) h r s own
