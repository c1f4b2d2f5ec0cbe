use Rattle.std.proofs.Common.{◌≡◌}
use Rattle.hw_network_laws.proofs.network.Linked.{at_streams}
use Rattle.hw_network_laws.proofs.laws.network.law_ports_are_streams.Goals as goal

pub returns : goal.returns
returns c = λ part w net i ports S answers h uses l r. at_streams part w (λ s. net.consumer s ≡ i) (λ s. net.producer s ≡ i) ports S answers l h uses r
