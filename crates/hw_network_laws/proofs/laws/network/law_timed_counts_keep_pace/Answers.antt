use Rattle.hw_network_laws.proofs.network.Pace.{keeps_pace}
use Rattle.hw_network_laws.proofs.laws.network.law_timed_counts_keep_pace.Goals as goal

pub returns : goal.returns
returns c = keeps_pace
