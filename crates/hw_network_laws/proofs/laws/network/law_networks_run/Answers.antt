use Rattle.hw_network_laws.proofs.network.Runs.{run}
use Rattle.hw_network_laws.proofs.laws.network.law_networks_run.Goals as goal

pub returns : goal.returns
returns c = run
