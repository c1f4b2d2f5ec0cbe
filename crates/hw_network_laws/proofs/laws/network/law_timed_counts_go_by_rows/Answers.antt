use Rattle.hw_network_laws.proofs.network.Timed.{goes_by_rows}
use Rattle.hw_network_laws.proofs.laws.network.law_timed_counts_go_by_rows.Goals as goal

pub returns : goal.returns
returns c = goes_by_rows
