use Rattle.hw_network_laws.proofs.network.Prompt.{answered_counts_are_prompt}
use Rattle.hw_network_laws.proofs.laws.network.law_answered_counts_are_prompt.Goals as goal

pub returns : goal.returns
returns c = answered_counts_are_prompt
