use Rattle.hw_network_laws.proofs.network.Parts.{parts}
use Rattle.hw_network_laws.proofs.laws.network.law_lowered_machines_are_parts.Goals as goal

pub returns : goal.returns
returns c = parts
