use Rattle.hw_network_laws.proofs.network.FirstArrays.{first_arrays}
use Rattle.hw_network_laws.proofs.laws.network.law_first_arrays_are_no_matter.Goals as goal

pub returns : goal.returns
returns c = first_arrays
