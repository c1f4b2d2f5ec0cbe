use Rattle.hw_lines.proofs.Names.{names_tell}
use Rattle.hw_lines.proofs.Spelled.{nodes_numbered, nets_named}
use Rattle.hw_lines.proofs.laws.law_nets.Goals as goal

pub returns : goal.returns
returns c = record { tell = names_tell; nodes = nodes_numbered; names = nets_named }
