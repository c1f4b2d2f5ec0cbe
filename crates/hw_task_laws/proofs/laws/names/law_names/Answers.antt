use Rattle.hw_task_laws.proofs.names.Sorts.{names_once, nets_named, blocks_once}
use Rattle.hw_task_laws.proofs.laws.names.law_names.Goals as goal

pub returns : goal.returns
returns c = record { once = names_once; named = nets_named; blocks = blocks_once }
