use Rattle.hw_task_laws.proofs.effects.Streams.{takes_are_made, puts_are_made}
use Rattle.hw_task_laws.proofs.effects.Memories.{asks_are_made, stores_are_asked}
use Rattle.hw_task_laws.proofs.laws.effects.law_outputs.Goals as goal

pub returns : goal.returns
returns c = record { takes = takes_are_made; puts = puts_are_made; asks = asks_are_made; stores = stores_are_asked }
