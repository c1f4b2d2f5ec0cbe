use Rattle.tapa_laws.proofs.memories.Writers.{writers_joined}
use Rattle.tapa_laws.proofs.laws.memories.law_writers_are_joined.Goals as goal

pub returns : goal.returns
returns c = writers_joined
