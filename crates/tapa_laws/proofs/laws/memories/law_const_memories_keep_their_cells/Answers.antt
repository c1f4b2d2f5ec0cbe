use Rattle.tapa_laws.proofs.memories.Programs.{const_keeps}
use Rattle.tapa_laws.proofs.laws.memories.law_const_memories_keep_their_cells.Goals as goal

pub returns : goal.returns
returns c = const_keeps
