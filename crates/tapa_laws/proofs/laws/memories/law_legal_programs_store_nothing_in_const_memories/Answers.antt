use Rattle.tapa_laws.proofs.memories.Programs.{nothing_in_const}
use Rattle.tapa_laws.proofs.laws.memories.law_legal_programs_store_nothing_in_const_memories.Goals as goal

pub returns : goal.returns
returns c = nothing_in_const
