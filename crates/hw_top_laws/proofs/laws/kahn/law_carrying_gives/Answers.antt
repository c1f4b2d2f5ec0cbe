use Rattle.hw_top_laws.proofs.kahn.Gives.{carrying_gives, steady_memories_answer}
use Rattle.hw_top_laws.proofs.laws.kahn.law_carrying_gives.Goals as goal

pub returns : goal.returns
returns c = record { gives = carrying_gives; steady = steady_memories_answer }
