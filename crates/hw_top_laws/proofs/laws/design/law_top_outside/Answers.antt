use Rattle.hw_top_laws.proofs.design.Outside.{tops_have_scalars, tops_have_memories, tops_have_streams}
use Rattle.hw_top_laws.proofs.laws.design.law_top_outside.Goals as goal

pub returns : goal.returns
returns c = record { scalars = tops_have_scalars; memories = tops_have_memories; streams = tops_have_streams }
