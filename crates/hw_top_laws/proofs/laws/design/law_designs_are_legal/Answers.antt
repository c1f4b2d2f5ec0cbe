use Rattle.hw_top_laws.proofs.design.Roots.{tops_are_roots}
use Rattle.hw_top_laws.proofs.design.Whole.{designs_are_sound, outsides_are_right, designs_are_legal}
use Rattle.hw_top_laws.proofs.laws.design.law_designs_are_legal.Goals as goal

pub returns : goal.returns
returns c = record { sound = designs_are_sound; root = tops_are_roots; outside = outsides_are_right; legal = designs_are_legal }
