use Rattle.vcd_text.proofs.identifier.+identifier_at.Given as goal

abbrev pub decreases-identifier_at : goal.decreases-identifier_at
decreases-identifier_at l = l.number
