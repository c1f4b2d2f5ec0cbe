use Rattle.slot_split.proofs.cuts.+part_start.Given as goal

abbrev pub decreases-part_start : goal.decreases-part_start
decreases-part_start l = l.cuts
