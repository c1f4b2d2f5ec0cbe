use Rattle.std.proofs.Common.{take}
use Rattle.tapa_base.specs.Lists.{Has}
use Rattle.vlog_comb_loops.proofs.pairs.is_among.Given as goal

abbrev pub invariant-loop-p : goal.invariant-loop-p
invariant-loop-p l = Has (take l.p-index l.pairs) l.pair → ⊥
