use Rattle.vcd_text.specs.Along.{StopsBefore}
use Rattle.vcd_text.specs.Head.{IsWidthBelow}
use Rattle.vcd_text.proofs.head.width_at.Given as goal

abbrev pub invariant-loop-width : goal.invariant-loop-width
invariant-loop-width l = StopsBefore (IsWidthBelow l.width) l.text l.least
