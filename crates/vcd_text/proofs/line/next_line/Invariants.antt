use Rattle.std.specs.Prelude.{slice_get}
use Rattle.vcd_text.specs.Along.{StopsBefore}
use Rattle.vcd_text.specs.Lines.{IsLineTo}
use Rattle.vcd_text.proofs.line.next_line.Given as goal

abbrev pub invariant-loop-net : goal.invariant-loop-net
invariant-loop-net l = StopsBefore (IsLineTo l.nets (slice_get l.values) l.next l.from l.net) l.text l.least
