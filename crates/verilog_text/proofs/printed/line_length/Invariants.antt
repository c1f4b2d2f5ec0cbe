use Rattle.std.proofs.Common.{take}
use Rattle.tapa_base.specs.Lists.{Has}
use Rattle.verilog_text.proofs.printed.line_length.Given as goal

abbrev pub invariant-loop-at : goal.invariant-loop-at
invariant-loop-at l = Has (take l.at l.text) 10 → ⊥
