use Rattle.std.proofs.Common.{◌≡◌, take}
use Rattle.vcd_text.specs.NetLines.{lines_of}
use Rattle.vcd_text.proofs.net_lines.net_text.Given as goal

abbrev pub invariant-loop-i : goal.invariant-loop-i
invariant-loop-i l = l.text.items ≡ lines_of l.net (take l.i l.changes)
