use Rattle.std.proofs.Common.{◌≡◌, ◌++◌, take}
use Rattle.vcd_text.specs.Dump.{var_line, lines_from}
use Rattle.sim_output.specs.Dumped.{widths_of}
use Rattle.sim_output.proofs.Heading.{nets_among}
use Rattle.sim_output.proofs.dump_head.push_nets.Given as goal

abbrev pub invariant-loop-i : goal.invariant-loop-i
invariant-loop-i l = (l.text.items ≡ l.fn.text.items ++ lines_from var_line 0 (nets_among (take l.i l.names))) × (l.widths.items ≡ widths_of (nets_among (take l.i l.names)))
