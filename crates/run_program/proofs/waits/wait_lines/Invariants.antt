use Rattle.std.proofs.Common.{take}
use Rattle.net_core.specs.State.{network, count}
use Rattle.run_data.specs.Lines.{lines_in}
use Rattle.run_program.specs.Run.{AreWaitLines}
use Rattle.run_program.proofs.waits.wait_lines.Given as goal

abbrev pub invariant-loop-i : goal.invariant-loop-i
invariant-loop-i g l = AreWaitLines (network l.net) (count l.net) l.program.streams.items 0 (take l.i l.program.instances.items) (lines_in l.lines.items)
