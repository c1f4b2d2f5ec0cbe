use Rattle.std.proofs.Common.{◌≤◌, length}
use Rattle.tapa_files.proofs.Known.{IsPutTo}
use Rattle.verilog_text.proofs.printed.put_lines.Given as goal

abbrev pub invariant-loop-rest : goal.invariant-loop-rest
invariant-loop-rest g l =
    IsPutTo (g.O.Sink.contents l.fn.out) (g.O.Sink.contents l.out) l.text l.rest
    × (g.O.Sink.faults l.fn.out ≤ g.O.Sink.faults l.out)

abbrev pub decreases-loop-rest : goal.decreases-loop-rest
decreases-loop-rest g l = length l.rest
