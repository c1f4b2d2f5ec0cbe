use Rattle.std.proofs.Common.{◌≤◌, take, Vec, ℕ}
use Rattle.std.specs.Io.KnownBytes.{Appends}
use Rattle.std.specs.List.{flat_map}
use Rattle.std.specs.declared.alloc.Global.{Global}
use Rattle.command_answers.proofs.report.put_lines.Given as goal

abbrev pub invariant-loop-line : goal.invariant-loop-line
invariant-loop-line g l =
    Appends (g.E.Sink.contents l.fn.err) (g.E.Sink.contents l.err) (flat_map (λ (line : Vec ℕ Global). line.items) (take l.line-index l.lines))
    × (g.E.Sink.faults l.fn.err ≤ g.E.Sink.faults l.err)
