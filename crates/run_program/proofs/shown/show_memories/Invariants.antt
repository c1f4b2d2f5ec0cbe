use Rattle.std.proofs.Common.{◌≤◌, take}
use Rattle.std.specs.Io.KnownBytes.{Appends}
use Rattle.net_core.specs.State.{count}
use Rattle.run_program.specs.Run.{cells_shown, memory_lines}
use Rattle.net_core.specs.Bounded.{values_of}
use Rattle.run_program.proofs.shown.show_memories.Given as goal

abbrev pub invariant-loop-m : goal.invariant-loop-m
invariant-loop-m g l =
    Appends (g.O.Sink.contents l.fn.out) (g.O.Sink.contents l.out) (memory_lines (cells_shown l.program (values_of l.input) (count l.net) l.last) 0 (take l.m l.program.memories.items))
    × (g.O.Sink.faults l.fn.out ≤ g.O.Sink.faults l.out)
