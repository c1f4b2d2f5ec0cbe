use Rattle.std.proofs.Common.{◌≤◌, take}
use Rattle.std.specs.Io.KnownBytes.{Appends}
use Rattle.cycle_sim.specs.Simulators.{sim_of}
use Rattle.sim_output.specs.Reports.{memory_lines}
use Rattle.sim_output.proofs.shown.show_memories.Given as goal

abbrev pub invariant-loop-m : goal.invariant-loop-m
invariant-loop-m g l =
    Appends (g.O.Sink.contents l.fn.out) (g.O.Sink.contents l.out) (memory_lines (sim_of l.sim).told.outside (take l.m l.memories))
    × (g.O.Sink.faults l.fn.out ≤ g.O.Sink.faults l.out)
