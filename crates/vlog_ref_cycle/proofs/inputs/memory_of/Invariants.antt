use Rattle.std.proofs.Common.{◌≡◌, drop}
use Rattle.vlog_ref_cycle.specs.Sources.{memory_of}
use Rattle.vlog_ref_cycle.proofs.inputs.memory_of.Given as goal

abbrev pub invariant-loop-m : goal.invariant-loop-m
invariant-loop-m l = memory_of l.memories l.label ≡ memory_of (drop l.m-index l.memories) l.label
