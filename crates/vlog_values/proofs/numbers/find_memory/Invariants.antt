use Rattle.std.proofs.Common.{◌≡◌, drop}
use Rattle.vlog_values.specs.Numbers.{first_memory}
use Rattle.vlog_values.proofs.numbers.find_memory.Given as goal

abbrev pub invariant-loop-m : goal.invariant-loop-m
invariant-loop-m l = first_memory l.memories l.name ≡ first_memory (drop l.m-index l.memories) l.name
