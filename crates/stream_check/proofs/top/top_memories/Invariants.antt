use Rattle.std.proofs.Common.{◌≡◌, ◌++◌, length, drop}
use Rattle.stream_check.specs.Programs as program
use Rattle.stream_check.proofs.top.top_memories.Given as goal

abbrev pub invariant-loop-parameter : goal.invariant-loop-parameter
invariant-loop-parameter l = program.top_memories 0 l.parameters ≡ l.memories.items ++ program.top_memories (length l.memories.items) (drop l.parameter-index l.parameters)
