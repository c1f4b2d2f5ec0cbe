use Rattle.std.proofs.Common.{◌≡◌, ◌++◌}
use Rattle.hw_build.specs.Scope.{each}
use Rattle.hw_top_lines.specs.Texts.{memory_connections}
use Rattle.hw_top.proofs.ends.add_memories.Given as goal

abbrev pub invariant-loop-p : goal.invariant-loop-p
invariant-loop-p l = l.ends.items ≡ l.initial.ends.items ++ each (memory_connections l.program l.x) l.p
