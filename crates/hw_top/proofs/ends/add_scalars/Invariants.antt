use Rattle.std.proofs.Common.{◌≡◌, ◌++◌}
use Rattle.hw_build.specs.Scope.{each}
use Rattle.hw_top_lines.specs.Texts.{scalar_connections}
use Rattle.hw_top.proofs.ends.add_scalars.Given as goal

abbrev pub invariant-loop-p : goal.invariant-loop-p
invariant-loop-p l = l.ends.items ≡ l.initial.ends.items ++ each (scalar_connections l.i l.x) l.p
