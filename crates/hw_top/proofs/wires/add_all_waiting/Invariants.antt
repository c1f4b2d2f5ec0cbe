use Rattle.std.proofs.Common.{◌≡◌}
use Rattle.hw_build.specs.Elements.{with_all}
use Rattle.hw_build.specs.Scope.{each}
use Rattle.hw_top_lines.specs.Texts.{waiting}
use Rattle.hw_top.proofs.wires.add_all_waiting.Given as goal

abbrev pub invariant-loop-i : goal.invariant-loop-i
invariant-loop-i l = l.draft ≡ with_all l.initial.draft (each (waiting l.program) l.i)
