use Rattle.std.proofs.Common.{◌≡◌, vec_len}
use Rattle.hw_build.specs.Elements.{with_all}
use Rattle.hw_lines.specs.Drivers.{wires_of}
use Rattle.hw_expressions.proofs.wires.add_wires.Given as goal

abbrev pub invariant-loop-alloc : goal.invariant-loop-alloc
invariant-loop-alloc l = with_all l.draft (wires_of l.at.front.now l.n l.drivers.items) ≡ with_all l.initial.draft (wires_of l.at.front.now l.at.first l.initial.drivers.items)

abbrev pub decreases-loop-alloc : goal.decreases-loop-alloc
decreases-loop-alloc l = vec_len l.drivers
