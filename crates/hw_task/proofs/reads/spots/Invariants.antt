use Rattle.std.proofs.Common.{◌≡◌}
use Rattle.hw_build.specs.Scope.{each}
use Rattle.hw_lines.specs.Effects.{effect}
use Rattle.hw_nets.specs.Entries.{entry_forms}
use Rattle.hw_nets.specs.Shapes.{form}
use Rattle.hw_task.proofs.reads.spots.Given as goal

abbrev pub invariant-loop-k : goal.invariant-loop-k
invariant-loop-k l = entry_forms l.found.items ≡ each (effect (form l.shape) l.choice) l.k
