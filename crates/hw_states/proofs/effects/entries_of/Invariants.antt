use Rattle.std.proofs.Common.{◌≡◌}
use Rattle.hw_build.specs.Scope.{each}
use Rattle.hw_lines.specs.Effects.{effect}
use Rattle.hw_nets.specs.Entries.{entry_forms}
use Rattle.hw_nets.specs.Shapes.{form}
use Rattle.hw_states.specs.ByState.{first_of}
use Rattle.hw_states.proofs.effects.entries_of.Given as goal

abbrev pub invariant-loop-k : goal.invariant-loop-k
invariant-loop-k l = (entry_forms l.found.items ≡ each (effect (form l.machine.shape) l.choice) l.k) × (l.first ≡ first_of (form l.machine.shape) l.choice)
