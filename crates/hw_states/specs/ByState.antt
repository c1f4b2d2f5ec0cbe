-- Choices among what the states do, and the values that registers have first.
use Rattle.vlog_tree.specs.declared.tree.Atom.{Atom}
use Rattle.vlog_tree.specs.declared.tree.Atom.TheVariants.{Literal}
use Rattle.hw_lines.specs.declared.nets.Choice.{Choice}
use Rattle.hw_lines.specs.declared.nets.Choice.TheVariants.{Clear, Set, NextValue, Reads, ArrayIndex}
use Rattle.hw_lines.specs.Shape.{Shape}
use Rattle.hw_lines.specs.Effects.{first_value}

-- a read of an array is asked for by its own wires
abbrev pub IsByState : Choice → Type 0
IsByState (Reads p a) = ⊥
IsByState (ArrayIndex p a) = ⊥
IsByState c = Unit {0}

-- what the register of a choice has first
abbrev pub first_of : Shape → Choice → Atom
first_of S (Clear r) = first_value S r
first_of S (Set r) = first_value S r
first_of S (NextValue r) = first_value S r
first_of S c = Literal 1 0
