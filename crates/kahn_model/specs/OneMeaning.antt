-- What the network of a program is a function of.
use Rattle.std.specs.Prelude.{◌≡◌, ℕ, List}
use Rattle.tapa_syntax.specs.declared.program.Program.{Program}
use Rattle.tapa_syntax.specs.Flat.{flat_program}
use Rattle.kahn_model.specs.Start.{network_of}

-- programs that differ only in where they lie in memory have one network on every input
abbrev pub ProgramsOfOneMeaning : Type 0
ProgramsOfOneMeaning = (p q : Program) → flat_program p ≡ flat_program q → (scalars : List ℕ) (memories : List (List ℕ)) → network_of p scalars memories ≡ network_of q scalars memories
