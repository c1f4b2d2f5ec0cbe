-- What holds of the program of every legal source.
use Rattle.std.specs.Prelude.{◌≡◌, ℕ, List, []}
use Rattle.tapa_syntax.specs.declared.program.Program.{Program}
use Rattle.tapa_syntax.specs.Trees.{ItemTree}
use Rattle.tapa_syntax.specs.Flat.{flat_program}
use Rattle.tapa_syntax.specs.WellFormed.{IsWellFormed}
use Rattle.stream_check.specs.Programs.{program_faults, program_of}

-- each name is bound, each stream has its writer and its reader, each memory its one instance, and each value its kind
abbrev pub LegalProgramsAreWellFormed : Type 0
LegalProgramsAreWellFormed = (items : List ItemTree) (top : List ℕ) (program : Program) → program_faults items top ≡ [] → flat_program program ≡ program_of items top → IsWellFormed program
