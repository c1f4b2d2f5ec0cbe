-- What the command `build` without a device means: the circuit of a source's program.
use Rattle.std.specs.Prelude.{◌≡◌, ℕ, List, [], None}
use Rattle.tapa_syntax.specs.declared.program.Program.{Program}
use Rattle.command_answers.specs.Answer.{Answer, Writes}
use Rattle.command_answers.specs.Ends.{Meaning}
use Rattle.command_answers.specs.Files.{Held, Named, Absent}
use Rattle.command_answers.specs.declared.file.File.{File}
use Rattle.command_answers.specs.declared.file.File.TheVariants as role
use Rattle.command_source.specs.Means.{ReadsSource}
use Rattle.command_build.specs.Built.{IsCircuitText}

abbrev pub files_of_build : List ℕ → File → Held
files_of_build source role.Source = Named source
files_of_build source _ = Absent

-- the text of the program's circuit is written
abbrev pub ComesToCircuit : Program → Answer → Type 0
ComesToCircuit program answer = (told : List ℕ) × IsCircuitText program [] told × (answer ≡ Writes told None)

-- read the source, write its circuit
abbrev pub MeansBuild : List ℕ → Meaning
MeansBuild top gives = ReadsSource top (gives role.Source) ComesToCircuit
