-- What the command `vcd` means: the values of one net of the dump of a file.
use Rattle.std.specs.Prelude.{◌≡◌, ℕ, List}
use Rattle.vcd_text.specs.Dump.{IsNoDumpAt}
use Rattle.vcd_text.specs.NetLines.{IsNetShown, HasNoNet}
use Rattle.command_answers.specs.Answer.{Puts, Reads}
use Rattle.command_answers.specs.Ends.{Meaning}
use Rattle.command_answers.specs.Files.{Held, Named, Absent}
use Rattle.command_answers.specs.Refusal as refusal
use Rattle.command_answers.specs.Refusal.{Refusal, DumpFault, NoDump, NoNet}
use Rattle.command_answers.specs.declared.file.File.{File}
use Rattle.command_answers.specs.declared.file.File.TheVariants as role

abbrev pub files_of_vcd : List ℕ → File → Held
files_of_vcd file role.Dump = Named file
files_of_vcd file _ = Absent

-- the text is no dump, and this is the place; or its dump has no net of the name
abbrev pub IsWrongDump : List ℕ → List ℕ → DumpFault → Type 0
IsWrongDump text net (NoDump place) = IsNoDumpAt text place
IsWrongDump text net (NoNet name) = (name ≡ net) × HasNoNet text net

abbrev pub IsDumpFault : List ℕ → List ℕ → Refusal → Type 0
IsDumpFault net text why = (fault : DumpFault) × IsWrongDump text net fault × (why ≡ refusal.Dump fault)

-- read the dump, show the net
abbrev pub MeansVcd : List ℕ → Meaning
MeansVcd net gives = Reads role.Dump (gives role.Dump) (IsDumpFault net) (λ text told. IsNetShown text net told) (λ told answer. answer ≡ Puts told)
