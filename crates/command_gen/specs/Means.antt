-- What the command `gen` means: the summary of a generated network, or why there is none.
use Rattle.std.specs.Prelude.{◌≡◌, ◌⊎◌, ℕ, codes}
use Rattle.tapa_syntax.specs.declared.program.Program.{Program}
use Rattle.run_data.specs.Lines.{joined}
use Rattle.command_answers.specs.Answer.{Answer, Puts, Refuses}
use Rattle.command_answers.specs.Ends.{Meaning}
use Rattle.command_answers.specs.Files.{Held, Made, Absent}
use Rattle.command_answers.specs.Refusal.{Refusal}
use Rattle.command_answers.specs.declared.file.File.{File}
use Rattle.command_answers.specs.declared.file.File.TheVariants as role
use Rattle.command_source.specs.Means.{ReadsSource}
use Rattle.command_gen.specs.Layers.{network_text, network_top}
use Rattle.command_gen.specs.Network.{IsNotSummed, IsSummaryOf}
use Rattle.command_gen.specs.Summaries.{summary_lines}
use Rattle.command_gen.specs.declared.lines.Summary.{Summary}

-- its source is its own text
abbrev pub files_of_gen : ℕ → File → Held
files_of_gen layers role.Source = Made (codes "gen") (network_text layers)
files_of_gen layers _ = Absent

-- the program is not summed, or its summary is told
abbrev pub ComesToSummary : Program → Answer → Type 0
ComesToSummary program answer = ((why : Refusal) × IsNotSummed program why × (answer ≡ Refuses why)) ⊎ ((s : Summary) × IsSummaryOf program s × (answer ≡ Puts (joined (summary_lines s))))

-- read the text, run the program, build and simulate its circuit, sum up
abbrev pub MeansGen : Meaning
MeansGen gives = ReadsSource network_top (gives role.Source) ComesToSummary
