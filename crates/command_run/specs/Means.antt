-- What the command `run` means: a report of the program of a source on its data, or why there is none.
use Rattle.std.specs.Prelude.{◌≡◌, ℕ, List, Option, Some, None}
use Rattle.tapa_syntax.specs.declared.program.Program.{Program}
use Rattle.tapa_syntax.specs.Shapes.{IsShapeOf}
use Rattle.net_core.specs.Bounded.{Values}
use Rattle.run_program.specs.Laws.{RunMeaning, Done, Stopped, Limit, RunsAs}
use Rattle.command_answers.specs.Answer.{Answer, Writes, Refuses}
use Rattle.command_answers.specs.Ends.{Meaning}
use Rattle.command_answers.specs.Files.{Held, Named, Absent, data_held}
use Rattle.command_answers.specs.Refusal as refusal
use Rattle.command_answers.specs.declared.file.File.{File}
use Rattle.command_answers.specs.declared.file.File.TheVariants as role
use Rattle.command_source.specs.Inputs.{GivesValues}
use Rattle.command_source.specs.Means.{ReadsSource, ReadsData}

abbrev pub files_of_run : List ℕ → Option (List ℕ) → File → Held
files_of_run source input role.Source = Named source
files_of_run source input role.Data = data_held input
files_of_run source input _ = Absent

-- the answer to a run: its report; its report, and what its instances wait for; or that it passed its limit
abbrev pub answer_of : ℕ → RunMeaning → Answer
answer_of limit (Done report) = Writes report None
answer_of limit (Stopped report lines) = Writes report (Some (refusal.Stopped lines))
answer_of limit Limit = Refuses (refusal.Ticks limit)

-- the program runs on its values in a way, which is answered
abbrev pub ComesToRun : ℕ → Program → Values → Answer → Type 0
ComesToRun limit program values answer = (how : RunMeaning) × RunsAs program values limit how × (answer ≡ answer_of limit how)

-- read the source, read the data, run, report
abbrev pub MeansRun : List ℕ → ℕ → Meaning
MeansRun top limit gives =
    ReadsSource top (gives role.Source) (λ program. ReadsData (IsShapeOf program) (gives role.Data) (λ bytes values. GivesValues program bytes values) (ComesToRun limit program))
