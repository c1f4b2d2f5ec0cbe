-- How a run leaves the output.
use Rattle.std.specs.Prelude.{◌≡◌, ◌⊎◌, ℕ, List, Option}
use Rattle.std.specs.Io.KnownBytes.{Appends}
use Rattle.tapa_files.specs.Outside.{AppendsPart}
use Rattle.tapa_syntax.specs.declared.program.Program.{Program}
use Rattle.run_data.specs.Lines.{lines_in}
use Rattle.net_core.specs.Bounded.{Values}
use Rattle.run_program.specs.Run.{DoneRun, StoppedRun, LimitRun}
use Rattle.run_program.specs.declared.run.RunEnd.{RunEnd}
use Rattle.run_program.specs.declared.run.RunEnd.TheVariants.{Done, Stopped, Limit}

-- the run ended in this way, and its report was written; where it passed its limit nothing was
abbrev pub EndsSo : Program → Values → ℕ → Option (List ℕ) → Option (List ℕ) → RunEnd → Type 0
EndsSo program values limit old new Done = (report : List ℕ) × DoneRun program values limit report × Appends old new report
EndsSo program values limit old new (Stopped lines) = (report : List ℕ) × StoppedRun program values limit report (lines_in lines.items) × Appends old new report
EndsSo program values limit old new Limit = LimitRun program values limit × (new ≡ old)

-- a report of a run of the program
abbrev pub IsReportOf : Program → Values → ℕ → List ℕ → Type 0
IsReportOf program values limit report = DoneRun program values limit report ⊎ ((lines : List (List ℕ)) × StoppedRun program values limit report lines)

-- a prefix of a report was written, which may be empty
abbrev pub HasFront : Program → Values → ℕ → Option (List ℕ) → Option (List ℕ) → Type 0
HasFront program values limit old new = (report : List ℕ) × IsReportOf program values limit report × AppendsPart old new report

-- nothing was written, or a prefix of a report
abbrev pub HasPart : Program → Values → ℕ → Option (List ℕ) → Option (List ℕ) → Type 0
HasPart program values limit old new = (new ≡ old) ⊎ HasFront program values limit old new
