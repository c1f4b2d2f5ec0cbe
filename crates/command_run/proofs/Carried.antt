-- From what reading a source and data and running the program give to how the command ends.
use Rattle.std.proofs.Common.{◌≡◌, ◌≢◌, ◌⊎◌, ℕ, List, Option, Some, None, Ok, Err, refl, inl, inr}
use Rattle.std.specs.Prelude.{Vec}
use Rattle.std.specs.declared.alloc.Global.{Global}
use Rattle.tapa_files.specs.Outside.{Rose}
use Rattle.tapa_files.specs.declared.fault.PrintFault.{PrintFault}
use Rattle.tapa_files.specs.declared.fault.PrintFault.TheVariants as print
use Rattle.tapa_syntax.specs.declared.program.Program.{Program}
use Rattle.tapa_syntax.specs.Shapes.{IsShapeOf}
use Rattle.run_data.specs.Lines.{lines_in}
use Rattle.net_core.specs.Bounded.{Values, values_of}
use Rattle.net_core.specs.declared.input.Input.{Input}
use Rattle.run_program.specs.Ending.{EndsSo, HasFront, HasPart}
use Rattle.run_program.specs.Laws.{RunMeaning, Done, Stopped, Limit, RunsAs}
use Rattle.run_program.specs.declared.run.RunEnd.TheVariants as run_end
use Rattle.command_answers.specs.Answer.{Writes}
use Rattle.command_answers.specs.Ends as ends
use Rattle.command_answers.specs.Ends.{ComesTo, ReadsAsked, IsCarriedOut}
use Rattle.command_answers.specs.Files.{Held, Named, Asks, data_held}
use Rattle.command_answers.specs.Meaning.{end_at, print_refusal}
use Rattle.command_answers.specs.Outside.{Store, Written}
use Rattle.command_answers.specs.Refusal as refusal
use Rattle.command_answers.specs.Steps.{Took}
use Rattle.command_answers.specs.declared.file.File.{File}
use Rattle.command_answers.specs.declared.file.File.TheVariants as role
use Rattle.command_answers.specs.declared.refusal.Refusal.{Refusal}
use Rattle.command_answers.proofs.FirstFile.{at, first_refused}
use Rattle.command_answers.proofs.FurtherFile.{further_refused, further_comes, further_asked}
use Rattle.command_answers.proofs.Taking.{took_also}
use Rattle.command_source.specs.Inputs.{GivesValues}
use Rattle.command_source.specs.Means.{IsSourceFault, IsDataFault}
use Rattle.command_source.specs.Source.{IsProgramOf}
use Rattle.command_run.specs.Means.{MeansRun, files_of_run, answer_of}

apart : role.Source ≢ role.Data
apart e = cc

module _ (source top : List ℕ) (named : Option (List ℕ)) (limit : ℕ) (before mid : Store) (asks : Asks before mid (Named source)) (old : Written) where
  abbrev held : File → Held
  held = files_of_run source named

  abbrev Gives : List ℕ → Program → Type 0
  Gives text program = IsProgramOf text top program

  pub no_program : (r : Refusal) → Took {A = Program} before mid role.Source (Named source) (IsSourceFault top) Gives (Err r)
      → IsCarriedOut (files_of_run source named) (MeansRun top limit) (at before old) (at mid old) (end_at r)
  no_program r took = first_refused held (MeansRun top limit) role.Source before mid (IsSourceFault top) (λ gives why w. inl (why, w, refl)) (end_at r) took asks old

  module _ (program : Program) (took : Took before mid role.Source (Named source) (IsSourceFault top) Gives (Ok program)) (after : Store) (asks_also : Asks mid after (data_held named)) where
    abbrev GivesInput : List ℕ → Input → Type 0
    GivesInput bytes input = GivesValues program bytes (values_of input)

    pub no_values : (r : Refusal) → Took {A = Input} mid after role.Data (data_held named) (IsDataFault (IsShapeOf program)) GivesInput (Err r)
        → IsCarriedOut (files_of_run source named) (MeansRun top limit) (at before old) (at after old) (end_at r)
    no_values r refused =
        further_refused held (MeansRun top limit) role.Source role.Data apart before mid after asks asks_also Gives program took (IsSourceFault top) (λ gives why w. inl (why, w, refl))
        (IsDataFault (IsShapeOf program)) (λ gives why taken w. inr (program, taken, inl (why, w, refl))) (end_at r) refused old

    asked : ReadsAsked held (MeansRun top limit) before after
    asked =
        further_asked held (MeansRun top limit) role.Source role.Data apart before mid after asks asks_also Gives program took (IsSourceFault top) (λ gives why w. inl (why, w, refl))
        (IsDataFault (IsShapeOf program)) (λ gives why taken w. inr (program, taken, inl (why, w, refl)))

    module _ (input : Input) (took_input : Took mid after role.Data (data_held named) (IsDataFault (IsShapeOf program)) GivesInput (Ok input)) (new : Written) where
      abbrev values : Values
      values = values_of input

      abbrev GivesThese : List ℕ → Values → Type 0
      GivesThese bytes these = GivesValues program bytes these

      comes : (how : RunMeaning) → RunsAs program values limit how → ComesTo held (MeansRun top limit) before after (answer_of limit how)
      comes how runs =
          further_comes held (MeansRun top limit) role.Source role.Data apart before mid after asks asks_also Gives program took GivesThese values (answer_of limit how)
          (took_also mid after role.Data (data_held named) (IsDataFault (IsShapeOf program)) (IsDataFault (IsShapeOf program)) GivesInput GivesThese input values (λ bytes g. g) took_input)
          (λ gives taken also. inr (program, taken, inr (values, also, (how, runs, refl))))

      pub done : EndsSo program values limit old.bytes new.bytes run_end.Done → IsCarriedOut (files_of_run source named) (MeansRun top limit) (at before old) (at after new) ends.Done
      done e = record { ends = (e.0, inl (comes (Done e.0) e.1), e.2); reads = asked }

      pub stopped : (lines : Vec (Vec ℕ Global) Global) → EndsSo program values limit old.bytes new.bytes (run_end.Stopped lines)
          → IsCarriedOut (files_of_run source named) (MeansRun top limit) (at before old) (at after new) (ends.Refused (refusal.Stopped (lines_in lines.items)))
      stopped lines e = record { ends = inl (e.0, comes (Stopped e.0 (lines_in lines.items)) e.1, e.2); reads = asked }

      pub past : EndsSo program values limit old.bytes new.bytes run_end.Limit → IsCarriedOut (files_of_run source named) (MeansRun top limit) (at before old) (at after new) (ends.Refused (refusal.Ticks limit))
      past e = record { ends = inr (comes Limit e.0, e.1); reads = asked }

      -- a report, with the refusal after it
      told : (report : List ℕ) → RunsAs program values limit (Done report) ⊎ ((lines : List (List ℕ)) × RunsAs program values limit (Stopped report lines))
          → (why : Option refusal.Refusal) × ComesTo held (MeansRun top limit) before after (Writes report why)
      told report (inl runs) = (None, comes (Done report) runs)
      told report (inr (lines, runs)) = (Some (refusal.Stopped lines), comes (Stopped report lines) runs)

      pub unwritten : Rose old.failed new.failed → HasFront program values limit old.bytes new.bytes → IsCarriedOut (files_of_run source named) (MeansRun top limit) (at before old) (at after new) ends.Unwritten
      unwritten rose (report, is, part) = let t = told report is in record { ends = (rose, (report, t.0, inl t.1, part)); reads = asked }

      pub no_memory : HasPart program values limit old.bytes new.bytes → IsCarriedOut (files_of_run source named) (MeansRun top limit) (at before old) (at after new) ends.NoMemory
      no_memory (inl same) = record { ends = inl same; reads = asked }
      no_memory (inr (report, is, part)) = let t = told report is in record { ends = inr (report, t.0, t.1, part); reads = asked }

      -- the report was not written whole, by why it was not
      pub not_run : (fault : PrintFault) → HasPart program values limit old.bytes new.bytes → (fault ≡ print.WriteFault → HasFront program values limit old.bytes new.bytes) → (fault ≡ print.WriteFault → Rose old.failed new.failed)
          → IsCarriedOut (files_of_run source named) (MeansRun top limit) (at before old) (at after new) (end_at (print_refusal fault))
      not_run print.WriteFault part front rose = unwritten (rose refl) (front refl)
      not_run print.OutOfMemory part front rose = no_memory part
