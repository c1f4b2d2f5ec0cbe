-- From what reading a Verilog text and its data and running its design give to how the command ends.
use Rattle.std.proofs.Common.{◌≡◌, ◌≢◌, ℕ, List, Option, Some, None, Ok, refl, inl, inr}
use Rattle.tapa_files.specs.Outside.{Rose}
use Rattle.tapa_files.specs.declared.fault.PrintFault.{PrintFault}
use Rattle.tapa_files.specs.declared.fault.PrintFault.TheVariants as print
use Rattle.vlog_design.specs.Designs.{DesignTree}
use Rattle.vlog_design.specs.Environments.{environment_of}
use Rattle.vlog_design.specs.declared.env.Env.{Env}
use Rattle.vlog_tree.specs.Environment.{Environment}
use Rattle.sim_output.specs.Ending.{EndsSo, HasFront, HasPart}
use Rattle.sim_output.specs.declared.run.DesignEnd.TheVariants as design_end
use Rattle.tapa_words.specs.declared.command.CosimAim.{CosimAim}
use Rattle.command_answers.specs.Answer.{Answer, Writes, IsRefusedFile}
use Rattle.command_answers.specs.Ends.{End, Done, Refused, Ends, ComesTo, IsCarriedOut, ReadsAsked}
use Rattle.command_answers.specs.Files.{Named, Given, IsGiven, Asks, data_held, most_of}
use Rattle.command_answers.specs.Meaning.{end_at, print_refusal}
use Rattle.command_answers.specs.Outside.{Store, Written}
use Rattle.command_answers.specs.Refusal.{Undone}
use Rattle.command_answers.specs.Steps.{Fails, Took}
use Rattle.command_answers.specs.declared.file.File.TheVariants as role
use Rattle.command_answers.proofs.FirstFile.{at, first_refused}
use Rattle.command_answers.proofs.FurtherFile.{further_refused, further_comes, further_asked}
use Rattle.command_answers.proofs.Taking.{taken_also}
use Rattle.command_source.specs.Means.{IsDataFault}
use Rattle.command_cosim.specs.Designs.{IsDesignOf, IsShapeIn, GivesEnvironment, IsToldFor}
use Rattle.command_cosim.specs.Means.{IsTextFault, MeansCosim, files_of_cosim, unless_done}

apart : role.Text ≢ role.Data
apart e = cc

module _ (text : List ℕ) (named : Option (List ℕ)) (limit : ℕ) (aim : CosimAim) (before mid : Store) (asks : Asks before mid (Named text)) (old : Written) where
  abbrev Gives : List ℕ → DesignTree → Type 0
  Gives bytes design = IsDesignOf bytes design

  -- the text is refused
  pub no_design : (end : End) → Fails (λ why. (given : Given) × IsGiven before mid (Named text) (most_of role.Text) given × IsRefusedFile role.Text given IsTextFault why) end
      → IsCarriedOut (files_of_cosim text named) (MeansCosim limit aim) (at before old) (at mid old) end
  no_design end h = first_refused (files_of_cosim text named) (MeansCosim limit aim) role.Text before mid IsTextFault (λ gives why w. inl (why, w, refl)) end h asks old

  module _ (design : DesignTree) (took : Took before mid role.Text (Named text) IsTextFault Gives (Ok design)) (after : Store) (asks_also : Asks mid after (data_held named)) where
    abbrev GivesData : List ℕ → Env → Type 0
    GivesData bytes env = GivesEnvironment design bytes (environment_of env)

    -- the data are refused
    pub no_data : (end : End) → Fails (λ why. (given : Given) × IsGiven mid after (data_held named) (most_of role.Data) given × IsRefusedFile role.Data given (IsDataFault (IsShapeIn design)) why) end
        → IsCarriedOut (files_of_cosim text named) (MeansCosim limit aim) (at before old) (at after old) end
    no_data end h =
        further_refused (files_of_cosim text named) (MeansCosim limit aim) role.Text role.Data apart before mid after asks asks_also Gives design took IsTextFault (λ gives why w. inl (why, w, refl))
        (IsDataFault (IsShapeIn design)) (λ gives why taken w. inr (design, taken, inl (why, w, refl))) end h old

    asked : ReadsAsked (files_of_cosim text named) (MeansCosim limit aim) before after
    asked =
        further_asked (files_of_cosim text named) (MeansCosim limit aim) role.Text role.Data apart before mid after asks asks_also Gives design took IsTextFault (λ gives why w. inl (why, w, refl))
        (IsDataFault (IsShapeIn design)) (λ gives why taken w. inr (design, taken, inl (why, w, refl)))

    module _ (env : Env) (took_data : Took mid after role.Data (data_held named) (IsDataFault (IsShapeIn design)) GivesData (Ok env)) (new : Written) where
      abbrev Comes : Answer → Type 0
      Comes = ComesTo (files_of_cosim text named) (MeansCosim limit aim) before after

      abbrev Tells : Option ℕ → List ℕ → Type 0
      Tells done_at told = IsToldFor aim design (environment_of env) limit done_at told

      comes : (done_at : Option ℕ) (told : List ℕ) → Tells done_at told → Comes (Writes told (unless_done limit done_at))
      comes done_at told is =
          further_comes (files_of_cosim text named) (MeansCosim limit aim) role.Text role.Data apart before mid after asks asks_also Gives design took
          GivesData env (Writes told (unless_done limit done_at)) took_data
          (λ gives taken also.
          inr (design, taken, inr (environment_of env, taken_also GivesData (λ (bytes : List ℕ) (e : Environment). GivesEnvironment design bytes e) env (environment_of env) (λ bytes h. h) (gives role.Data) also, (done_at, told, is, refl))))

      abbrev IsEnded : End → Type 0
      IsEnded end = IsCarriedOut (files_of_cosim text named) (MeansCosim limit aim) (at before old) (at after new) end

      pub done : EndsSo (IsToldFor aim) design (environment_of env) limit old.bytes new.bytes design_end.Done → IsEnded Done
      done (done_at, told, is, a) = record { ends = (told, inl (comes (Some done_at) told is), a); reads = asked }

      pub running : EndsSo (IsToldFor aim) design (environment_of env) limit old.bytes new.bytes design_end.Running → IsEnded (Refused (Undone limit))
      running (told, is, a) = record { ends = inl (told, comes None told is, a); reads = asked }

      part : HasPart (IsToldFor aim) design (environment_of env) limit old.bytes new.bytes → Ends Comes old new (end_at (print_refusal print.OutOfMemory))
      part (inl same) = inl same
      part (inr (done_at, told, is, p)) = inr (told, unless_done limit done_at, comes done_at told is, p)

      pub unwritten : (fault : PrintFault) → (fault ≡ print.WriteFault → Rose old.failed new.failed) → (fault ≡ print.WriteFault → HasFront (IsToldFor aim) design (environment_of env) limit old.bytes new.bytes)
          → HasPart (IsToldFor aim) design (environment_of env) limit old.bytes new.bytes → IsEnded (end_at (print_refusal fault))
      unwritten print.WriteFault rose front h =
          let w = front refl in
          record { ends = (rose refl, (w.1, unless_done limit w.0, inl (comes w.0 w.1 w.2), w.3)); reads = asked }
      unwritten print.OutOfMemory rose front h = record { ends = part h; reads = asked }
