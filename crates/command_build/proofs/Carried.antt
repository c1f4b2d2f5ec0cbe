-- From what reading a source and writing its circuit give to how the command ends.
use Rattle.std.proofs.Common.{ℕ, List, [], None, Ok, Err, refl, inl, inr}
use Rattle.tapa_syntax.specs.declared.program.Program.{Program}
use Rattle.command_answers.specs.Answer.{Writes}
use Rattle.command_answers.specs.Ends.{End, ComesTo, IsCarriedOut}
use Rattle.command_answers.specs.Files.{Named, Asks}
use Rattle.command_answers.specs.Meaning.{end_at}
use Rattle.command_answers.specs.Outside.{Store, Written}
use Rattle.command_answers.specs.Steps.{Took, Wrote}
use Rattle.command_answers.specs.declared.file.File.TheVariants as role
use Rattle.command_answers.specs.declared.refusal.Refusal.{Refusal}
use Rattle.command_answers.proofs.FirstFile.{at, first_refused, first_comes, first_asked}
use Rattle.command_answers.proofs.Texts.{wrote}
use Rattle.command_source.specs.Means.{IsSourceFault}
use Rattle.command_source.specs.Source.{IsProgramOf}
use Rattle.command_build.specs.Built.{IsCircuitText}
use Rattle.command_build.specs.Means.{MeansBuild, files_of_build}

module _ (source top : List ℕ) (before after : Store) (asks : Asks before after (Named source)) (old : Written) where
  abbrev Gives : List ℕ → Program → Type 0
  Gives text program = IsProgramOf text top program

  pub no_program : (r : Refusal) → Took {A = Program} before after role.Source (Named source) (IsSourceFault top) Gives (Err r)
      → IsCarriedOut (files_of_build source) (MeansBuild top) (at before old) (at after old) (end_at r)
  no_program r took = first_refused (files_of_build source) (MeansBuild top) role.Source before after (IsSourceFault top) (λ gives why w. inl (why, w, refl)) (end_at r) took asks old

  pub built : (program : Program) → Took before after role.Source (Named source) (IsSourceFault top) Gives (Ok program) → (new : Written) (end : End)
      → Wrote (IsCircuitText program []) old new end → IsCarriedOut (files_of_build source) (MeansBuild top) (at before old) (at after new) end
  built program took new end h = record {
    ends =
        wrote (ComesTo (files_of_build source) (MeansBuild top) before after) (IsCircuitText program []) old new
        (λ told is.
        first_comes (files_of_build source) (MeansBuild top) role.Source before after Gives program (Writes told None) took
        (λ gives taken. inr (program, taken, (told, is, refl))))
        end h;
    reads = first_asked (files_of_build source) (MeansBuild top) role.Source before after (IsSourceFault top) (λ gives why w. inl (why, w, refl)) asks;
  }
