-- From what reading a dump and writing the lines of a net give to how the command ends.
use Rattle.std.proofs.Common.{◌≡◌, ℕ, List, Vec, Ok, Err, refl, ap, inl, inr}
use Rattle.std.specs.declared.alloc.Global.{Global}
use Rattle.vcd_text.specs.NetLines.{IsNetShown}
use Rattle.command_answers.specs.Answer.{Puts}
use Rattle.command_answers.specs.Ends.{End, ComesTo, IsCarriedOut}
use Rattle.command_answers.specs.Files.{Named, Asks}
use Rattle.command_answers.specs.Meaning.{end_at}
use Rattle.command_answers.specs.Outside.{Store, Written}
use Rattle.command_answers.specs.Steps.{Took, WroteWhole}
use Rattle.command_answers.specs.declared.file.File.TheVariants as role
use Rattle.command_answers.specs.declared.refusal.Refusal.{Refusal}
use Rattle.command_answers.proofs.FirstFile.{at, first_refused, first_comes, first_asked}
use Rattle.command_answers.proofs.Taking.{taken_also}
use Rattle.command_answers.proofs.Texts.{wrote_whole}
use Rattle.command_vcd.specs.Means.{IsDumpFault, MeansVcd, files_of_vcd}

module _ (file net : List ℕ) (before after : Store) (asks : Asks before after (Named file)) (old : Written) where
  abbrev Shows : List ℕ → Vec ℕ Global → Type 0
  Shows text told = IsNetShown text net told.items

  pub no_lines : (r : Refusal) → Took {A = Vec ℕ Global} before after role.Dump (Named file) (IsDumpFault net) Shows (Err r) → IsCarriedOut (files_of_vcd file) (MeansVcd net) (at before old) (at after old) (end_at r)
  no_lines r took = first_refused (files_of_vcd file) (MeansVcd net) role.Dump before after (IsDumpFault net) (λ gives why w. inl (why, w, refl)) (end_at r) took asks old

  pub written_out : (told : Vec ℕ Global) → Took before after role.Dump (Named file) (IsDumpFault net) Shows (Ok told) → (new : Written) (end : End)
      → WroteWhole (λ text. text ≡ told.items) old new end → IsCarriedOut (files_of_vcd file) (MeansVcd net) (at before old) (at after new) end
  written_out told took new end h = record {
    ends =
        wrote_whole (ComesTo (files_of_vcd file) (MeansVcd net) before after) (λ text. text ≡ told.items) old new
        (λ text is.
        first_comes (files_of_vcd file) (MeansVcd net) role.Dump before after Shows told (Puts text) took
        (λ gives taken. inr (told.items, taken_also Shows (λ bytes l. IsNetShown bytes net l) told told.items (λ bytes k. k) (gives role.Dump) taken, ap Puts is)))
        end h;
    reads = first_asked (files_of_vcd file) (MeansVcd net) role.Dump before after (IsDumpFault net) (λ gives why w. inl (why, w, refl)) asks;
  }
