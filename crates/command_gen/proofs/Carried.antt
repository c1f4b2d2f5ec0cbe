-- From what the program of a generated network gives to how the command ends.
use Rattle.std.proofs.Common.{◌≡◌, ℕ, List, codes, refl, ap, inl, inr, le_refl}
use Rattle.tapa_syntax.specs.declared.program.Program.{Program}
use Rattle.run_data.specs.Lines.{joined}
use Rattle.command_answers.specs.Answer.{Answer, Puts, Refuses, IsTaken}
use Rattle.command_answers.specs.Ends.{End, ComesTo, ReadsAsked, IsCarriedOut}
use Rattle.command_answers.specs.Files.{Made, Given, Bytes, IsGiven, Asks, most_of}
use Rattle.command_answers.specs.Outside.{Store, Written}
use Rattle.command_answers.specs.Steps.{Fails, WroteWhole}
use Rattle.command_answers.specs.declared.file.File.TheVariants as role
use Rattle.command_answers.proofs.FirstFile.{at, first_refused, first_comes, first_asked}
use Rattle.command_answers.proofs.Taking.{fails_also}
use Rattle.command_answers.proofs.Texts.{fails, wrote_whole}
use Rattle.command_source.specs.Means.{IsSourceFault}
use Rattle.command_source.specs.Source.{IsProgramOf}
use Rattle.command_gen.specs.Layers.{network_text, network_top}
use Rattle.command_gen.specs.Means.{MeansGen, files_of_gen}
use Rattle.command_gen.specs.Network.{IsNotSummed, IsSummaryOf}
use Rattle.command_gen.specs.Summaries.{summary_lines}
use Rattle.command_gen.specs.declared.lines.Summary.{Summary}

module _ (layers : ℕ) (store : Store) (old : Written) where
  abbrev Gives : List ℕ → Program → Type 0
  Gives text program = IsProgramOf text network_top program

  -- no file is asked for
  asks : Asks store store (Made (codes "gen") (network_text layers))
  asks = record { same_files = refl; later = λ name. le_refl (store.failed name); others = λ name n. refl }

  asked : ReadsAsked (files_of_gen layers) MeansGen store store
  asked = first_asked (files_of_gen layers) MeansGen role.Source store store (IsSourceFault network_top) (λ gives why w. inl (why, w, refl)) asks

  -- the text has no program
  pub no_network : (end : End) → Fails (IsSourceFault network_top (network_text layers)) end → IsCarriedOut (files_of_gen layers) MeansGen (at store old) (at store old) end
  no_network end h =
      first_refused (files_of_gen layers) MeansGen role.Source store store (IsSourceFault network_top) (λ gives why w. inl (why, w, refl)) end
      (fails_also (IsSourceFault network_top (network_text layers)) _ (λ why w. (Bytes (network_text layers), refl, w)) end h) asks old

  module _ (program : Program) (means : IsProgramOf (network_text layers) network_top program) where
    taken : (given : Given) × IsGiven store store (files_of_gen layers role.Source) (most_of role.Source) given × IsTaken given Gives program
    taken = (Bytes (network_text layers), refl, means)

    abbrev Comes : Answer → Type 0
    Comes = ComesTo (files_of_gen layers) MeansGen store store

    pub not_summed : (end : End) → Fails (IsNotSummed program) end → IsCarriedOut (files_of_gen layers) MeansGen (at store old) (at store old) end
    not_summed end h = record {
      ends =
          fails Comes (IsNotSummed program)
          (λ why w. first_comes (files_of_gen layers) MeansGen role.Source store store Gives program (Refuses why) taken (λ gives t. inr (program, t, inl (why, w, refl)))) end h old;
      reads = asked;
    }

    pub summed : (s : Summary) → IsSummaryOf program s → (new : Written) (end : End) → WroteWhole (λ text. text ≡ joined (summary_lines s)) old new end
        → IsCarriedOut (files_of_gen layers) MeansGen (at store old) (at store new) end
    summed s is new end h = record {
      ends =
          wrote_whole Comes (λ text. text ≡ joined (summary_lines s)) old new
          (λ told e. first_comes (files_of_gen layers) MeansGen role.Source store store Gives program (Puts told) taken (λ gives t. inr (program, t, inr (s, is, ap Puts e)))) end h;
      reads = asked;
    }
