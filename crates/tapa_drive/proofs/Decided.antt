-- Where nothing outside fails, an answer is decided.
use Rattle.std.proofs.Common.{◌≡◌, ◌⊎◌, ℕ, List, [], Option, Some, None, refl, ap, subst, inl, inr}
use Rattle.tapa_words.specs.Words.{Command, Asks, AskNothing}
use Rattle.tapa_words.specs.Parts.{OfCommand}
use Rattle.tapa_words.proofs.Asked.{asks_one}
use Rattle.command_answers.specs.declared.status.Status.{Status}
use Rattle.command_answers.specs.declared.status.Status.TheVariants as status
use Rattle.command_answers.specs.Answer.{Answer, Puts, Writes, Refuses}
use Rattle.command_answers.specs.Ends.{End, Done, Refused, Unwritten, NoMemory, Usage, Ends, IsCarriedOut, ComesTo}
use Rattle.command_answers.specs.Files.{Absent}
use Rattle.tapa_drive.specs.Means.{held_of, Means}
use Rattle.command_answers.specs.Outside.{Outside, Written}
use Rattle.command_answers.specs.Told.{IsTold, IsToldAs, name_at}
use Rattle.tapa_drive.specs.Answer.{IsReported, IsAnswer, NothingFails, IsWhole, IsDecided}

module _ (words : List (List ℕ)) (before after : Outside) (errors told : Written) (result : Status) where
  module _ (c : Command) (asked : Asks words c) (still : NothingFails (held_of c) before after errors told) where
    abbrev Meets : Type 0
    Meets = ((answer : Answer) × ComesTo (held_of c) (Means c) before.store after.store answer × IsWhole (held_of c) answer result before.out after.out errors told) ⊎ (result ≡ status.Memory)

    whole : (name : List ℕ) (end : End) → IsToldAs name end result errors told → IsTold name end result errors told
    whole name end (inl t) = t
    whole name end (inr w) = absurd (still.tells w.1)

    of_end : (end : End) → Ends (ComesTo (held_of c) (Means c) before.store after.store) before.out after.out end → IsReported (held_of c) end result errors told → Meets
    of_end Done (text, inl w, a) r = inl (Writes text None, w, (r.0, a, r.1))
    of_end Done (text, inr w, a) r = inl (Puts text, w.1, (r.0, a, r.1))
    of_end (Refused why) (inl (text, w, a)) r = inl (Writes text (Some why), w, (whole (name_at (held_of c) (Refused why)) (Refused why) r, a))
    of_end (Refused why) (inr (w, q)) r = inl (Refuses why, w, (whole (name_at (held_of c) (Refused why)) (Refused why) r, q))
    of_end Unwritten e r = absurd (still.writes e.0)
    of_end NoMemory e r = inr (whole [] NoMemory r).0
    of_end Usage e r = absurd e

    abbrev Carried : Command → Type 0
    Carried d = (end : End) × IsCarriedOut (held_of d) (Means d) before after end × IsReported (held_of d) end result errors told

    carried : OfCommand words Carried → Meets
    carried w = let x = subst Carried (asks_one words w.0 c w.1 asked) w.2 in of_end x.0 x.1.ends x.2

    pub of_command : IsAnswer words before after errors told result → Meets
    of_command h = elim h.says [
      | inl w ↦ carried w
      | inr w ↦ (elim w.1 [ inl n ↦ absurd (n.0 c asked) | inr m ↦ inr (whole [] NoMemory m).0 ])
    ]

  module _ (none : AskNothing words) (still : NothingFails (λ file. Absent) before after errors told) where
    told_whole : (end : End) → IsToldAs [] end result errors told → IsTold [] end result errors told
    told_whole end (inl t) = t
    told_whole end (inr w) = absurd (still.tells w.1)

    pub of_usage : IsAnswer words before after errors told result → (IsTold [] Usage result errors told × (after.out.bytes ≡ before.out.bytes)) ⊎ (result ≡ status.Memory)
    of_usage h = elim h.says [
      | inl w ↦ absurd (none w.0 w.1)
      | inr w ↦ (elim w.1 [ inl n ↦ inl (told_whole Usage n.1, ap (λ (o : Outside). o.out.bytes) w.0) | inr m ↦ inr (told_whole NoMemory m).0 ])
    ]

pub decided : (words : List (List ℕ)) (before after : Outside) (errors told : Written) (result : Status) → IsAnswer words before after errors told result → IsDecided words before after errors told result
decided words before after errors told result h = record {
  command = λ c asked still. of_command words before after errors told result c asked still h;
  usage = λ none still. of_usage words before after errors told result none still h;
}
