-- From how a command was carried out and told to what the program answers.
use Rattle.std.proofs.Common.{◌≡◌, ◌≢◌, ◌⊎◌, ℕ, List, [], Option, Some, refl, sym, subst, ◌∙◌, inl, inr}
use Rattle.std.proofs.lemmas.List.{append-nil}
use Rattle.tapa_words.specs.Words.{Command, Asks, AskNothing}
use Rattle.tapa_words.specs.Meaning.{IsRefusedBy, command}
use Rattle.tapa_words.specs.declared.command.Command.{Command as CodeCommand}
use Rattle.tapa_words.specs.declared.command.WordsFault.{WordsFault}
use Rattle.tapa_words.specs.declared.command.WordsFault.TheVariants as fault
use Rattle.command_answers.specs.Ends.{End, Done, Refused, Unwritten, NoMemory, Usage, Ends, IsCarriedOut, ComesTo}
use Rattle.command_answers.specs.Outside.{Outside, Written}
use Rattle.command_answers.specs.Refusal as why
use Rattle.command_answers.specs.Refusal.{Refusal}
use Rattle.command_answers.specs.Told.{IsToldAs, IsFixed, name_at, status_of}
use Rattle.command_answers.specs.declared.status.Status.{Status}
use Rattle.command_answers.specs.declared.status.Status.TheVariants.{Ok, Write}
use Rattle.tapa_drive.specs.Answer.{IsReported, IsAnswer, words_end}
use Rattle.tapa_drive.specs.Means.{held_of, Means}

-- a command was carried out, and so the same one was by its parts
pub carried_as : (c d : CodeCommand) (before after : Outside) (end : End) → c ≡ d → IsCarriedOut (held_of (command d)) (Means (command d)) before after end → IsCarriedOut (held_of (command c)) (Means (command c)) before after end
carried_as c d before after end e h = subst (λ (x : CodeCommand). IsCarriedOut (held_of (command x)) (Means (command x)) before after end) (sym e) h

write_is_not_ok : Write ≢ Ok
write_is_not_ok e = cc

-- an end that is not done work is not told by the status of done work
not_ok : (name : List ℕ) (end : End) (s : Status) (old new : Written) → status_of end ≢ Ok → IsToldAs name end s old new → s ≢ Ok
not_ok name end s old new other (inl t) e = other (sym t.0 ∙ e)
not_ok name end s old new other (inr t) e = write_is_not_ok (sym t.0 ∙ e)

memory_is_not_ok : status_of NoMemory ≢ Ok
memory_is_not_ok e = cc

usage_is_not_ok : status_of Usage ≢ Ok
usage_is_not_ok e = cc

pub refused_is_not_ok : (name : List ℕ) (end : End) (s : Status) (old new : Written) → status_of end ≢ Ok → IsToldAs name end s old new ⊎ IsToldAs [] NoMemory s old new → s ≢ Ok
refused_is_not_ok name end s old new other (inl t) e = not_ok name end s old new other t e
refused_is_not_ok name end s old new other (inr t) e = not_ok [] NoMemory s old new memory_is_not_ok t e

pub words_are_not_ok : (f : WordsFault) (s : Status) (old new : Written) → IsToldAs [] (words_end f) s old new → s ≢ Ok
words_are_not_ok fault.Usage s old new t e = not_ok [] Usage s old new usage_is_not_ok t e
words_are_not_ok fault.OutOfMemory s old new t e = not_ok [] NoMemory s old new memory_is_not_ok t e

module _ (words : List (List ℕ)) (before after : Outside) (errors told : Written) (result : Status) where
  -- the words could not be read
  pub refused_words : (f : WordsFault) → IsRefusedBy words f → after ≡ before → IsToldAs [] (words_end f) result errors told → IsAnswer words before after errors told result
  refused_words fault.Usage none same t = record { says = inr (same, inl (none, t)) }
  refused_words fault.OutOfMemory none same t = record { says = inr (same, inr t) }

  module _ (c : Command) (asked : Asks words c) where
    -- the work is done
    pub answered_done : IsCarriedOut (held_of c) (Means c) before after Done → result ≡ Ok → told ≡ errors → IsAnswer words before after errors told result
    answered_done carried ok none = record { says = inl (c, asked, (Done, carried, (ok, none))) }

    abbrev Name : End → List ℕ
    Name end = name_at (held_of c) end

    no_memory : (end : End) → end ≢ Unwritten → IsCarriedOut (held_of c) (Means c) before after end → end ≢ Done → Ends (ComesTo (held_of c) (Means c) before.store after.store) before.out after.out NoMemory
    no_memory (Refused w) apart carried other = elim carried.ends [
      | inl (text, comes, a) ↦ inr (text, Some w, comes, (text, [], sym (append-nil text), a))
      | inr (comes, same) ↦ inl same
    ]
    no_memory NoMemory apart carried other = carried.ends
    no_memory Unwritten apart carried other = absurd (apart refl)
    no_memory Done apart carried other = absurd (other refl)
    no_memory Usage apart carried other = absurd carried.ends

    told_so : (end : End) → end ≢ Done → IsCarriedOut (held_of c) (Means c) before after end → IsToldAs (Name end) end result errors told → IsAnswer words before after errors told result
    told_so (Refused w) other carried t = record { says = inl (c, asked, (Refused w, carried, t)) }
    told_so Unwritten other carried t = record { says = inl (c, asked, (Unwritten, carried, t)) }
    told_so NoMemory other carried t = record { says = inl (c, asked, (NoMemory, carried, t)) }
    told_so Done other carried t = absurd (other refl)
    told_so Usage other carried t = absurd carried.ends

    told_less : (end : End) → end ≢ Done → end ≢ Unwritten → IsCarriedOut (held_of c) (Means c) before after end → IsToldAs [] NoMemory result errors told → IsAnswer words before after errors told result
    told_less end other apart carried t =
        record { says = inl (c, asked, (NoMemory, record { ends = no_memory end apart carried other; reads = carried.reads }, t)) }

    -- the work is refused
    pub answered_refused : (end : End) → end ≢ Done → IsCarriedOut (held_of c) (Means c) before after end → IsToldAs (Name end) end result errors told ⊎ IsToldAs [] NoMemory result errors told
        → (IsFixed end → IsToldAs (Name end) end result errors told) → IsAnswer words before after errors told result
    answered_refused end other carried (inl t) fixed = told_so end other carried t
    answered_refused Unwritten other carried (inr t) fixed = told_so Unwritten other carried (fixed tt)
    answered_refused (Refused w) other carried (inr t) fixed = told_less (Refused w) other (λ e. absurd cc) carried t
    answered_refused NoMemory other carried (inr t) fixed = told_less NoMemory other (λ e. absurd cc) carried t
    answered_refused Done other carried (inr t) fixed = absurd (other refl)
    answered_refused Usage other carried (inr t) fixed = absurd carried.ends
