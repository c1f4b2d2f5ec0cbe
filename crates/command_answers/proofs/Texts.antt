-- From the texts that steps write, and why they fail, to how a command ends.
use Rattle.std.proofs.Common.{◌≡◌, ℕ, List, None, inl, inr, refl}
use Rattle.tapa_files.specs.Outside.{Rose, AppendsPart}
use Rattle.tapa_files.specs.declared.fault.PrintFault.{PrintFault}
use Rattle.tapa_files.specs.declared.fault.PrintFault.TheVariants as print
use Rattle.command_answers.specs.Answer.{Answer, Puts, Writes, Refuses}
use Rattle.command_answers.specs.Ends.{End, Done, Refused, Unwritten, NoMemory, Usage, Ends}
use Rattle.command_answers.specs.Meaning.{end_at, print_refusal}
use Rattle.command_answers.specs.Outside.{Written}
use Rattle.command_answers.specs.Refusal.{Refusal}
use Rattle.command_answers.specs.Steps.{Fails, Wrote, WroteWhole}

module _ (Told Also : List ℕ → Type 0) (also : (told : List ℕ) → Told told → Also told) (old new : Written) where
  -- what holds of the text holds of it in other words
  pub wrote_also : (end : End) → Wrote Told old new end → Wrote Also old new end
  wrote_also Done (told, t, a) = (told, also told t, a)
  wrote_also Unwritten (rose, (told, t, p)) = (rose, (told, also told t, p))
  wrote_also NoMemory (inl same) = inl same
  wrote_also NoMemory (inr (told, t, p)) = inr (told, also told t, p)
  wrote_also (Refused why) h = absurd h
  wrote_also Usage h = absurd h

module _ (Comes : Answer → Type 0) (Told : List ℕ → Type 0) (old new : Written) where
  -- a command that writes a text while it is made
  pub wrote : ((told : List ℕ) → Told told → Comes (Writes told None)) → (end : End) → Wrote Told old new end → Ends Comes old new end
  wrote f Done (told, t, a) = (told, inl (f told t), a)
  wrote f Unwritten (rose, (told, t, p)) = (rose, (told, None, inl (f told t), p))
  wrote f NoMemory (inl same) = inl same
  wrote f NoMemory (inr (told, t, p)) = inr (told, None, f told t, p)
  wrote f (Refused why) h = absurd h
  wrote f Usage h = absurd h

  -- a command that writes a text once all of it is made
  pub wrote_whole : ((told : List ℕ) → Told told → Comes (Puts told)) → (end : End) → WroteWhole Told old new end → Ends Comes old new end
  wrote_whole f Done (told, t, a) = (told, inr (refl, f told t), a)
  wrote_whole f Unwritten (rose, (told, t, p)) = (rose, (told, None, inr (refl, f told t), p))
  wrote_whole f NoMemory same = inl same
  wrote_whole f (Refused why) h = absurd h
  wrote_whole f Usage h = absurd h

-- a command that is refused before it writes
pub fails : (Comes : Answer → Type 0) (Is : Refusal → Type 0) → ((why : Refusal) → Is why → Comes (Refuses why)) → (end : End) → Fails Is end → (out : Written) → Ends Comes out out end
fails Comes Is f (Refused why) h out = inr (f why h, refl)
fails Comes Is f NoMemory h out = inl refl
fails Comes Is f Done h out = absurd h
fails Comes Is f Unwritten h out = absurd h
fails Comes Is f Usage h out = absurd h

-- a text of which a part was printed, by why not all of it was
pub part_printed : (Told : List ℕ → Type 0) (old new : Written) (told : List ℕ) → Told told → AppendsPart old.bytes new.bytes told → (fault : PrintFault)
    → (fault ≡ print.WriteFault → Rose old.failed new.failed) → Wrote Told old new (end_at (print_refusal fault))
part_printed Told old new told is part print.WriteFault rose = (rose refl, (told, is, part))
part_printed Told old new told is part print.OutOfMemory rose = inr (told, is, part)
