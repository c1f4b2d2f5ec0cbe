-- What the program answers.
use Rattle.std.specs.Prelude.{◌≡◌, ◌⊎◌, ℕ, List, [], Option, Some, None}
use Rattle.std.specs.Io.KnownBytes.{Appends}
use Rattle.tapa_files.specs.Outside.{Rose}
use Rattle.tapa_words.specs.Words.{Command, Asks, AskNothing}
use Rattle.tapa_words.specs.Parts.{OfCommand}
use Rattle.tapa_words.specs.declared.command.WordsFault.{WordsFault}
use Rattle.tapa_words.specs.declared.command.WordsFault.TheVariants as fault
use Rattle.command_answers.specs.Answer.{Answer, Puts, Writes, Refuses}
use Rattle.command_answers.specs.Ends.{End, Done, Refused, NoMemory, Usage, IsCarriedOut, ComesTo}
use Rattle.command_answers.specs.Files.{Held, Named, Absent}
use Rattle.command_answers.specs.Outside.{Outside, Written}
use Rattle.command_answers.specs.Told.{IsTold, IsToldAs, name_at}
use Rattle.command_answers.specs.declared.file.File.{File}
use Rattle.command_answers.specs.declared.status.Status.{Status}
use Rattle.command_answers.specs.declared.status.Status.TheVariants.{Ok, Memory}
use Rattle.tapa_drive.specs.Means.{held_of, Means}

-- what is told: nothing where the work is done; else the lines of the end, or a part of them where a write of them failed
abbrev pub IsReported : (File → Held) → End → Status → Written → Written → Type 0
IsReported held Done status errors told = (status ≡ Ok) × (told ≡ errors)
IsReported held end status errors told = IsToldAs (name_at held end) end status errors told

-- the end of words that could not be read
abbrev pub words_end : WordsFault → End
words_end fault.Usage = Usage
words_end fault.OutOfMemory = NoMemory

pub record IsAnswer (words : List (List ℕ)) (before after : Outside) (errors told : Written) (status : Status) : Type 0 where
  -- a command that the words ask for was carried out, and its end is reported; or they ask for none, or memory ran out before
  pub says :
      OfCommand words (λ c. (end : End) × IsCarriedOut (held_of c) (Means c) before after end × IsReported (held_of c) end status errors told)
      ⊎ ((after ≡ before) × ((AskNothing words × IsToldAs [] Usage status errors told) ⊎ IsToldAs [] NoMemory status errors told))

-- no write failed, and no read of a file of the command
pub record NothingFails (held : File → Held) (before after : Outside) (errors told : Written) : Type 0 where
  pub reads : (file : File) (name : List ℕ) → held file ≡ Named name → Rose (before.store.failed name) (after.store.failed name) → ⊥
  pub writes : Rose before.out.failed after.out.failed → ⊥
  pub tells : Rose errors.failed told.failed → ⊥

-- the answer is on the output whole, and its refusal is told whole
abbrev pub IsWhole : (File → Held) → Answer → Status → Written → Written → Written → Written → Type 0
IsWhole held (Puts text) status old new errors told = (status ≡ Ok) × Appends old.bytes new.bytes text × (told ≡ errors)
IsWhole held (Writes text None) status old new errors told = (status ≡ Ok) × Appends old.bytes new.bytes text × (told ≡ errors)
IsWhole held (Writes text (Some why)) status old new errors told = IsTold (name_at held (Refused why)) (Refused why) status errors told × Appends old.bytes new.bytes text
IsWhole held (Refuses why) status old new errors told = IsTold (name_at held (Refused why)) (Refused why) status errors told × (new.bytes ≡ old.bytes)

pub record IsDecided (words : List (List ℕ)) (before after : Outside) (errors told : Written) (status : Status) : Type 0 where
  -- the answer that the command comes to by its files is told whole, or memory ran out
  pub command : (c : Command) → Asks words c → NothingFails (held_of c) before after errors told
      → ((answer : Answer) × ComesTo (held_of c) (Means c) before.store after.store answer × IsWhole (held_of c) answer status before.out after.out errors told) ⊎ (status ≡ Memory)
  pub usage : AskNothing words → NothingFails (λ file. Absent) before after errors told
      → (IsTold [] Usage status errors told × (after.out.bytes ≡ before.out.bytes)) ⊎ (status ≡ Memory)
