-- How carrying a command out ends, and how it leaves the outside.
use Rattle.std.specs.Prelude.{◌≡◌, ◌≢◌, ◌⊎◌, List, ℕ, Option, Some, None}
use Rattle.std.specs.Io.KnownBytes.{Appends}
use Rattle.tapa_files.specs.Outside.{Rose, AppendsPart}
use Rattle.command_answers.specs.Answer.{Answer, Puts, Writes, Refuses}
use Rattle.command_answers.specs.Files.{Held, Named, Given, Unread, IsGiven, AreGiven, most_of}
use Rattle.command_answers.specs.Outside.{Store, Written, Outside}
use Rattle.command_answers.specs.Refusal.{Refusal, Read}
use Rattle.command_answers.specs.declared.file.File.{File}

pub data End : Type 0 where
  Done : End
  Refused : (why : Refusal) → End
  -- a write of the output failed
  Unwritten : End
  -- memory ran out
  NoMemory : End
  -- the words are no command: no command that is carried out ends so
  Usage : End

-- what a command means: the answers that it may come to, by what its files give
abbrev pub Meaning : Type 1
Meaning = (File → Given) → Answer → Type 0

-- it comes to this answer by what its files gave in a call
abbrev pub ComesTo : (File → Held) → Meaning → Store → Store → Answer → Type 0
ComesTo held Means before after answer = (gives : File → Given) × AreGiven before after held gives × Means gives answer

-- a text that is written, and the refusal after it
abbrev pub Tells : (Answer → Type 0) → List ℕ → Option Refusal → Type 0
Tells Comes told why = Comes (Writes told why) ⊎ ((why ≡ None) × Comes (Puts told))

-- the output after each end: the whole text; the whole text or nothing, as the refusal's answer says; a part of a text, since a write
-- failed; and nothing, or a part of a text that is written while it is made
abbrev pub Ends : (Answer → Type 0) → Written → Written → End → Type 0
Ends Comes old new Done = (told : List ℕ) × Tells Comes told None × Appends old.bytes new.bytes told
Ends Comes old new (Refused why) = ((told : List ℕ) × Comes (Writes told (Some why)) × Appends old.bytes new.bytes told) ⊎ (Comes (Refuses why) × (new.bytes ≡ old.bytes))
Ends Comes old new Unwritten = Rose old.failed new.failed × ((told : List ℕ) × (why : Option Refusal) × Tells Comes told why × AppendsPart old.bytes new.bytes told)
Ends Comes old new NoMemory = (new.bytes ≡ old.bytes) ⊎ ((told : List ℕ) × (why : Option Refusal) × Comes (Writes told why) × AppendsPart old.bytes new.bytes told)
Ends Comes old new Usage = ⊥

-- a file of this name is reached: where it cannot be read and the others give what they give, the command comes to say so
pub record IsReached (held : File → Held) (Means : Meaning) (before after : Store) (name : List ℕ) : Type 0 where
  pub file : File
  pub is : held file ≡ Named name
  pub gives : File → Given
  pub unread : gives file ≡ Unread
  pub others : (other : File) → other ≢ file → IsGiven before after (held other) (most_of other) (gives other)
  pub means : Means gives (Refuses (Read file))

-- the files stay, and reads fail of no other name than those that are reached
pub record ReadsAsked (held : File → Held) (Means : Meaning) (before after : Store) : Type 0 where
  pub same_files : after.files ≡ before.files
  pub asked : (name : List ℕ) → (after.failed name ≡ before.failed name) ⊎ IsReached held Means before after name

-- a command with these files and this meaning was carried out, and ended so
pub record IsCarriedOut (held : File → Held) (Means : Meaning) (before after : Outside) (end : End) : Type 0 where
  pub ends : Ends (ComesTo held Means before.store after.store) before.out after.out end
  pub reads : ReadsAsked held Means before.store after.store
