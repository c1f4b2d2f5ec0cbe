-- The files that a command reads, by what they are to it, and what reading one gives.
use Rattle.std.specs.Prelude.{◌≡◌, ◌≢◌, ◌≤◌, ℕ, List, [], length, codes, Option, Some, None}
use Rattle.tapa_files.specs.Outside.{Rose}
use Rattle.tapa_files.specs.Take.{IsFileOf, IsLongerThan}
use Rattle.command_answers.specs.Outside.{Store}
use Rattle.command_answers.specs.declared.file.File.{File}
use Rattle.command_answers.specs.declared.file.File.TheVariants as role

-- the most bytes that a file may have
abbrev pub most_of : File → ℕ
most_of role.Source = 262144
most_of role.Text = 16777216
most_of _ = 33554432

-- where a command has a file from: a name on the shelf; a text of its own, under a name; or it reads none
pub data Held : Type 0 where
  Named : (name : List ℕ) → Held
  Made : (name text : List ℕ) → Held
  Absent : Held

-- the data where no file is named, which is their name in messages too
abbrev pub no_data : List ℕ
no_data = codes "{}"

-- the data of a command: those of the file that is named, and else an empty object
abbrev pub data_held : Option (List ℕ) → Held
data_held None = Made no_data no_data
data_held (Some name) = Named name

-- the name of a file in messages
abbrev pub name_in : Held → List ℕ
name_in (Named name) = name
name_in (Made name text) = name
name_in Absent = []

-- what reading a file gives: its bytes, that it has more than it may, or that it cannot be read
pub data Given : Type 0 where
  Bytes : (bytes : List ℕ) → Given
  TooMany : Given
  Unread : Given

-- so it is in a call: these are the bytes of a file that is known, and of one that is not, some; a file is unread only where a read
-- of its name failed
abbrev pub IsGiven : Store → Store → Held → ℕ → Given → Type 0
IsGiven before after (Named name) most (Bytes bytes) = IsFileOf before.files name bytes × (length bytes ≤ most)
IsGiven before after (Named name) most TooMany = IsLongerThan before.files name most
IsGiven before after (Named name) most Unread = Rose (before.failed name) (after.failed name)
IsGiven before after (Made name text) most given = given ≡ Bytes text
IsGiven before after Absent most given = given ≡ Bytes []

-- so it is of each file
abbrev pub AreGiven : Store → Store → (File → Held) → (File → Given) → Type 0
AreGiven before after held gives = (file : File) → IsGiven before after (held file) (most_of file) (gives file)

-- a call that asked for no other file than this one: the files stay, no count of failed reads falls, and none of another name changes
pub record Asks (before after : Store) (held : Held) : Type 0 where
  pub same_files : after.files ≡ before.files
  pub later : (name : List ℕ) → before.failed name ≤ after.failed name
  pub others : (name : List ℕ) → held ≢ Named name → after.failed name ≡ before.failed name
