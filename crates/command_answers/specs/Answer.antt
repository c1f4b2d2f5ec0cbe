-- What a command comes to by what its files give: texts and refusals, in the order of its work.
use Rattle.std.specs.Prelude.{◌≡◌, ◌⊎◌, List, ℕ, Option}
use Rattle.command_answers.specs.Files.{Given, Bytes, TooMany, Unread}
use Rattle.command_answers.specs.Refusal.{Refusal, Read, TooLong}
use Rattle.command_answers.specs.declared.file.File.{File}

-- a text that is written once all of it is made; a text that is written while it is made, and the refusal after it, where there is
-- one; or a refusal alone
pub data Answer : Type 0 where
  Puts : (told : List ℕ) → Answer
  Writes : (told : List ℕ) (why : Option Refusal) → Answer
  Refuses : (why : Refusal) → Answer

-- why nothing is taken from a file
abbrev pub IsRefusedFile : File → Given → (List ℕ → Refusal → Type 0) → Refusal → Type 0
IsRefusedFile file (Bytes bytes) Faulty why = Faulty bytes why
IsRefusedFile file TooMany Faulty why = why ≡ TooLong file
IsRefusedFile file Unread Faulty why = why ≡ Read file

-- what is taken from it
abbrev pub IsTaken : {A : Type 0} → Given → (List ℕ → A → Type 0) → A → Type 0
IsTaken (Bytes bytes) Gives x = Gives bytes x
IsTaken _ Gives x = ⊥

-- a step that reads a file: the file is refused, which is the answer; or something is taken from it, by which the steps after it
-- come to the answer
abbrev pub Reads : {A : Type 0} → File → Given → (List ℕ → Refusal → Type 0) → (List ℕ → A → Type 0) → (A → Answer → Type 0) → Answer → Type 0
Reads {A = A} file given Faulty Gives Then answer =
    ((why : Refusal) × IsRefusedFile file given Faulty why × (answer ≡ Refuses why)) ⊎ ((x : A) × IsTaken given Gives x × Then x answer)
