-- What the steps of a command may do: be refused, write a text, read a file.
use Rattle.std.specs.Prelude.{◌≡◌, ◌⊎◌, List, ℕ, Result, Ok, Err, ⊤}
use Rattle.std.specs.Io.KnownBytes.{Appends}
use Rattle.tapa_files.specs.Outside.{Rose, AppendsPart}
use Rattle.command_answers.specs.Answer.{IsRefusedFile, IsTaken}
use Rattle.command_answers.specs.Ends.{End, Done, Refused, Unwritten, NoMemory}
use Rattle.command_answers.specs.Files.{Held, Given, IsGiven, most_of}
use Rattle.command_answers.specs.Meaning.{end_at}
use Rattle.command_answers.specs.Outside.{Store, Written}
use Rattle.command_answers.specs.Refusal.{Refusal}
use Rattle.command_answers.specs.declared.file.File.{File}
use Rattle.command_answers.specs.declared.refusal.Refusal.{Refusal as CodeRefusal}

-- a step that can only be refused in a way of which this holds, or run out of memory
abbrev pub Fails : (Refusal → Type 0) → End → Type 0
Fails Is (Refused why) = Is why
Fails Is NoMemory = ⊤
Fails Is _ = ⊥

-- a step that writes a text of which this holds, while it is made
abbrev pub Wrote : (List ℕ → Type 0) → Written → Written → End → Type 0
Wrote Told old new Done = (told : List ℕ) × Told told × Appends old.bytes new.bytes told
Wrote Told old new Unwritten = Rose old.failed new.failed × ((told : List ℕ) × Told told × AppendsPart old.bytes new.bytes told)
Wrote Told old new NoMemory = (new.bytes ≡ old.bytes) ⊎ ((told : List ℕ) × Told told × AppendsPart old.bytes new.bytes told)
Wrote Told old new _ = ⊥

-- a step that writes a text of which this holds, once all of it is made
abbrev pub WroteWhole : (List ℕ → Type 0) → Written → Written → End → Type 0
WroteWhole Told old new NoMemory = new.bytes ≡ old.bytes
WroteWhole Told old new end = Wrote Told old new end

-- a step that reads a file: something is taken from it, or it is refused, or memory ran out
abbrev pub Took : {A : Type 0} → Store → Store → File → Held → (List ℕ → Refusal → Type 0) → (List ℕ → A → Type 0) → Result A CodeRefusal → Type 0
Took before after file held Faulty Gives (Ok x) = (given : Given) × IsGiven before after held (most_of file) given × IsTaken given Gives x
Took before after file held Faulty Gives (Err refusal) = Fails (λ why. (given : Given) × IsGiven before after held (most_of file) given × IsRefusedFile file given Faulty why) (end_at refusal)
