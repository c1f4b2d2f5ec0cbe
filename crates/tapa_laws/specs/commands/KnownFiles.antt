-- Where the files are known and nothing outside fails, each answer that a command comes to is told whole.
use Rattle.std.specs.Prelude.{◌≡◌, ◌⊎◌, ℕ, List, Some}
use Rattle.tapa_files.specs.Outside.{Files}
use Rattle.tapa_words.specs.Words.{Command, Asks}
use Rattle.command_answers.specs.Answer.{Answer}
use Rattle.command_answers.specs.Files.{Given, AreGiven}
use Rattle.command_answers.specs.Outside.{Outside, Written}
use Rattle.command_answers.specs.declared.file.File.{File}
use Rattle.command_answers.specs.declared.status.Status.{Status}
use Rattle.command_answers.specs.declared.status.Status.TheVariants.{Memory}
use Rattle.tapa_drive.specs.Answer.{IsDecided, IsWhole, NothingFails}
use Rattle.tapa_drive.specs.Means.{held_of, Means}
use Rattle.tapa_laws.specs.commands.OneAnswer.{MeansOneThing}

-- of a command that means one thing
abbrev pub KnownFilesDecideTheAnswer : Type 0
KnownFilesDecideTheAnswer =
    (words : List (List ℕ)) (before after : Outside) (errors told : Written) (status : Status) (files : Files) → IsDecided words before after errors told status
    → before.store.files ≡ Some files → (c : Command) → Asks words c → MeansOneThing c → NothingFails (held_of c) before after errors told → (gives : File → Given)
    → AreGiven before.store after.store (held_of c) gives → (answer : Answer) → Means c gives answer
    → IsWhole (held_of c) answer status before.out after.out errors told ⊎ (status ≡ Memory)
