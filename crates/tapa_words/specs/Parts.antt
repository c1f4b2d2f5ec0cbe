-- The command that words ask for.
use Rattle.std.specs.Prelude.{ℕ, List}
use Rattle.tapa_words.specs.Words.{Command, Asks}

-- the words ask for a command, of which this holds
abbrev pub OfCommand : List (List ℕ) → (Command → Type 0) → Type 0
OfCommand words P = (command : Command) × Asks words command × P command
