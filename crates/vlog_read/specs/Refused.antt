-- The first word that no design goes on with.
use Rattle.std.specs.Prelude.{◌≡◌, ℕ, ◌+◌, ◌<◌, ◌≤◌, List, ◌++◌, length, take, ⊤}
use Rattle.vlog_tree.specs.Form.{ModuleTree}
use Rattle.vlog_tree.specs.Spelling.{Word}
use Rattle.vlog_lex.specs.Grammar.{SpellsDesign}
use Rattle.vlog_read.specs.declared.design.ParseFault.{ParseFault}
use Rattle.vlog_read.specs.declared.design.ParseFault.TheVariants.{Refused, OutOfMemory}

-- some design begins with these words
abbrev pub Begins : List Word → Type 0
Begins words = (rest : List Word) × (ms : List ModuleTree) × SpellsDesign ms (words ++ rest)

-- Some design begins with the first words, and none with one more of them; where there is no more, the words are no design.
pub record IsFirstRefused (words : List Word) (passed : ℕ) : Type 0 where
  pub within : passed ≤ length words
  pub begun : Begins (take passed words)
  pub next : passed < length words → Begins (take (passed + 1) words) → ⊥
  pub end : passed ≡ length words → (ms : List ModuleTree) → SpellsDesign ms words → ⊥

abbrev pub Refuses : List Word → ParseFault → Type 0
Refuses words (Refused passed) = IsFirstRefused words passed
Refuses words OutOfMemory = ⊤
