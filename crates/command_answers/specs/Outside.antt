-- What contracts see of the outside of the program: a shelf of files, and a sink.
use Rattle.std.specs.Prelude.{ℕ, List, Option}
use Rattle.tapa_files.specs.Outside.{Files}
use Rattle.tapa_files.specs.declared.shelf.Shelf as Shelf
use Rattle.tapa_files.specs.declared.sink.Sink as Sink

-- the files, where they are known, and how often a read of each name has failed
pub record Store : Type 0 where
  pub files : Option Files
  pub failed : List ℕ → ℕ

-- what a sink holds, where its bytes are known, and how often a write to it has failed
pub record Written : Type 0 where
  pub bytes : Option (List ℕ)
  pub failed : ℕ

-- what a command reads from, and what it writes to
pub record Outside : Type 0 where
  pub store : Store
  pub out : Written

abbrev pub store : {S : Type 0} → Shelf.Ghosts S → S → Store
store ghosts shelf = record { files = ghosts.files shelf; failed = ghosts.faults shelf }

abbrev pub written : {O : Type 0} → Sink.Ghosts O → O → Written
written ghosts sink = record { bytes = ghosts.contents sink; failed = ghosts.faults sink }

abbrev pub outside : {S O : Type 0} → Shelf.Ghosts S → Sink.Ghosts O → S → O → Outside
outside from to shelf sink = record { store = store from shelf; out = written to sink }
