-- What shelves in memory keep.
use Rattle.std.specs.Prelude.{◌≡◌, ◌≢◌, ℕ, ◌+◌, List, map, String, string_bytes, Vec, count_by}
use Rattle.std.specs.Str.{bytes_eq}
use Rattle.std.specs.FinMap.{from_entries}
use Rattle.std.specs.declared.alloc.Global.{Global}
use Rattle.tapa_files.specs.Outside.{Files}

-- a name and the bytes of its file
abbrev pub Entry : Type 0
Entry = String Global × Vec ℕ Global

-- the files of a list of entries: of a name that is listed twice, the first
abbrev pub files_of : List Entry → Files
files_of entries = from_entries (map (λ (e : Entry). (string_bytes e.0, e.1.items)) entries)

-- how often a name occurs in a list
abbrev pub times : List (String Global) → List ℕ → ℕ
times names name = count_by (λ other. bytes_eq name (string_bytes other)) names

-- the name occurs once more, and every other as often as before
pub record CountsOnce (old new : List (String Global)) (name : List ℕ) : Type 0 where
  pub once : times new name ≡ times old name + 1
  pub others : (other : List ℕ) → other ≢ name → times new other ≡ times old other
