-- What `take_file` says of the file that it was asked for.
use Rattle.std.specs.Prelude.{◌≡◌, ℕ, ◌<◌, List, length, ⊤, None, Some, Option}
use Rattle.tapa_files.specs.Outside.{Files, file_bytes}

-- where the contents of the files are known, these are all bytes of the named file
abbrev pub IsFileOf : Option Files → List ℕ → List ℕ → Type 0
IsFileOf None name bytes = ⊤
IsFileOf (Some files) name bytes = bytes ≡ file_bytes files name

-- where the contents of the files are known, the named file has more bytes than the limit
abbrev pub IsLongerThan : Option Files → List ℕ → ℕ → Type 0
IsLongerThan None name limit = ⊤
IsLongerThan (Some files) name limit = limit < length (file_bytes files name)
