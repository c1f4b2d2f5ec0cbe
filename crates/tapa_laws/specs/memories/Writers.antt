-- Who has the memories of a program that may be written.
use Rattle.std.specs.Prelude.{◌≡◌, ℕ, false, Some, slice_get}
use Rattle.tapa_syntax.specs.declared.program.Memory.{Memory}
use Rattle.tapa_syntax.specs.Flat.{FlatInstance, FlatProgram}

-- the instance of a memory that may be written is waited for
abbrev pub HasJoinedWriters : FlatProgram → Type 0
HasJoinedWriters program =
    (m : ℕ) (r : Memory) (x : FlatInstance) → slice_get program.memories m ≡ Some r → r.constant ≡ false → slice_get program.instances r.owner ≡ Some x → x.detached ≡ false
