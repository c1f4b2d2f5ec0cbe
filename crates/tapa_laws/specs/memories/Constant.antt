-- The const memories of a legal source (TAPA: `mmap<const T>`).
use Rattle.std.specs.Prelude.{◌≡◌, ℕ, List, [], true, Some, slice_get, slice_index_or}
use Rattle.tapa_syntax.specs.declared.program.Memory.{Memory}
use Rattle.tapa_syntax.specs.declared.program.Program.{Program}
use Rattle.tapa_syntax.specs.Trees.{ItemTree}
use Rattle.tapa_syntax.specs.Flat.{flat_program}
use Rattle.kahn_model.specs.Cells.{cells_at}
use Rattle.stream_check.specs.Programs.{program_faults, program_of}
use Rattle.tapa_laws.specs.memories.Stores.{StoresNothingIn}

-- no instance of a legal source's program has code that stores in a const memory
abbrev pub LegalProgramsStoreNothingInConstMemories : Type 0
LegalProgramsStoreNothingInConstMemories =
    (items : List ItemTree) (top : List ℕ) (program : Program) → program_faults items top ≡ [] → flat_program program ≡ program_of items top
    → (m : ℕ) (o : Memory) → slice_get program.memories.items m ≡ Some o → o.constant ≡ true → StoresNothingIn program m

-- the cells of a const memory of a legal source's program are at every count of its network those that were given
abbrev pub ConstMemoriesKeepTheirCells : Type 0
ConstMemoriesKeepTheirCells =
    (items : List ItemTree) (top : List ℕ) (program : Program) → program_faults items top ≡ [] → flat_program program ≡ program_of items top
    → (m : ℕ) (o : Memory) → slice_get program.memories.items m ≡ Some o → o.constant ≡ true
    → (scalars : List ℕ) (memories : List (List ℕ)) (k : ℕ → ℕ) → cells_at program scalars memories k m ≡ slice_index_or memories m []
