-- The last cells of a memory.
use Rattle.std.specs.Prelude.{◌≡◌, ℕ, List, Some, slice_get}
use Rattle.tapa_syntax.specs.declared.program.Memory.{Memory}
use Rattle.tapa_syntax.specs.declared.program.Program.{Program}
use Rattle.tapa_syntax.specs.WellFormed.{IsWellFormed}
use Rattle.kahn_model.specs.Outcome.{IsJoined, HaveJoinedEnded}
use Rattle.kahn_model.specs.Start.{network_of}
use Rattle.kahn_model.specs.Cells.{cells_at}

-- where every instance that is waited for has ended, the memories that they own have the same cells, whatever the order of
-- steps and the bound
abbrev pub EndsLeaveAlike : Type 0
EndsLeaveAlike =
    (program : Program) → IsWellFormed program → (scalars : List ℕ) (memories : List (List ℕ)) (k l : ℕ → ℕ)
    → HaveJoinedEnded (network_of program scalars memories) k → HaveJoinedEnded (network_of program scalars memories) l
    → (m : ℕ) (c : Memory) → slice_get program.memories.items m ≡ Some c → IsJoined (network_of program scalars memories) c.owner
    → cells_at program scalars memories k m ≡ cells_at program scalars memories l m
