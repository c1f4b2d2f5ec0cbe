-- The memories of a program in a clocked network: they hold the cells of the timed counts.
use Rattle.std.specs.Prelude.{◌≡◌, ℕ, suc, List, [], Some, slice_get, slice_index_or}
use Rattle.tapa_syntax.specs.WellFormed.{IsWellFormed}
use Rattle.tapa_syntax.specs.declared.program.Instance.{Instance}
use Rattle.tapa_syntax.specs.declared.program.Memory.{Memory}
use Rattle.tapa_syntax.specs.declared.program.Program.{Program}
use Rattle.kahn_model.specs.Cells.{cells_at}
use Rattle.kahn_model.specs.Start.{network_of, first_state}
use Rattle.kahn_model.specs.Timed.{Clock, count_at}
use Rattle.hw_lines.specs.Signals.{Streams, History, Part}
use Rattle.hw_network_laws.specs.network.Clocked.{IsClocked}

-- at the position of its owner to which it is bound, memory m has before each cycle its cells at the count of the clock
abbrev pub MemoriesHoldCells : Type 0
MemoriesHoldCells =
    (program : Program) → IsWellFormed program → (scalars : List ℕ) (memories : List (List ℕ)) (clock : Clock) (parts : ℕ → Part) (S : Streams) (h : ℕ → History)
    → IsClocked (network_of program scalars memories) clock parts S h
    → (m p : ℕ) (o : Memory) (x : Instance) → slice_get program.memories.items m ≡ Some o → slice_get program.instances.items o.owner ≡ Some x
    → slice_get x.memories.items p ≡ Some m → (parts o.owner).first.cells ≡ (first_state program scalars memories o.owner).cells
    → (n : ℕ) → slice_index_or ((h o.owner).holds (suc n)).cells p [] ≡ cells_at program scalars memories (count_at (network_of program scalars memories) clock (suc n)) m
