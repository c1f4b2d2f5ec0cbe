-- The cells of a memory at a count: those that it had first, after the stores of its owner. A store past the last cell
-- changes none.
use Rattle.std.specs.Prelude.{ℕ, List, [], ◌∷◌, ◌==◌, if◌then◌else◌, Bool, false, Option, Some, None, slice_get, slice_set, slice_index_or}
use Rattle.tapa_syntax.specs.declared.program.Instance.{Instance}
use Rattle.tapa_syntax.specs.declared.program.Memory.{Memory}
use Rattle.tapa_syntax.specs.declared.program.Program.{Program}
use Rattle.kahn_model.specs.Behavior.{Store, Tick, Did}
use Rattle.kahn_model.specs.Counts.{ticks_made}
use Rattle.kahn_model.specs.Start.{network_of}

abbrev pub is_memory : Option ℕ → ℕ → Bool
is_memory None m = false
is_memory (Some r) m = r == m

-- the cells of memory m after a tick, where a position is bound to the memory that `bound` says
abbrev pub stored : (ℕ → Option ℕ) → ℕ → List ℕ → Tick → List ℕ
stored bound m cells (Did (Store p i v)) = if is_memory (bound p) m then slice_set cells i v else cells
stored bound m cells _ = cells

abbrev pub after_stores : (ℕ → Option ℕ) → ℕ → List ℕ → List Tick → List ℕ
after_stores bound m cells [] = cells
after_stores bound m cells (t ∷ rest) = after_stores bound m (stored bound m cells t) rest

-- the memory at a position of an instance
abbrev pub memory_at : Option Instance → ℕ → Option ℕ
memory_at None p = None
memory_at (Some x) p = slice_get x.memories.items p

abbrev pub owner_of : Option Memory → ℕ
owner_of None = 0
owner_of (Some c) = c.owner

-- the cells of memory m of a program at a count of its network on an input
abbrev pub cells_at : Program → List ℕ → List (List ℕ) → (ℕ → ℕ) → ℕ → List ℕ
cells_at program scalars memories k m =
    after_stores
    (memory_at (slice_get program.instances.items (owner_of (slice_get program.memories.items m)))) m
    (slice_index_or memories m [])
    (ticks_made (network_of program scalars memories) k (owner_of (slice_get program.memories.items m)))
