-- What instances hold where every register and every cell holds one number, cut to its width.
use Rattle.std.specs.Prelude.{ℕ, ◌%◌, ◌^◌, List, [], ◌∷◌, map, replicate}
use Rattle.std.specs.List.{flat_map}
use Rattle.vlog_tree.specs.declared.tree.Item.{Item}
use Rattle.vlog_tree.specs.declared.tree.Item.TheVariants.{Wire, Reg, Memory, Assign, Always, Instance}
use Rattle.vlog_tree.specs.Cycle.{Path}
use Rattle.vlog_tree.specs.Table.{Name}
use Rattle.vlog_values.specs.declared.numbers.NetNumber.{NetNumber}
use Rattle.vlog_values.specs.declared.numbers.MemoryCells.{MemoryCells}
use Rattle.vlog_values.specs.declared.moment.Held.{Held}
use Rattle.vlog_ref_start.specs.Instances.{PlaceTree}

-- what an instance holds, without where it lies in memory
pub record HeldTree : Type 0 where
  pub path : Path
  pub nets : List NetNumber
  pub memories : List (Name × List ℕ)

abbrev pub memory_tree : MemoryCells → Name × List ℕ
memory_tree k = (k.name, k.cells.items)

abbrev pub held_tree : Held → HeldTree
held_tree h = record { path = h.path.items; nets = h.nets.items; memories = map memory_tree h.memories.items }

-- the register of a line
abbrev pub filled_net : ℕ → Item → List NetNumber
filled_net fill (Reg w x) = record { name = x; bits = w; number = fill % 2 ^ w } ∷ []
filled_net fill (Wire w x) = []
filled_net fill (Memory w x n) = []
filled_net fill (Assign x e) = []
filled_net fill (Always b) = []
filled_net fill (Instance k i connections) = []

-- the memory of a line
abbrev pub filled_cells : ℕ → Item → List (Name × List ℕ)
filled_cells fill (Memory w x n) = (x, replicate n (fill % 2 ^ w)) ∷ []
filled_cells fill (Wire w x) = []
filled_cells fill (Reg w x) = []
filled_cells fill (Assign x e) = []
filled_cells fill (Always b) = []
filled_cells fill (Instance k i connections) = []

abbrev pub filled_held : ℕ → PlaceTree → HeldTree
filled_held fill p = record { path = p.0; nets = flat_map (filled_net fill) p.1.items; memories = flat_map (filled_cells fill) p.1.items }
