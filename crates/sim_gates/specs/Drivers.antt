-- When a pair of slots has the number of a driver.
use Rattle.std.specs.Prelude.{◌≡◌, ℕ, ◌^◌, List, [], ◌∷◌, Option, nat_lt, if◌then◌else◌}
use Rattle.vlog_tree.specs.declared.table.Declaration.{Declaration}
use Rattle.vlog_tree.specs.declared.tree.Value.{Value}
use Rattle.vlog_tree.specs.declared.tree.Value.TheVariants.{Plain, Invert, Binary, Choose, Concat, Repeat, Cell}
use Rattle.vlog_tree.specs.Table.{Name}
use Rattle.vlog_tree.specs.Cycle.{Cycle, Sizes, driven}
use Rattle.vlog_tree.specs.Loops.{value_nets}
use Rattle.sim_tape.specs.declared.gates.Pair.{Pair}
use Rattle.sim_tape.specs.Operators.{Cells, cell_in}
use Rattle.sim_tape.specs.Tape.{TapeTree, pair_value}
use Rattle.sim_tape.specs.Solved.{IsSolved}
use Rattle.sim_gates.specs.Nets.{HavePairs, ShowsNets, ShowsMemories}

-- the memory that a driver reads
abbrev pub value_memories : Value → List Name
value_memories (Cell m x) = m ∷ []
value_memories (Plain a) = []
value_memories (Invert a) = []
value_memories (Binary a op b) = []
value_memories (Choose c a b) = []
value_memories (Concat atoms) = []
value_memories (Repeat n a) = []

-- all nets that a driver reads have pairs, and so has its memory
abbrev pub HasParts : List Declaration → List (Option Pair) → List (Option Pair) → Value → Type 0
HasParts ds pairs memories e = HavePairs ds pairs (value_nets e) × HavePairs ds memories (value_memories e)

-- a pair has a driver's number, for a target of some bits, wherever a tape is solved and shows the nets and the memories of a cycle
abbrev pub IsDriven : List Declaration → List (Option Pair) → List (Option Pair) → ℕ → Value → TapeTree → Pair → Type 0
IsDriven ds pairs memories bits e t p =
    (cells : Cells) (ns : List ℕ) (s : Sizes) (c : Cycle) → IsSolved t cells ns → ShowsNets ds pairs s c ns → ShowsMemories ds memories s c cells → driven s bits c e ≡ pair_value ns p

-- a cell at an address of 128 bits: there is none past 2^64
abbrev pub cell_at : Cells → ℕ → ℕ → ℕ
cell_at cells m a = if nat_lt a (2 ^ 64) then cell_in cells m a else 0
