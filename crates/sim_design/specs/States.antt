-- When slots and cells show the numbers of a cycle of a whole design.
use Rattle.std.specs.Prelude.{◌≡◌, ◌⊎◌, ℕ, ◌+◌, ◌*◌, ◌^◌, true, false, List, [], Option, Some, None, IsSome, IsTrue, get_or, slice_get, nat_lt, if◌then◌else◌}
use Rattle.tapa_base.specs.declared.shape.Port.{Port}
use Rattle.vlog_tree.specs.declared.tree.Item.TheVariants.{Memory}
use Rattle.vlog_tree.specs.declared.table.NetKind.TheVariants as kind
use Rattle.vlog_tree.specs.Form.{ModuleTree}
use Rattle.tapa_base.specs.Lists.{Has}
use Rattle.vlog_tree.specs.Flattened.{FlatNet, parts}
use Rattle.vlog_tree.specs.Labels.{rdata_of, m_rdata, m_addr}
use Rattle.vlog_tree.specs.Table.{Name, is_clk, declared, net_kind_of, net_kind_is_read}
use Rattle.vlog_tree.specs.Cycle.{Cycle, Path, module_at}
use Rattle.vlog_tree.specs.Environment.{shape_of}
use Rattle.sim_tape.specs.declared.gates.Pair.{Pair}
use Rattle.sim_tape.specs.Operators.{Cells, cell_in}
use Rattle.sim_tape.specs.Tape.{TapeTree, pair_value}
use Rattle.sim_tape.specs.Solved.{IsSolved}
use Rattle.sim_flat.specs.declared.flat.Flat.{Flat}
use Rattle.sim_flat.specs.Flat.{HasNumber}
use Rattle.sim_design.specs.Valuations.{IsValuation}

-- a net that has its number from no other in the same cycle: a register, or an input of the top but what a memory answers
pub record IsFree (ms : List ModuleTree) (top : ModuleTree) (n : FlatNet) : Type 0 where
  pub tree : ModuleTree
  pub at : module_at ms top n.0 ≡ Some tree
  pub by : (net_kind_of (declared tree) n.1 ≡ kind.Register) ⊎ ((n.0 ≡ []) × (net_kind_of (declared tree) n.1 ≡ kind.Input) × (rdata_of n.1 ≡ None))

-- the pairs of nets have their numbers in a cycle
abbrev pub ShowsPlaced : List ModuleTree → Flat → List (Option Pair) → (Path → Cycle) → List ℕ → Type 0
ShowsPlaced ms f pairs c ns = (number : ℕ) (n : FlatNet) (p : Pair) → HasNumber ms f number n → get_or pairs number None ≡ Some p → (c n.0).net n.1 ≡ pair_value ns p

-- two lists of cells have the low and the high halves of a memory's cells, and 0 past their end
abbrev pub CellsAre : Cycle → Name → ℕ → Cells → Pair → Type 0
CellsAre c x count cells q = (a : ℕ) → (if nat_lt a count then c.cell x a else 0) ≡ cell_in cells q.high a * 2 ^ 64 + cell_in cells q.low a

-- The cells of the memories inside have their numbers in a cycle. Outside are the memories of the top by their indices in its
-- shape, each answering with the cell at its address.
pub record HasCellsOf (ms : List ModuleTree) (top : ModuleTree) (f : Flat) (memories : List (Option Pair)) (c : Path → Cycle) (cells : Cells) : Type 0 where
  pub inside : (number : ℕ) (n : FlatNet) (q : Pair) (m : ModuleTree) (w k : ℕ) → HasNumber ms f number n → module_at ms top n.0 ≡ Some m
      → Has m.items (Memory w n.1 k) → get_or memories number None ≡ Some q → CellsAre (c n.0) n.1 k cells q
  pub outside : (i : ℕ) (l : Port) → slice_get (shape_of top).memories i ≡ Some l → (c []).net (m_rdata l.name) ≡ cell_in cells i ((c []).net (m_addr l.name))

-- registers and inputs of the top have their numbers in a cycle
abbrev pub ShowsFree : List ModuleTree → ModuleTree → Flat → List (Option Pair) → (Path → Cycle) → List ℕ → Type 0
ShowsFree ms top f pairs c ns = (number : ℕ) (n : FlatNet) (p : Pair) → HasNumber ms f number n → IsFree ms top n → get_or pairs number None ≡ Some p → (c n.0).net n.1 ≡ pair_value ns p

-- In each array that solves a tape and shows registers, inputs and memories of a cycle, the pairs of all nets have their
-- numbers in that cycle, for all numbers that the design allows within one cycle.
abbrev pub TellsNumbers : List ModuleTree → ModuleTree → Flat → List (Option Pair) → List (Option Pair) → TapeTree → Type 0
TellsNumbers ms top f pairs memories t =
    (cells : Cells) (ns : List ℕ) (c : Path → Cycle) → IsSolved t cells ns → IsValuation ms top c → HasCellsOf ms top f memories c cells
    → ShowsFree ms top f pairs c ns → ShowsPlaced ms f pairs c ns

-- only nets that can be read have pairs, and no clock
abbrev pub AreRead : List ModuleTree → ModuleTree → Flat → List (Option Pair) → Type 0
AreRead ms top f pairs =
    (number : ℕ) (n : FlatNet) (m : ModuleTree) (p : Pair) → HasNumber ms f number n → module_at ms top n.0 ≡ Some m → get_or pairs number None ≡ Some p
    → IsTrue (net_kind_is_read (net_kind_of (declared m) n.1)) × (is_clk n.1 ≡ false)

-- only memories have numbers of lists of cells
abbrev pub AreMemories : List ModuleTree → ModuleTree → Flat → List (Option Pair) → Type 0
AreMemories ms top f memories =
    (number : ℕ) (n : FlatNet) (m : ModuleTree) (q : Pair) → HasNumber ms f number n → module_at ms top n.0 ≡ Some m → get_or memories number None ≡ Some q
    → net_kind_of (declared m) n.1 ≡ kind.MemoryArray

-- a pair has the number of a net in a cycle, wherever a tape is solved and shows the memories of the cycle and the nets that
-- have pairs already
abbrev pub HasNumbersOf : List ModuleTree → ModuleTree → Flat → List (Option Pair) → List (Option Pair) → TapeTree → FlatNet → Pair → Type 0
HasNumbersOf ms top f memories pairs t n p =
    (cells : Cells) (ns : List ℕ) (c : Path → Cycle) → IsSolved t cells ns → IsValuation ms top c → HasCellsOf ms top f memories c cells
    → ShowsPlaced ms f pairs c ns → (c n.0).net n.1 ≡ pair_value ns p

-- all memories have numbers of lists of cells
abbrev pub MemoriesPlaced : List ModuleTree → ModuleTree → Flat → List (Option Pair) → Type 0
MemoriesPlaced ms top f memories =
    (number : ℕ) (n : FlatNet) (m : ModuleTree) → HasNumber ms f number n → module_at ms top n.0 ≡ Some m
    → net_kind_of (declared m) n.1 ≡ kind.MemoryArray → IsSome (get_or memories number None)

-- the nets that a net has its number from have pairs
abbrev pub PartsPlaced : List ModuleTree → ModuleTree → Flat → List (Option Pair) → FlatNet → Type 0
PartsPlaced ms top f pairs n = (number : ℕ) (part : FlatNet) → HasNumber ms f number part → Has (parts ms top true n) part → IsSome (get_or pairs number None)
