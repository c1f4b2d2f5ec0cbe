-- What a simulator is made of, and when it shows a cycle of a run.
use Rattle.std.specs.Prelude.{◌≡◌, ◌⊎◌, ℕ, ◌+◌, ◌*◌, ◌%◌, ◌^◌, ◌<◌, List, [], Option, Some, None, length, get_or, slice_get, slice_index, slice_index_or}
use Rattle.tapa_base.specs.declared.shape.Port.{Port}
use Rattle.vlog_tree.specs.declared.tree.Item.TheVariants.{Reg, Memory}
use Rattle.vlog_tree.specs.declared.table.Declaration.{Declaration}
use Rattle.vlog_tree.specs.declared.table.NetKind.TheVariants as kind
use Rattle.vlog_tree.specs.Form.{ModuleTree}
use Rattle.tapa_base.specs.Lists.{Has}
use Rattle.vlog_tree.specs.Flattened.{FlatNet}
use Rattle.vlog_tree.specs.Labels.{rst, scalar, scalar_of, ack_of, rdata_of, m_ack, m_we, m_addr, m_wdata}
use Rattle.vlog_tree.specs.Table.{Name, declared, net_kind_of}
use Rattle.vlog_tree.specs.Cycle.{Cycle, Path, module_at}
use Rattle.vlog_tree.specs.Environment.{Environment, shape_of, cells_at}
use Rattle.sim_tape.specs.declared.gates.Pair.{Pair}
use Rattle.sim_tape.specs.Operators.{Cells, cell_in}
use Rattle.sim_tape.specs.Tape.{TapeTree, IsTape, pair_value}
use Rattle.sim_flat.specs.declared.flat.Flat.{Flat}
use Rattle.sim_flat.specs.Flat.{IsFlat, HasNumber}
use Rattle.sim_design.specs.States.{ShowsPlaced, CellsAre, TellsNumbers}
use Rattle.sim_design.specs.Given.{ArePlaced, AreGiven}
use Rattle.sim_design.specs.Drafts.{AreMemories, AreNext}
use Rattle.cycle_sim.specs.declared.inputs.Supply.{Supply}
use Rattle.cycle_sim.specs.declared.inputs.Supply.TheVariants.{Reset, Scalar, Ready}
use Rattle.cycle_sim.specs.declared.inputs.Input.{Input}
use Rattle.cycle_sim.specs.declared.cells.Outside.{Outside}
use Rattle.cycle_sim.specs.declared.parts.Machine.{Machine}

-- the names that a design's top declares, and the pairs of all its nets
pub record IsTopPlaced (ms : List ModuleTree) (top : ModuleTree) (f : Flat) (pairs : List (Option Pair)) (t : TapeTree) (names : List Declaration) : Type 0 where
  pub flat : IsFlat ms top f
  pub placed : ArePlaced ms top f pairs
  pub given : AreGiven ms top f pairs t
  pub are_names : names ≡ declared top

-- what a name of the top is given
abbrev pub IsSuppliedBy : ModuleTree → List ℕ → Name → Supply → Type 0
IsSuppliedBy top scalars x Reset = x ≡ rst
IsSuppliedBy top scalars x (Scalar v) = (i : ℕ) × (l : Port) × (slice_get (shape_of top).scalars i ≡ Some l) × (x ≡ scalar l.name) × (v ≡ slice_index scalars i)
IsSuppliedBy top scalars x (Ready i) = (l : Port) × (slice_get (shape_of top).memories i ≡ Some l) × (x ≡ m_ack l.name)

-- a name of the top that is given something: the reset, a scalar's, or the ack of a memory
abbrev pub HasSupply : ModuleTree → Name → Type 0
HasSupply top x = (x ≡ rst) ⊎ (((l : Port) × Has (shape_of top).scalars l × (scalar_of x ≡ Some l.name)) ⊎ ((l : Port) × Has (shape_of top).memories l × (ack_of x ≡ Some l.name)))

-- the input of the top with a number has these slots, and what the environment gives it
pub record IsInput (ms : List ModuleTree) (top : ModuleTree) (f : Flat) (pairs : List (Option Pair)) (scalars : List ℕ) (number : ℕ) (a : Input) : Type 0 where
  pub name : Name
  pub has_number : HasNumber ms f number ([], name)
  pub net_kind : net_kind_of (declared top) name ≡ kind.Input
  pub no_answer : rdata_of name ≡ None
  pub placed : get_or pairs number None ≡ Some a.pair
  pub supplied : IsSuppliedBy top scalars name a.supply

-- the inputs of the top but what memories answer, each once
pub record AreInputs (ms : List ModuleTree) (top : ModuleTree) (f : Flat) (pairs : List (Option Pair)) (scalars : List ℕ) (inputs : List Input) : Type 0 where
  pub all : (number : ℕ) (x : Name) (p : Pair) → HasNumber ms f number ([], x) → net_kind_of (declared top) x ≡ kind.Input → rdata_of x ≡ None → get_or pairs number None ≡ Some p
      → (i : ℕ) × (a : Input) × (slice_get inputs i ≡ Some a) × (a.pair ≡ p) × IsSuppliedBy top scalars x a.supply
  pub each : (i : ℕ) (a : Input) → slice_get inputs i ≡ Some a → (number : ℕ) × IsInput ms top f pairs scalars number a
  pub once : (i j number : ℕ) (a b : Input) → slice_get inputs i ≡ Some a → slice_get inputs j ≡ Some b
      → IsInput ms top f pairs scalars number a → IsInput ms top f pairs scalars number b → i ≡ j

-- the pair of a name of the top
abbrev pub IsPairOf : List ModuleTree → Flat → List (Option Pair) → Name → Pair → Type 0
IsPairOf ms f pairs x p = (number : ℕ) × HasNumber ms f number ([], x) × (get_or pairs number None ≡ Some p)

-- what a memory around the design is asked by
pub record IsOutside (ms : List ModuleTree) (f : Flat) (pairs : List (Option Pair)) (x : Name) (o : Outside) : Type 0 where
  pub ack : IsPairOf ms f pairs (m_ack x) o.ack
  pub we : IsPairOf ms f pairs (m_we x) o.we
  pub addr : IsPairOf ms f pairs (m_addr x) o.addr
  pub written : Pair
  pub wdata : IsPairOf ms f pairs (m_wdata x) written
  pub low : written.low ≡ o.wdata

-- the memories around the design, in the order of its shape
pub record AreOutside (ms : List ModuleTree) (top : ModuleTree) (f : Flat) (pairs : List (Option Pair)) (outside : List Outside) : Type 0 where
  pub count : length outside ≡ length (shape_of top).memories
  pub each : (i : ℕ) (l : Port) → slice_get (shape_of top).memories i ≡ Some l → (o : Outside) × (slice_get outside i ≡ Some o) × IsOutside ms f pairs l.name o

-- a design on a tape, ready to run
pub record IsMachine (ms : List ModuleTree) (top : ModuleTree) (f : Flat) (k : Machine) : Type 0 where
  pub flat : IsFlat ms top f
  pub tape : IsTape k.program
  pub placed : ArePlaced ms top f k.pairs.items
  pub given : AreGiven ms top f k.pairs.items k.program
  pub numbered : AreMemories ms top f k.memories.items k.widths.items
  pub tells : TellsNumbers ms top f k.pairs.items k.memories.items k.program
  pub next : AreNext ms top f k.pairs.items k.memories.items k.program k.commits.items k.stores.items

-- each memory inside has two lists of half cells, each as long as the memory
abbrev pub HasCells : List ModuleTree → ModuleTree → Flat → List (Option Pair) → Cells → Type 0
HasCells ms top f memories cells =
    (number : ℕ) (n : FlatNet) (m : ModuleTree) (w k : ℕ) (q : Pair) → HasNumber ms f number n → module_at ms top n.0 ≡ Some m → Has m.items (Memory w n.1 k)
    → get_or memories number None ≡ Some q
    → (length (get_or cells q.low []) ≡ k) × (length (get_or cells q.high []) ≡ k)

-- every register and every cell has a number, cut to its width
pub record IsFilledWith (ms : List ModuleTree) (top : ModuleTree) (f : Flat) (pairs memories : List (Option Pair)) (fill : ℕ) (cells : Cells) (ns : List ℕ) : Type 0 where
  pub registers : (number : ℕ) (n : FlatNet) (m : ModuleTree) (w : ℕ) (p : Pair) → HasNumber ms f number n → module_at ms top n.0 ≡ Some m → Has m.items (Reg w n.1)
      → get_or pairs number None ≡ Some p → pair_value ns p ≡ fill % 2 ^ w
  pub inside : (number : ℕ) (n : FlatNet) (m : ModuleTree) (w k : ℕ) (q : Pair) → HasNumber ms f number n → module_at ms top n.0 ≡ Some m
      → Has m.items (Memory w n.1 k) → get_or memories number None ≡ Some q
      → (a : ℕ) → a < k → cell_in cells q.high a * 2 ^ 64 + cell_in cells q.low a ≡ fill % 2 ^ w

-- slots and cells show a cycle of a run
pub record IsShown (ms : List ModuleTree) (top : ModuleTree) (f : Flat) (pairs memories : List (Option Pair)) (env : Environment) (nets : ℕ → Path → Cycle)
    (cycle : ℕ) (cells : Cells) (ns : List ℕ) : Type 0 where
  pub placed : ShowsPlaced ms f pairs (nets cycle) ns
  pub inside : (number : ℕ) (n : FlatNet) (q : Pair) (m : ModuleTree) (w k : ℕ) → HasNumber ms f number n → module_at ms top n.0 ≡ Some m
      → Has m.items (Memory w n.1 k) → get_or memories number None ≡ Some q
      → CellsAre (nets cycle n.0) n.1 k cells q
  pub outside : (i : ℕ) (l : Port) → slice_get (shape_of top).memories i ≡ Some l → get_or cells i [] ≡ cells_at (λ n. nets n []) l.name (slice_index_or env.memories i []) cycle
