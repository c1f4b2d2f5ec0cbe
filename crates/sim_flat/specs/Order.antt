-- An order of the nets of a flattened design.
use Rattle.std.specs.Prelude.{◌≡◌, ℕ, ◌+◌, ◌<◌, true, List, [], Some, length, get_or, take, slice_get}
use Rattle.vlog_tree.specs.declared.tree.Value.{Value}
use Rattle.vlog_tree.specs.declared.tree.Item.TheVariants.{Assign}
use Rattle.vlog_tree.specs.declared.table.NetKind.TheVariants.{Input}
use Rattle.vlog_tree.specs.Form.{ModuleTree}
use Rattle.tapa_base.specs.Lists.{Has}
use Rattle.vlog_tree.specs.Table.{Name, declared, net_kind_of}
use Rattle.vlog_tree.specs.Labels.{rdata_of, m_addr}
use Rattle.vlog_tree.specs.Loops.{value_nets}
use Rattle.vlog_tree.specs.Flattened.{FlatNet, parts}
use Rattle.sim_flat.specs.declared.flat.Flat.{Flat}
use Rattle.sim_flat.specs.Places.{DeclaredAt}
use Rattle.sim_flat.specs.Flat.{IsFlat, IsNetAt, HasNumber}

-- the numbers of all nets, each once, and after those of all nets that its net has its number from in the same cycle
pub record IsNetOrder (ms : List ModuleTree) (top : ModuleTree) (f : Flat) (order : List ℕ) : Type 0 where
  pub low : (i : ℕ) → i < length order → get_or order i 0 < length f.owners.items
  pub once : (i : ℕ) → i < length order → Has (take i order) (get_or order i 0) → ⊥
  pub all : (number : ℕ) → number < length f.owners.items → Has order number
  pub parts_first : (i number : ℕ) (n part : FlatNet) → i < length order → HasNumber ms f (get_or order i 0) n → HasNumber ms f number part
      → Has (parts ms top true n) part → Has (take i order) number

-- the nets that a net's driver reads come before it; they are nets of the same instance
abbrev pub DriversComeFirst : Type 0
DriversComeFirst =
    (ms : List ModuleTree) (top : ModuleTree) (f : Flat) (order : List ℕ) → IsFlat ms top f → IsNetOrder ms top f order
    → (i k j : ℕ) (n : FlatNet) → i < length order → (h : IsNetAt ms f k j n)
    → get_or order i 0 ≡ get_or f.first_net.items k 0 + j → (line : ℕ) (e : Value) → slice_get h.tree.items line ≡ Some (Assign n.1 e) → (y : Name) → Has (value_nets e) y
    → (q : ℕ) × DeclaredAt h.tree q y × Has (take i order) (get_or f.first_net.items k 0 + q)

-- a memory's read data at the top comes after its address; the top's nets have their indices as numbers
abbrev pub AskedComeFirst : Type 0
AskedComeFirst =
    (ms : List ModuleTree) (top : ModuleTree) (f : Flat) (order : List ℕ) → IsFlat ms top f → IsNetOrder ms top f order → (i : ℕ) (x label : Name) → i < length order
    → HasNumber ms f (get_or order i 0) ([], x)
    → net_kind_of (declared top) x ≡ Input → rdata_of x ≡ Some label → (q : ℕ) × DeclaredAt top q (m_addr label) × Has (take i order) q
