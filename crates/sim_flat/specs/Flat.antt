-- A flattened design: the numbers of its nets.
use Rattle.std.specs.Prelude.{◌≡◌, ℕ, ◌+◌, ◌<◌, ◌≤◌, true, List, ◌∷◌, Option, Some, length, get_or, slice_get}
use Rattle.vlog_tree.specs.declared.tree.Connection.{Connection}
use Rattle.vlog_tree.specs.declared.tree.Item.TheVariants.{Instance}
use Rattle.vlog_tree.specs.Form.{ModuleTree}
use Rattle.tapa_base.specs.Lists.{Has}
use Rattle.vlog_tree.specs.Cycle.{module_at}
use Rattle.vlog_tree.specs.Table.{Name, declared}
use Rattle.vlog_tree.specs.Flattened.{FlatNet, parts}
use Rattle.vlog_tree.specs.Refused.{IsDesign}
use Rattle.sim_flat.specs.declared.instances.Instance as row
use Rattle.sim_flat.specs.Instances.{StandsAt, IsModuleOf, AreInstances}
use Rattle.sim_flat.specs.declared.flat.Flat.{Flat}
use Rattle.sim_flat.specs.Places.{DeclaredAt}
use Rattle.sim_flat.specs.Tables.{AreTables}

-- a number is that of the name at an index in an instance
pub record IsOwner (ms : List ModuleTree) (rows : List row.Instance) (first : List ℕ) (number k : ℕ) : Type 0 where
  pub there : k < length rows
  pub tree : ModuleTree
  pub of_module : IsModuleOf ms rows k tree
  pub place : ℕ
  pub low : place < length (declared tree)
  pub is : number ≡ get_or first k 0 + place

-- The names of instance k have the numbers from the k-th first one on, in the order of the text, those of the top from 0 on; of
-- each number the instance is given. So no two have the same number.
pub record AreNumbered (ms : List ModuleTree) (rows : List row.Instance) (first owners : List ℕ) : Type 0 where
  pub count : length first ≡ length rows
  pub starts : get_or first 0 0 ≡ 0
  pub within : (k : ℕ) (m : ModuleTree) → k < length rows → IsModuleOf ms rows k m → get_or first k 0 + length (declared m) ≤ length owners
  pub owned : (k j : ℕ) (m : ModuleTree) → k < length rows → IsModuleOf ms rows k m → j < length (declared m) → slice_get owners (get_or first k 0 + j) ≡ Some k
  pub owner : (number k : ℕ) → slice_get owners number ≡ Some k → IsOwner ms rows first number k

-- a design, its instances, the tables of its modules and the numbers of its nets
pub record IsFlat (ms : List ModuleTree) (top : ModuleTree) (f : Flat) : Type 0 where
  pub top_place : ℕ
  pub design : IsDesign ms top_place
  pub top_at : slice_get ms top_place ≡ Some top
  pub tables : AreTables ms f.tables.items
  pub instances : AreInstances ms top f.instances.items f.first_child.items
  pub numbers : AreNumbered ms f.instances.items f.first_net.items f.owners.items

-- a net of a flattened design, by its instance's number and its index there
pub record IsNetAt (ms : List ModuleTree) (f : Flat) (k j : ℕ) (n : FlatNet) : Type 0 where
  pub there : k < length f.instances.items
  pub stands : StandsAt ms f.instances.items k n.0
  pub tree : ModuleTree
  pub of_module : IsModuleOf ms f.instances.items k tree
  pub declared_at : DeclaredAt tree j n.1

-- the number of a net
pub record HasNumber (ms : List ModuleTree) (f : Flat) (number : ℕ) (n : FlatNet) : Type 0 where
  pub instance : ℕ
  pub place : ℕ
  pub at : IsNetAt ms f instance place n
  pub is : number ≡ get_or f.first_net.items instance 0 + place

-- a port of an instance, and the net of the module around that it is connected to
pub record AreJoined (ms : List ModuleTree) (top : ModuleTree) (port net : FlatNet) : Type 0 where
  pub tree : ModuleTree
  pub at : module_at ms top net.0 ≡ Some tree
  pub module_name : Name
  pub name : Name
  pub connections : List Connection
  pub line : Has tree.items (Instance module_name name connections)
  pub connection : Connection
  pub connected : Has connections connection
  pub port_is : port ≡ (name ∷ net.0, connection.port)
  pub net_is : net.1 ≡ connection.net

-- an answer is the number of a net that another has its number from in the same cycle, by a connection
pub record IsLink (ms : List ModuleTree) (top : ModuleTree) (f : Flat) (n : FlatNet) (J : FlatNet → FlatNet → Type 0) (answer : Option ℕ) : Type 0 where
  pub number : ℕ
  pub net : FlatNet
  pub is : answer ≡ Some number
  pub has_number : HasNumber ms f number net
  pub part : Has (parts ms top true n) net
  pub joined : J n net
