-- What each module has, by indices.
use Rattle.std.specs.Prelude.{◌≡◌, ◌⊎◌, ℕ, ◌<◌, Bool, true, false, List, Some, None, length, get_or, slice_get, map}
use Rattle.vlog_tree.specs.declared.tree.Value.{Value}
use Rattle.vlog_tree.specs.declared.tree.Connection.{Connection}
use Rattle.vlog_tree.specs.declared.tree.Item.TheVariants.{Assign, Instance}
use Rattle.vlog_tree.specs.declared.table.Declaration.{Declaration}
use Rattle.vlog_tree.specs.declared.table.NetKind.TheVariants as kind
use Rattle.vlog_tree.specs.Form.{ModuleTree}
use Rattle.tapa_base.specs.Lists.{Has}
use Rattle.vlog_tree.specs.Table.{Name, is_clk, declared, port_declared, net_kind_of, net_kind_is_read, net_kind_is_input, ports_of, module_named}
use Rattle.vlog_tree.specs.Loops.{instances}
use Rattle.sim_flat.specs.declared.tables.Child.{Child}
use Rattle.sim_flat.specs.declared.tables.Source.{Source}
use Rattle.sim_flat.specs.declared.tables.Source.TheVariants as source
use Rattle.sim_flat.specs.declared.tables.Table.{Table}
use Rattle.sim_flat.specs.Places.{DeclaredAt}

-- the instance at an index among those of a module, and its line at an index among the module's lines
pub record IsInstanceAt (ms : List ModuleTree) (m : ModuleTree) (line c : ℕ) : Type 0 where
  pub module_name : Name
  pub name : Name
  pub connections : List Connection
  pub inner : ModuleTree
  pub listed : slice_get (instances m) c ≡ Some (module_name, name)
  pub stands : slice_get m.items line ≡ Some (Instance module_name name connections)
  pub known : module_named ms module_name ≡ Some inner

-- among the connections of an instance in m is one of a port at an index of the instance's module, which is an input or not, and
-- a net at an index of m
pub record IsConnected (ms : List ModuleTree) (m : ModuleTree) (module_name : Name) (connections : List Connection) (inner : ModuleTree) (is_input : Bool) (port net : ℕ) : Type 0 where
  pub connection : Connection
  pub connected : Has connections connection
  pub direction : net_kind_is_input (net_kind_of (map port_declared (ports_of ms module_name)) connection.port) ≡ is_input
  pub port_at : DeclaredAt inner port connection.port
  pub net_at : DeclaredAt m net connection.net

-- a port of the instance at an index among those of m drives the net at an index
abbrev pub IsDrivenByPort : List ModuleTree → ModuleTree → ℕ → ℕ → ℕ → Type 0
IsDrivenByPort ms m j c p = (line : ℕ) × (i : IsInstanceAt ms m line c) × IsConnected ms m i.module_name i.connections i.inner false p j

-- What the name at an index has its number from. It has none where it is the clock, a memory or an instance.
abbrev pub IsSource : List ModuleTree → ModuleTree → ℕ → Declaration → Source → Type 0
IsSource ms m j d source.Nothing = (is_clk d.name ≡ true) ⊎ (net_kind_is_read d.net_kind ≡ false)
IsSource ms m j d source.Register = d.net_kind ≡ kind.Register
IsSource ms m j d source.Input = (d.net_kind ≡ kind.Input) × (is_clk d.name ≡ false)
IsSource ms m j d (source.Line l) = (e : Value) × (slice_get m.items l ≡ Some (Assign d.name e))
IsSource ms m j d (source.Child c p) = IsDrivenByPort ms m j c p

-- an instance by its index: its line, and for each input the index of the net that the input is connected to
pub record IsChild (ms : List ModuleTree) (m : ModuleTree) (children : List Child) (c : ℕ) : Type 0 where
  pub child : Child
  pub got : slice_get children c ≡ Some child
  pub at : IsInstanceAt ms m child.line c
  pub joined : (p : ℕ) (x : Name) → DeclaredAt at.inner p x → net_kind_is_input (net_kind_of (map port_declared (ports_of ms at.module_name)) x) ≡ true
      → (q : ℕ) × (get_or child.joined.items p None ≡ Some q) × IsConnected ms m at.module_name at.connections at.inner true p q

-- the table of a module
pub record IsTable (ms : List ModuleTree) (m : ModuleTree) (t : Table) : Type 0 where
  pub names : t.scope ≡ declared m
  pub count : length t.sources.items ≡ length (declared m)
  pub sources : (j : ℕ) (d : Declaration) → slice_get (declared m) j ≡ Some d → IsSource ms m j d (get_or t.sources.items j source.Nothing)
  pub children : (c : ℕ) → c < length (instances m) → IsChild ms m t.children.items c

-- the tables of some of the modules, in their order
pub record AreTablesOf (ms some : List ModuleTree) (tables : List Table) : Type 0 where
  pub count : length tables ≡ length some
  pub each : (n : ℕ) (m : ModuleTree) → slice_get some n ≡ Some m → (t : Table) × (slice_get tables n ≡ Some t) × IsTable ms m t

abbrev pub AreTables : List ModuleTree → List Table → Type 0
AreTables ms tables = AreTablesOf ms ms tables
