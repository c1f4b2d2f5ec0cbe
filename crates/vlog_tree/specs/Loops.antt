-- Loops of wires, and modules that contain themselves.
--
-- The definitions by an example: module k has the ports `input a , output o` and the line `assign o = a ;`, and module p has
-- a wire w and the line `k u ( .a ( w ) , .o ( w ) ) ;`.
--   direct_edges  what the lines of one module say: in k that o depends on a, in p that u.a depends on w, and w on u.o
--   Rests         dependence through any number of lines and instances: u.o depends on u.a, since o does on a inside k, so w on w
--   LiesOnLoop    w of p, which depends on itself, and a and o of k, which do so as the wires u.a and u.o of p
--   IsFirstIn       the first of these in the text, here a of k, whose name is reported
use Rattle.std.specs.Prelude.{◌≡◌, ◌⊎◌, Bool, true, false, List, [], ◌∷◌, ◌++◌, Option, Some, None, if◌then◌else◌, map, filter}
use Rattle.std.specs.List.{flat_map}
use Rattle.vlog_tree.specs.declared.tree.Atom.{Atom}
use Rattle.vlog_tree.specs.declared.tree.Atom.TheVariants.{Net, Part, Literal}
use Rattle.vlog_tree.specs.declared.tree.Value.{Value}
use Rattle.vlog_tree.specs.declared.tree.Value.TheVariants.{Plain, Invert, Binary, Choose, Concat, Repeat, Cell}
use Rattle.vlog_tree.specs.declared.tree.Connection.{Connection}
use Rattle.vlog_tree.specs.declared.tree.Item.{Item}
use Rattle.vlog_tree.specs.declared.tree.Item.TheVariants.{Wire, Reg, Memory, Assign, Always, Instance}
use Rattle.vlog_tree.specs.declared.table.Declaration.{Declaration}
use Rattle.vlog_tree.specs.declared.table.NetKind.TheVariants.{Input, Output}
use Rattle.vlog_tree.specs.Form.{ModuleTree}
use Rattle.vlog_tree.specs.Table.{Name, declared, port_declared, net_kind_of, net_kind_is_input, ports_of, module_named}
use Rattle.tapa_base.specs.Lists.{Has, Chain}
use Rattle.vlog_tree.specs.Labels.{address_of}
use Rattle.vlog_tree.specs.V6.{module_children, has_port}

abbrev pub atom_nets : Atom → List Name
atom_nets (Net x) = x ∷ []
atom_nets (Part x high low) = x ∷ []
atom_nets (Literal w n) = []

-- the nets of a driver; a memory cell depends on its address
abbrev pub value_nets : Value → List Name
value_nets (Plain a) = atom_nets a
value_nets (Invert a) = atom_nets a
value_nets (Binary a op b) = atom_nets a ++ atom_nets b
value_nets (Choose c a b) = atom_nets c ++ (atom_nets a ++ atom_nets b)
value_nets (Concat atoms) = flat_map atom_nets atoms
value_nets (Repeat n a) = atom_nets a
value_nets (Cell m x) = x ∷ []

-- the hierarchical name of a port of an instance (IEEE 1364-2005, 12.5), which no name of the module is
unfoldable pub port_of : Name → Name → Name
port_of i p = i ++ 46 ∷ p

-- pairs of a thing and a thing that it depends on
abbrev pub Edges : Type 0
Edges = List (Name × Name)

-- in the same cycle an instance's input has the number of its net, and a net that of the instance's output
unfoldable pub connection_edge : List Declaration → Name → Connection → Name × Name
connection_edge ports i l = if net_kind_is_input (net_kind_of ports l.port) then (port_of i l.port, l.net) else (l.net, port_of i l.port)

-- a driven net depends on the nets of its driver; an assigned register depends on nothing of its own cycle
abbrev pub line_edges : List ModuleTree → Item → Edges
line_edges ms (Assign x e) = map (λ y. (x, y)) (value_nets e)
line_edges ms (Instance m i connections) = map (connection_edge (map port_declared (ports_of ms m)) i) connections
line_edges ms (Wire w x) = []
line_edges ms (Reg w x) = []
line_edges ms (Memory w x n) = []
line_edges ms (Always b) = []

-- among the ports of the top an input m_X_rdata depends on the port m_X_addr, since a memory's read data is that of its
-- address; wires of these names are wires like all others
abbrev pub asked_port : List Declaration → Name → List Name
asked_port ports x = if net_kind_is_input (net_kind_of ports x) then filter (has_port ports) (address_of x) else []

abbrev pub answer_edges : List Declaration → Declaration → Edges
answer_edges ports d = map (λ y. (d.name, y)) (asked_port ports d.name)

abbrev pub memory_edges : Bool → List Declaration → Edges
memory_edges false ports = []
memory_edges true ports = flat_map (answer_edges ports) ports

-- what a module's own lines say; is_top says of a module's name whether it is the top's
abbrev pub direct_edges : List ModuleTree → (Name → Bool) → ModuleTree → Edges
direct_edges ms is_top m = flat_map (line_edges ms) m.items ++ memory_edges (is_top m.name) (map port_declared m.ports)

-- an instance's module and the instance's name
abbrev pub item_instances : Item → List (Name × Name)
item_instances (Instance m i connections) = (m, i) ∷ []
item_instances (Wire w x) = []
item_instances (Reg w x) = []
item_instances (Memory w x n) = []
item_instances (Assign x e) = []
item_instances (Always b) = []

abbrev pub instances : ModuleTree → List (Name × Name)
instances m = flat_map item_instances m.items

-- In a module one net depends on another in the same cycle, through any number of lines and instances. An instance's output
-- depends on those inputs on which it depends inside.
pub data Rests (ms : List ModuleTree) (is_top : Name → Bool) : ModuleTree → Name → Name → Type 0 where
  directly : {m : ModuleTree} {x y : Name} → Has (direct_edges ms is_top m) (x, y) → Rests ms is_top m x y
  through : {m : ModuleTree} {a b : Name} (k : ModuleTree) (kn i x y : Name) → Has (instances m) (kn, i) → module_named ms kn ≡ Some k
      → net_kind_of (map port_declared k.ports) x ≡ Output → net_kind_of (map port_declared k.ports) y ≡ Input → Rests ms is_top k x y
      → a ≡ port_of i x → b ≡ port_of i y → Rests ms is_top m a b
  after : {m : ModuleTree} {x z : Name} (y : Name) → Rests ms is_top m x y → Rests ms is_top m y z → Rests ms is_top m x z

-- which module contains which
unfoldable pub own_containment : ModuleTree → Edges
own_containment m = map (λ k. (m.name, k)) (module_children m)

abbrev pub containment : List ModuleTree → Edges
containment ms = flat_map own_containment ms

-- from a thing to another along edges
abbrev pub Reaches : Edges → Name → Name → Type 0
Reaches edges a b = Chain (λ x y. Has edges (x, y)) a b

-- a position in the text: a module's name, or with it a name that it declares
abbrev pub TextPlace : Type 0
TextPlace = Name × Option Name

abbrev pub place_name : TextPlace → Name
place_name (m, None) = m
place_name (m, Some x) = x

abbrev pub own_places : ModuleTree → List TextPlace
own_places m = (m.name, None) ∷ map (λ (d : Declaration). (m.name, Some d.name)) (declared m)

abbrev pub text_places : List ModuleTree → List TextPlace
text_places ms = flat_map own_places ms

-- A module's name is wrong where the module contains itself. A net is where it depends on itself in its module, and a port
-- also where it does so as a wire of a module that has an instance of its own.
abbrev pub LiesOnLoop : List ModuleTree → (Name → Bool) → TextPlace → Type 0
LiesOnLoop ms is_top (m, None) = Reaches (containment ms) m m
LiesOnLoop ms is_top (m, Some x) =
    ((k : ModuleTree) × Has ms k × (k.name ≡ m) × Rests ms is_top k x x)
    ⊎ ((k : ModuleTree) × (i : Name) × Has ms k × Has (instances k) (m, i) × Rests ms is_top k (port_of i x) (port_of i x))

-- the first of a list with a property
pub record IsFirstIn {A : Type 0} (P : A → Type 0) (xs : List A) (x : A) : Type 0 where
  pub before : List A
  pub after : List A
  pub split : xs ≡ before ++ x ∷ after
  pub none_before : (y : A) → Has before y → P y → ⊥
  pub this : P x

-- the first name that lies on a loop
abbrev pub TellsLoop : List ModuleTree → (Name → Bool) → Name → Type 0
TellsLoop ms is_top x = (s : TextPlace) × IsFirstIn (LiesOnLoop ms is_top) (text_places ms) s × (place_name s ≡ x)

-- no name lies on a loop
abbrev pub IsLoopless : List ModuleTree → (Name → Bool) → Type 0
IsLoopless ms is_top = (s : TextPlace) → Has (text_places ms) s → LiesOnLoop ms is_top s → ⊥
