-- Names that are unknown, doubled or of the wrong net kind.
use Rattle.std.specs.Prelude.{Bool, ◌&&◌, ◌||◌, List, [], ◌∷◌, ◌++◌, ◌==◌, if◌then◌else◌, bytes_eq, map, count_by, not}
use Rattle.std.specs.List.{list_all, flat_map}
use Rattle.vlog_tree.specs.declared.tree.Atom.{Atom}
use Rattle.vlog_tree.specs.declared.tree.Atom.TheVariants.{Net, Part, Literal}
use Rattle.vlog_tree.specs.declared.tree.Value.{Value}
use Rattle.vlog_tree.specs.declared.tree.Value.TheVariants.{Plain, Invert, Binary, Choose, Concat, Repeat, Cell}
use Rattle.vlog_tree.specs.declared.tree.Step.{Step}
use Rattle.vlog_tree.specs.declared.tree.Step.TheVariants.{If, Else, End, NonblockingAssign, MemoryAssign}
use Rattle.vlog_tree.specs.declared.tree.Connection.{Connection}
use Rattle.vlog_tree.specs.declared.tree.Item.{Item}
use Rattle.vlog_tree.specs.declared.tree.Item.TheVariants.{Wire, Reg, Memory, Assign, Always, Instance}
use Rattle.vlog_tree.specs.declared.tree.PortDecl.{PortDecl}
use Rattle.vlog_tree.specs.declared.table.Declaration.{Declaration}
use Rattle.vlog_tree.specs.Form.{ModuleTree}
use Rattle.vlog_tree.specs.Table.{Name, NameUse, clk, is_clk, declared, port_declared, module_declared, net_kind_of, is_doubled_name, net_kind_is_read, net_kind_is_driven}
use Rattle.vlog_tree.specs.Table.{net_kind_is_register, net_kind_is_memory, net_kind_is_input, ports_of, is_module_name}

-- a net whose number is read; the clock's is never
abbrev pub read_use : List Declaration → Name → NameUse
read_use ds x = (x, not (net_kind_is_read (net_kind_of ds x)) || is_clk x)

abbrev pub driven_use : List Declaration → Name → NameUse
driven_use ds x = (x, not (net_kind_is_driven (net_kind_of ds x)) || is_clk x)

abbrev pub register_use : List Declaration → Name → NameUse
register_use ds x = (x, not (net_kind_is_register (net_kind_of ds x)))

abbrev pub memory_use : List Declaration → Name → NameUse
memory_use ds x = (x, not (net_kind_is_memory (net_kind_of ds x)))

-- the clock is an input port
abbrev pub clock_use : List Declaration → NameUse
clock_use ds = (clk, not (net_kind_is_input (net_kind_of ds clk)))

abbrev pub atom_uses : List Declaration → Atom → List NameUse
atom_uses ds (Net x) = read_use ds x ∷ []
atom_uses ds (Part x high low) = read_use ds x ∷ []
atom_uses ds (Literal w n) = []

abbrev pub value_uses : List Declaration → Value → List NameUse
value_uses ds (Plain a) = atom_uses ds a
value_uses ds (Invert a) = atom_uses ds a
value_uses ds (Binary a op b) = atom_uses ds a ++ atom_uses ds b
value_uses ds (Choose c a b) = atom_uses ds c ++ (atom_uses ds a ++ atom_uses ds b)
value_uses ds (Concat atoms) = flat_map (atom_uses ds) atoms
value_uses ds (Repeat n a) = atom_uses ds a
value_uses ds (Cell m x) = memory_use ds m ∷ read_use ds x ∷ []

abbrev pub step_uses : List Declaration → Step → List NameUse
step_uses ds (If c) = read_use ds c ∷ []
step_uses ds Else = []
step_uses ds End = []
step_uses ds (NonblockingAssign x a) = register_use ds x ∷ atom_uses ds a
step_uses ds (MemoryAssign m x a) = memory_use ds m ∷ read_use ds x ∷ atom_uses ds a

-- a declaration other than a port
abbrev pub inner_use : List Declaration → Name → NameUse
inner_use ds x = (x, is_doubled_name ds x || is_clk x)

unfoldable pub port_uses : List Declaration → PortDecl → List NameUse
port_uses ds p = (p.name, is_doubled_name ds p.name) ∷ []

-- each port of the instance's module has one connection
abbrev pub all_connected : List Declaration → List Connection → Bool
all_connected ports connections = list_all (λ (p : Declaration). count_by (λ (l : Connection). bytes_eq l.port p.name) connections == 1) ports

-- the net of a connection: the clock goes to a clock alone
abbrev pub joined_use : List Declaration → List Declaration → Connection → NameUse
joined_use ports ds l =
    if is_clk l.port && is_clk l.net then clock_use ds
    else if net_kind_is_input (net_kind_of ports l.port) then read_use ds l.net
    else driven_use ds l.net

unfoldable pub connection_uses : List Declaration → List Declaration → Connection → List NameUse
connection_uses ports ds l = (l.port, not (net_kind_is_read (net_kind_of ports l.port))) ∷ joined_use ports ds l ∷ []

unfoldable pub instance_uses : List ModuleTree → List Declaration → Name → Name → List Connection → List NameUse
instance_uses ms ds m i connections =
    let ports = map port_declared (ports_of ms m) in
    (m, not (is_module_name ms m)) ∷ (i, is_doubled_name ds i || is_clk i || not (all_connected ports connections)) ∷ flat_map (connection_uses ports ds) connections

unfoldable pub item_uses : List ModuleTree → List Declaration → Item → List NameUse
item_uses ms ds (Wire w x) = inner_use ds x ∷ []
item_uses ms ds (Reg w x) = inner_use ds x ∷ []
item_uses ms ds (Memory w x n) = inner_use ds x ∷ []
item_uses ms ds (Assign x e) = driven_use ds x ∷ value_uses ds e
item_uses ms ds (Always b) = clock_use ds ∷ flat_map (step_uses ds) b
item_uses ms ds (Instance m i connections) = instance_uses ms ds m i connections

unfoldable pub module_uses : List ModuleTree → ModuleTree → List NameUse
module_uses ms m =
    let ds = declared m in
    (m.name, is_doubled_name (map module_declared ms) m.name) ∷ (flat_map (port_uses ds) m.ports ++ flat_map (item_uses ms ds) m.items)

-- all names of the text, in its order
abbrev pub v2_uses : List ModuleTree → List NameUse
v2_uses ms = flat_map (module_uses ms) ms
