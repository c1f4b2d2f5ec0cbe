-- The top module and its ports.
use Rattle.std.specs.Prelude.{◌&&◌, ◌||◌, ◌∷◌, ◌++◌, ◌==◌, if◌then◌else◌}
use Rattle.std.specs.Prelude.{ℕ, Bool, true, false, List, [], Option, Some, None, nat_le, bytes_eq, map, filter, length, is_some, not}
use Rattle.std.specs.List.{flat_map}
use Rattle.std.specs.Option.{option_map_or}
use Rattle.vlog_tree.specs.declared.tree.Connection.{Connection}
use Rattle.vlog_tree.specs.declared.tree.Item.{Item}
use Rattle.vlog_tree.specs.declared.tree.Item.TheVariants.{Wire, Reg, Memory, Assign, Always, Instance}
use Rattle.vlog_tree.specs.declared.tree.PortDecl.{PortDecl}
use Rattle.vlog_tree.specs.declared.table.Declaration.{Declaration}
use Rattle.vlog_tree.specs.Form.{ModuleTree, is_input}
use Rattle.vlog_tree.specs.Table.{Name, NameUse, clk, is_clk, port_declared, net_kind_of, net_kind_is_read, times_in}
use Rattle.vlog_tree.specs.Labels.{rst, done, scalar_of, ack_of, rdata_of, addr_of, wdata_of, we_of, m_ack, m_rdata, m_addr, m_wdata, m_we}

-- the modules that a line contains
abbrev pub item_children : Item → List Name
item_children (Instance m i connections) = m ∷ []
item_children (Wire w y) = []
item_children (Reg w y) = []
item_children (Memory w y n) = []
item_children (Assign y e) = []
item_children (Always b) = []

unfoldable pub module_children : ModuleTree → List Name
module_children m = flat_map item_children m.items

abbrev pub contained_names : List ModuleTree → List Name
contained_names ms = flat_map module_children ms

-- the modules that no other contains
abbrev pub roots_among : List Name → List ModuleTree → List ModuleTree
roots_among contained ms = filter (λ (m : ModuleTree). times_in contained m.name == 0) ms

abbrev pub roots : List ModuleTree → List ModuleTree
roots ms = roots_among (contained_names ms) ms

abbrev pub first_name : List ModuleTree → Option Name
first_name [] = None
first_name (m ∷ ms) = Some m.name

-- whether a module is the top, by its name
abbrev pub is_top : List ModuleTree → Name → Bool
is_top ms x = option_map_or (λ y. bytes_eq y x) (first_name (roots ms)) false

abbrev pub has_port : List Declaration → Name → Bool
has_port ports x = net_kind_is_read (net_kind_of ports x)

unfoldable pub has_all_five : List Declaration → Name → Bool
has_all_five ports x = has_port ports (m_ack x) && has_port ports (m_rdata x) && has_port ports (m_addr x) && has_port ports (m_wdata x) && has_port ports (m_we x)

-- the bits of the port of this name, in a list of ports whose last one comes first
abbrev pub bits_before : List PortDecl → Name → Option ℕ
bits_before [] x = None
bits_before (p ∷ ps) x = if bytes_eq p.name x then Some p.width else bits_before ps x

-- no earlier port of this name has other bits
abbrev pub agrees : List PortDecl → Name → ℕ → Bool
agrees before x bits = option_map_or (λ b. b == bits) (bits_before before x) true

abbrev pub is_in : PortDecl → ℕ → Bool
is_in p w = is_input p.direction && (p.width == w)

abbrev pub is_out : PortDecl → ℕ → Bool
is_out p w = not (is_input p.direction) && (p.width == w)

unfoldable pub is_memory_port : Name → Bool
is_memory_port x = is_some (ack_of x) || is_some (rdata_of x) || is_some (addr_of x) || is_some (wdata_of x) || is_some (we_of x)

unfoldable pub is_expected : Name → Bool
is_expected x = is_clk x || bytes_eq x rst || bytes_eq x done || is_some (scalar_of x) || is_memory_port x

-- what the name of a port asks of its direction and its width
unfoldable pub fixed_fits : PortDecl → Bool
fixed_fits p = (not (is_clk p.name || bytes_eq p.name rst) || is_in p 1) && (not (bytes_eq p.name done) || is_out p 1)

unfoldable pub scalar_fits : PortDecl → Bool
scalar_fits p = not (is_some (scalar_of p.name)) || (is_input p.direction && nat_le p.width 64)

unfoldable pub ack_fits : List Declaration → PortDecl → Bool
ack_fits ports p = option_map_or (λ x. is_in p 1 && has_all_five ports x) (ack_of p.name) true

unfoldable pub rdata_fits : List Declaration → List PortDecl → PortDecl → Bool
rdata_fits ports before p = option_map_or (λ x. is_input p.direction && nat_le p.width 64 && has_all_five ports x && agrees before (m_wdata x) p.width) (rdata_of p.name) true

unfoldable pub addr_fits : List Declaration → PortDecl → Bool
addr_fits ports p = option_map_or (λ x. is_out p 64 && has_all_five ports x) (addr_of p.name) true

unfoldable pub wdata_fits : List Declaration → List PortDecl → PortDecl → Bool
wdata_fits ports before p = option_map_or (λ x. not (is_input p.direction) && nat_le p.width 64 && has_all_five ports x && agrees before (m_rdata x) p.width) (wdata_of p.name) true

unfoldable pub we_fits : List Declaration → PortDecl → Bool
we_fits ports p = option_map_or (λ x. is_out p 1 && has_all_five ports x) (we_of p.name) true

-- a port of the top, with all its ports and those before it
unfoldable pub port_fits : List Declaration → List PortDecl → PortDecl → Bool
port_fits ports before p =
    is_expected p.name && fixed_fits p && scalar_fits p && ack_fits ports p && rdata_fits ports before p && addr_fits ports p
    && wdata_fits ports before p && we_fits ports p

abbrev pub top_ports : List Declaration → List PortDecl → List PortDecl → List NameUse
top_ports ports before [] = []
top_ports ports before (p ∷ ps) = (p.name, not (port_fits ports before p)) ∷ top_ports ports (p ∷ before) ps

-- a connection of a clock has a clock at its other end
unfoldable pub clock_connection : Connection → NameUse
clock_connection l = (l.port, is_clk l.port && not (is_clk l.net))

abbrev pub clock_connections : Item → List NameUse
clock_connections (Instance m i connections) = map clock_connection connections
clock_connections (Wire w y) = []
clock_connections (Reg w y) = []
clock_connections (Memory w y n) = []
clock_connections (Assign y e) = []
clock_connections (Always b) = []

-- whether a top module is the only one and has the three ports that each design has
unfoldable pub is_whole_top : List ModuleTree → List Declaration → Bool
is_whole_top ms ports = (length (roots ms) == 1) && has_port ports clk && has_port ports rst && has_port ports done

unfoldable pub module_tops : List ModuleTree → ModuleTree → List NameUse
module_tops ms m =
    let top = is_top ms m.name in
    let ports = map port_declared m.ports in
    (m.name, top && not (is_whole_top ms ports)) ∷ ((if top then top_ports ports [] m.ports else []) ++ flat_map clock_connections m.items)

abbrev pub v6_uses : List ModuleTree → List NameUse
v6_uses ms = flat_map (module_tops ms) ms
