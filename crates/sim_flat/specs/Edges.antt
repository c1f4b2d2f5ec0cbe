-- From each net of a flattened design to the nets that it has its number from, as edges between numbers.
use Rattle.std.specs.Prelude.{◌≡◌, ◌+◌, ◌==◌, ◌<◌, ◌^◌, ◌++◌, if◌then◌else◌}
use Rattle.std.specs.Prelude.{ℕ, zero, suc, List, [], Option, Some, None, length, get_or, map, slice_get, option_to_list, option_and_then}
use Rattle.std.specs.List.{flat_map}
use Rattle.std.specs.Option.{option_map_or}
use Rattle.vlog_tree.specs.declared.tree.Connection.{Connection}
use Rattle.vlog_tree.specs.declared.tree.Item.{Item}
use Rattle.vlog_tree.specs.declared.tree.Item.TheVariants.{Wire, Reg, Memory, Assign, Always, Instance}
use Rattle.vlog_tree.specs.declared.table.Declaration.{Declaration}
use Rattle.vlog_tree.specs.Form.{ModuleTree}
use Rattle.vlog_tree.specs.Table.{Name, port_declared, net_kind_of, net_kind_is_input}
use Rattle.vlog_tree.specs.Loops.{value_nets, asked_port}
use Rattle.sim_flat.specs.declared.instances.Instance as row
use Rattle.sim_flat.specs.declared.flat.Flat.{Flat}
use Rattle.sim_flat.specs.declared.tables.Child.{Child}
use Rattle.sim_flat.specs.declared.tables.Table.{Table}
use Rattle.sim_flat.specs.Places.{number_in, both}

-- the table of an instance's module, its lines, and the number of its first net
abbrev pub table_at : Flat → ℕ → Option Table
table_at f k = option_and_then (λ (r : row.Instance). slice_get f.tables.items r.kind) (slice_get f.instances.items k)

abbrev pub lines_at : List ModuleTree → Flat → ℕ → List Item
lines_at ms f k = option_map_or (λ (m : ModuleTree). m.items) (option_and_then (λ (r : row.Instance). slice_get ms r.kind) (slice_get f.instances.items k)) []

abbrev pub base_at : Flat → ℕ → ℕ
base_at f k = get_or f.first_net.items k 0

-- the index of the net that an input is connected to
abbrev pub joined_in : Flat → ℕ → ℕ → ℕ → Option ℕ
joined_in f k c p = option_and_then (λ (t : Table). option_and_then (λ (ch : Child). get_or ch.joined.items p None) (slice_get t.children.items c)) (table_at f k)

-- from a name of an instance to others
abbrev pub net_edge : ℕ → List Declaration → Name → Name → List (ℕ × ℕ)
net_edge base ds x y = option_to_list (both (number_in base ds x) (number_in base ds y))

abbrev pub net_edges : ℕ → List Declaration → Name → List Name → List (ℕ × ℕ)
net_edges base ds x ys = flat_map (net_edge base ds x) ys

-- from a driven net to those of its driver
abbrev pub assign_edges : ℕ → List Declaration → Item → List (ℕ × ℕ)
assign_edges base ds (Assign x e) = net_edges base ds x (value_nets e)
assign_edges base ds (Instance kn i connections) = []
assign_edges base ds (Wire w x) = []
assign_edges base ds (Reg w x) = []
assign_edges base ds (Memory w x n) = []
assign_edges base ds (Always b) = []

abbrev pub own_edges : List ModuleTree → Flat → ℕ → List (ℕ × ℕ)
own_edges ms f k = option_map_or (λ (t : Table). flat_map (assign_edges (base_at f k) t.scope) (lines_at ms f k)) (table_at f k) []

-- an input depends on the net around that it is connected to, and a net on an output
abbrev pub connection_edge : ℕ → List Declaration → ℕ → List Declaration → Connection → List (ℕ × ℕ)
connection_edge base ds base_inside inside l =
    if net_kind_is_input (net_kind_of inside l.port)
    then option_to_list (both (number_in base_inside inside l.port) (number_in base ds l.net))
    else option_to_list (both (number_in base ds l.net) (number_in base_inside inside l.port))

abbrev pub connections_of : Item → List Connection
connections_of (Instance kn i connections) = connections
connections_of (Assign x e) = []
connections_of (Wire w x) = []
connections_of (Reg w x) = []
connections_of (Memory w x n) = []
connections_of (Always b) = []

-- the connections of the instance at an index in another
abbrev pub connections_in : List ModuleTree → Flat → ℕ → ℕ → List Connection
connections_in ms f k c =
    option_map_or (λ (t : Table). option_map_or (λ (ch : Child). option_map_or connections_of (slice_get (lines_at ms f k) ch.line) []) (slice_get t.children.items c) []) (table_at f k) []

abbrev pub joins_in : List ModuleTree → Flat → ℕ → row.Instance → List (ℕ × ℕ)
joins_in ms f k r =
    option_map_or (λ (inside : Table). option_map_or
    (λ (t : Table). flat_map (connection_edge (base_at f r.around) t.scope (base_at f k) inside.scope) (connections_in ms f r.around r.child))
    (table_at f r.around) []) (table_at f k) []

abbrev pub join_edges : List ModuleTree → Flat → ℕ → List (ℕ × ℕ)
join_edges ms f k = if k == 0 then [] else option_map_or (joins_in ms f k) (slice_get f.instances.items k) []

-- a memory's read data at the top depends on its address
abbrev pub answer_edges : List Declaration → List Declaration → Declaration → List (ℕ × ℕ)
answer_edges ds ports d = net_edges 0 ds d.name (asked_port ports d.name)

-- those of the first instances
abbrev pub edges_below : (ℕ → List (ℕ × ℕ)) → ℕ → List (ℕ × ℕ)
edges_below g zero = []
edges_below g (suc n) = edges_below g n ++ g n

abbrev pub instance_edges : List ModuleTree → Flat → ℕ → List (ℕ × ℕ)
instance_edges ms f k = own_edges ms f k ++ join_edges ms f k

-- The numbers of all nets fit a machine word.
abbrev pub NumbersFit : Flat → Type 0
NumbersFit f = (k : ℕ) (t : Table) → table_at f k ≡ Some t → base_at f k + length t.scope < 2 ^ 64

abbrev pub top_answers : Flat → List Declaration → List (ℕ × ℕ)
top_answers f ports = option_map_or (λ (t : Table). flat_map (answer_edges t.scope ports) ports) (table_at f 0) []

abbrev pub all_edges : List ModuleTree → Flat → ModuleTree → List (ℕ × ℕ)
all_edges ms f top = edges_below (instance_edges ms f) (length f.instances.items) ++ top_answers f (map port_declared top.ports)
