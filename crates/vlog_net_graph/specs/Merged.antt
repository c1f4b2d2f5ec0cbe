-- The graph of all modules at once. Its nodes are the names of each module's own graph, each with the module's name and a dot before
-- it, so that the instances of a module share its nodes: an input of the module depends on the wire at it of each instance, and
-- each wire at an output depends on the output.
--
-- By an example: module k has the ports `input a , output o`, and module p has a wire w and the line `k u ( .a ( w ) , .o ( w ) ) ;`.
-- Of p's own lines p.u.a depends on p.w, and p.w on p.u.o; of the instance k.a depends on p.u.a, and p.u.o on k.o.
use Rattle.std.specs.Prelude.{List, Bool, false, ◌++◌, Option, bytes_eq, if◌then◌else◌, map}
use Rattle.std.specs.List.{flat_map}
use Rattle.std.specs.Option.{option_map_or}
use Rattle.vlog_tree.specs.declared.table.Declaration.{Declaration}
use Rattle.vlog_tree.specs.Form.{ModuleTree}
use Rattle.vlog_tree.specs.Table.{Name, port_declared, net_kind_of, net_kind_is_input, ports_of}
use Rattle.vlog_tree.specs.Loops.{Edges, port_of, direct_edges, instances}

-- whether a module is the top, by the name of the first that no other contains
abbrev pub is_named : Option Name → Name → Bool
is_named root x = option_map_or (λ y. bytes_eq y x) root false

-- a pair of names, each with a name and a dot before it
abbrev pub port_pair : Name → Name × Name → Name × Name
port_pair i e = (port_of i e.0, port_of i e.1)

-- a pair of names, each with these bytes before it
abbrev pub under : Name → Name × Name → Name × Name
under front e = (front ++ e.0, front ++ e.1)

-- a port, with the name of its module or instance before it, and a net that it is connected to: an input depends on the net, and
-- the net on an output
abbrev pub port_edge : List Declaration → Name → Name → Name → Name × Name
port_edge ports k p net = if net_kind_is_input (net_kind_of ports p) then (port_of k p, net) else (net, port_of k p)

-- a port inside an instance's module, and its wire at the instance, in a module m
abbrev pub join : List Declaration → Name → Name × Name → Declaration → Name × Name
join ports m k d = port_edge ports k.0 d.name (port_of m (port_of k.1 d.name))

-- all ports of an instance
abbrev pub joins : List ModuleTree → Name → Name × Name → Edges
joins ms m k = map (join (map port_declared (ports_of ms k.0)) m k) (map port_declared (ports_of ms k.0))

-- one module: its own lines, and its instances
abbrev pub module_merged : List ModuleTree → (Name → Bool) → ModuleTree → Edges
module_merged ms is_top m = map (port_pair m.name) (direct_edges ms is_top m) ++ flat_map (joins ms m.name) (instances m)

abbrev pub merged_edges : List ModuleTree → (Name → Bool) → Edges
merged_edges ms is_top = flat_map (module_merged ms is_top) ms
