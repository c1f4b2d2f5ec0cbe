-- What gives a net its number in a cycle.
use Rattle.std.specs.Prelude.{ℕ, Bool, true, false, ◌&&◌, ◌==◌, List, [], ◌∷◌, Option, Some, None, bytes_eq, is_some, if◌then◌else◌, map, not}
use Rattle.std.specs.Borrow.{Bor}
use Rattle.std.specs.List.{list_all}
use Rattle.std.specs.Option.{option_map}
use Rattle.vlog_tree.specs.declared.tree.Value.{Value}
use Rattle.vlog_tree.specs.declared.tree.Value.TheVariants.{Plain, Invert, Binary, Choose, Concat, Repeat, Cell}
use Rattle.vlog_tree.specs.declared.tree.Connection.{Connection}
use Rattle.vlog_tree.specs.declared.tree.Item.{Item}
use Rattle.vlog_tree.specs.declared.tree.Item.TheVariants.{Wire, Reg, Memory, Assign, Always, Instance}
use Rattle.vlog_tree.specs.declared.table.Declaration.{Declaration}
use Rattle.vlog_tree.specs.Form.{ModuleTree}
use Rattle.vlog_tree.specs.Table.{Name, declared, port_declared, ports_of, net_kind_of, bits_of, net_kind_is_input, net_kind_is_read}
use Rattle.vlog_tree.specs.Cycle.{Path, and_then, module_at}
use Rattle.vlog_tree.specs.Environment.{ready_at}
use Rattle.vlog_tree.specs.Labels.{rst, scalar_of, ack_of, rdata_of, m_addr}
use Rattle.vlog_tree.specs.Loops.{value_nets}
use Rattle.vlog_values.specs.declared.numbers.NetNumber.{NetNumber}
use Rattle.vlog_values.specs.declared.numbers.MemoryCells.{MemoryCells}
use Rattle.vlog_values.specs.Scopes.{or_else}
use Rattle.vlog_values.specs.Numbers.{first_net, first_memory}
use Rattle.vlog_values.specs.declared.moment.Held.{Held}
use Rattle.vlog_values.specs.declared.moment.OutsideMemory.{OutsideMemory}
use Rattle.vlog_values.specs.declared.moment.Moment.{Moment}
use Rattle.vlog_ref_cycle.specs.declared.sources.Rule.{Rule}
use Rattle.vlog_ref_cycle.specs.declared.sources.Rule.TheVariants.{Number, Same, Driver, Cells}
use Rattle.vlog_ref_cycle.specs.declared.sources.Source.{Source}

abbrev pub same_path : Path → Path → Bool
same_path [] [] = true
same_path [] (y ∷ ys) = false
same_path (x ∷ xs) [] = false
same_path (x ∷ xs) (y ∷ ys) = bytes_eq x y && same_path xs ys

-- what the first instance of a path holds
abbrev pub held_at : List Held → Path → Option Held
held_at [] path = None
held_at (h ∷ hs) path = if same_path h.path.items path then Some h else held_at hs path

abbrev pub assigned_in : Item → Name → Option Value
assigned_in (Assign y e) x = if bytes_eq y x then Some e else None
assigned_in (Wire w y) x = None
assigned_in (Reg w y) x = None
assigned_in (Memory w y n) x = None
assigned_in (Always b) x = None
assigned_in (Instance m i connections) x = None

-- the driver of the first assignment to a net
abbrev pub assigned : List Item → Name → Option Value
assigned [] x = None
assigned (it ∷ items) x = or_else (assigned_in it x) (assigned items x)

-- the first port, no input, that is connected to a net
abbrev pub connection_out : List Declaration → List Connection → Name → Option Name
connection_out ports [] x = None
connection_out ports (l ∷ ls) x = if bytes_eq l.net x && not (net_kind_is_input (net_kind_of ports l.port)) then Some l.port else connection_out ports ls x

abbrev pub output_in : List ModuleTree → Item → Name → Option (Name × Name)
output_in ms (Instance m i connections) x = option_map (λ p. (i, p)) (connection_out (map port_declared (ports_of ms m)) connections x)
output_in ms (Assign y e) x = None
output_in ms (Wire w y) x = None
output_in ms (Reg w y) x = None
output_in ms (Memory w y n) x = None
output_in ms (Always b) x = None

-- the first instance, and its port, that drives a net
abbrev pub output_of : List ModuleTree → List Item → Name → Option (Name × Name)
output_of ms [] x = None
output_of ms (it ∷ items) x = or_else (output_in ms it x) (output_of ms items x)

abbrev pub pair_of : Bor Name × Bor Name → Name × Name
pair_of p = (p.0.now, p.1.now)

-- the net that a port is connected to
abbrev pub connection_in : List Connection → Name → Option Name
connection_in [] x = None
connection_in (l ∷ ls) x = if bytes_eq l.port x then Some l.net else connection_in ls x

abbrev pub joined_in : Item → Name → Name → Option Name
joined_in (Instance m j connections) i x = if bytes_eq j i then connection_in connections x else None
joined_in (Assign y e) i x = None
joined_in (Wire w y) i x = None
joined_in (Reg w y) i x = None
joined_in (Memory w y n) i x = None
joined_in (Always b) i x = None

-- the net that a port of an instance is connected to
abbrev pub joined_to : List Item → Name → Name → Option Name
joined_to [] i x = None
joined_to (it ∷ items) i x = or_else (joined_in it i x) (joined_to items i x)

-- a net to be read, with its width; its number is not known yet
abbrev pub net_read : List Declaration → Name → NetNumber
net_read ds x = record { name = x; bits = bits_of ds x; number = 0 }

abbrev pub are_read : List Declaration → List NetNumber → Bool
are_read ds nets = list_all (λ (n : NetNumber). net_kind_is_read (net_kind_of ds n.name)) nets

-- the memory that a driver reads is there
abbrev pub has_cells : List MemoryCells → Value → Bool
has_cells memories (Cell m x) = is_some (first_memory memories m)
has_cells memories (Plain a) = true
has_cells memories (Invert a) = true
has_cells memories (Binary a op b) = true
has_cells memories (Choose c a b) = true
has_cells memories (Concat atoms) = true
has_cells memories (Repeat n a) = true

-- how a number comes from those of some nets: it is given, it is that of one net, a driver's value, or a cell at a net
pub data RuleTree : Type 0 where
  given : ℕ → RuleTree
  same : RuleTree
  driver : ℕ → Value → List MemoryCells → RuleTree
  cells : List ℕ → RuleTree

-- the nets of one instance that a number comes from, and how
pub record SourceTree : Type 0 where
  pub path : Path
  pub reads : List NetNumber
  pub rule : RuleTree

abbrev pub rule_tree : Rule → RuleTree
rule_tree (Number n) = given n
rule_tree Same = same
rule_tree (Driver w e memories) = driver w e.now memories.now
rule_tree (Cells c) = cells c.now

abbrev pub source_tree : Source → SourceTree
source_tree s = record { path = s.path.items; reads = s.reads.items; rule = rule_tree s.rule }

abbrev pub given_number : ℕ → SourceTree
given_number n = record { path = []; reads = []; rule = given n }

-- the number of another net
abbrev pub same_number : Path → Name → SourceTree
same_number path x = record { path = path; reads = record { name = x; bits = 0; number = 0 } ∷ []; rule = same }

-- a driver's value, where each name in it denotes what has a width
abbrev pub can_drive : List Declaration → List MemoryCells → Name → Value → Bool
can_drive ds memories x e = net_kind_is_read (net_kind_of ds x) && are_read ds (map (net_read ds) (value_nets e)) && has_cells memories e

abbrev pub driver_source : List Declaration → Path → List MemoryCells → Name → Value → Option SourceTree
driver_source ds path memories x e =
    if can_drive ds memories x e then Some (record { path = path; reads = map (net_read ds) (value_nets e); rule = driver (bits_of ds x) e memories }) else None

-- the first memory of a label
abbrev pub memory_of : List OutsideMemory → Name → Option OutsideMemory
memory_of [] x = None
memory_of (o ∷ os) x = if bytes_eq o.name x then Some o else memory_of os x

abbrev pub rdata_source : List OutsideMemory → Option Name → Option SourceTree
rdata_source os None = None
rdata_source os (Some x) = option_map (λ (o : OutsideMemory). record { path = []; reads = record { name = m_addr x; bits = 0; number = 0 } ∷ []; rule = cells o.cells.items }) (memory_of os x)

abbrev pub ack_source : ℕ → List OutsideMemory → Option Name → Option SourceTree → Option SourceTree
ack_source n os None others = others
ack_source n os (Some x) others = option_map (λ (o : OutsideMemory). given_number (ready_at o.ready.items n)) (memory_of os x)

abbrev pub scalar_source : List NetNumber → Option Name → Option SourceTree → Option SourceTree
scalar_source vs None others = others
scalar_source vs (Some x) others = option_map (λ (v : NetNumber). given_number v.number) (first_net vs x)

-- the environment of the design gives an input of the top
abbrev pub input_source : Moment → Name → Option SourceTree
input_source now x =
    if bytes_eq x rst then Some (given_number (if now.cycle == 0 then 1 else 0))
    else scalar_source now.scalars.items (scalar_of x) (ack_source now.cycle now.outside.items (ack_of x) (rdata_source now.outside.items (rdata_of x)))

-- an input of an instance is connected to a net of the module around it
abbrev pub outer_source : List ModuleTree → ModuleTree → Moment → Path → Name → Option SourceTree
outer_source ms top now [] x = input_source now x
outer_source ms top now (i ∷ path) x = and_then (module_at ms top path) (λ m. option_map (same_number path) (joined_to m.items i x))

abbrev pub output_source : Path → Option (Name × Name) → Option SourceTree → Option SourceTree
output_source path None others = others
output_source path (Some p) others = Some (same_number (p.0 ∷ path) p.1)

abbrev pub line_source : List Declaration → Path → List MemoryCells → Name → Option Value → Option SourceTree → Option SourceTree
line_source ds path memories x None others = others
line_source ds path memories x (Some e) others = driver_source ds path memories x e

abbrev pub register_source : Option NetNumber → Option SourceTree → Option SourceTree
register_source None others = others
register_source (Some r) others = Some (given_number r.number)

-- A net is a register, or it has the number of its driver, of an output of an instance, or of what it is connected to outside.
abbrev pub source_of : List ModuleTree → ModuleTree → Moment → Path → Name → Option SourceTree
source_of ms top now path x =
    and_then (held_at now.held.items path) (λ h. and_then (module_at ms top path) (λ m.
    register_source (first_net h.nets.items x)
    (line_source (declared m) path h.memories.items x (assigned m.items x)
    (output_source path (output_of ms m.items x) (outer_source ms top now path x)))))
