-- What the names of a module denote.
use Rattle.std.specs.Prelude.{ℕ, Bool, true, false, ◌||◌, List, [], ◌∷◌, ◌++◌, Option, Some, None, codes, nat_le, if◌then◌else◌, bytes_eq, map, count_by, not, is_some}
use Rattle.vlog_tree.specs.declared.tree.Item.{Item}
use Rattle.vlog_tree.specs.declared.tree.Item.TheVariants.{Wire, Reg, Memory, Assign, Always, Instance}
use Rattle.vlog_tree.specs.declared.tree.PortDecl.{PortDecl}
use Rattle.vlog_tree.specs.declared.table.NetKind.{NetKind}
use Rattle.vlog_tree.specs.declared.table.NetKind.TheVariants.{Unknown, Input, Output, WireNet, Register, MemoryArray, ChildInstance}
use Rattle.vlog_tree.specs.declared.table.Declaration.{Declaration}
use Rattle.vlog_tree.specs.Form.{ModuleTree, is_input}

abbrev pub Name : Type 0
Name = List ℕ

abbrev pub one_if : Bool → ℕ
one_if b = if b then 1 else 0

unfoldable pub clk : Name
clk = codes "clk"

abbrev pub is_clk : Name → Bool
is_clk x = bytes_eq x clk

abbrev pub port_declared : PortDecl → Declaration
port_declared p = record { name = p.name; net_kind = if is_input p.direction then Input else Output; bits = p.width; cells = 0 }

abbrev pub items_declared : List Item → List Declaration
items_declared [] = []
items_declared (Wire w x ∷ items) = record { name = x; net_kind = WireNet; bits = w; cells = 0 } ∷ items_declared items
items_declared (Reg w x ∷ items) = record { name = x; net_kind = Register; bits = w; cells = 0 } ∷ items_declared items
items_declared (Memory w x n ∷ items) = record { name = x; net_kind = MemoryArray; bits = w; cells = n } ∷ items_declared items
items_declared (Instance m i connections ∷ items) = record { name = i; net_kind = ChildInstance; bits = 0; cells = 0 } ∷ items_declared items
items_declared (Assign x e ∷ items) = items_declared items
items_declared (Always b ∷ items) = items_declared items

-- the names of a module, in the order of the text
abbrev pub declared : ModuleTree → List Declaration
declared m = map port_declared m.ports ++ items_declared m.items

abbrev pub declaration_name : Declaration → Name
declaration_name d = d.name

-- a module's name, as a declaration among those of the other modules
abbrev pub module_declared : ModuleTree → Declaration
module_declared m = record { name = m.name; net_kind = Unknown; bits = 0; cells = 0 }

abbrev pub unknown : Declaration
unknown = record { name = []; net_kind = Unknown; bits = 0; cells = 0 }

-- the first that has this name
abbrev pub find_name : List Declaration → Name → Declaration
find_name [] x = unknown
find_name (d ∷ ds) x = if bytes_eq d.name x then d else find_name ds x

abbrev pub net_kind_of : List Declaration → Name → NetKind
net_kind_of ds x = (find_name ds x).net_kind

abbrev pub bits_of : List Declaration → Name → ℕ
bits_of ds x = (find_name ds x).bits

abbrev pub cells_of : List Declaration → Name → ℕ
cells_of ds x = (find_name ds x).cells

abbrev pub is_doubled_name : List Declaration → Name → Bool
is_doubled_name ds x = nat_le 2 (count_by (λ d. bytes_eq d.name x) ds)

-- how often a name is in a list
abbrev pub times_in : List Name → Name → ℕ
times_in names x = count_by (λ y. bytes_eq y x) names

-- the net kinds whose number can be read
abbrev pub net_kind_is_read : NetKind → Bool
net_kind_is_read Unknown = false
net_kind_is_read Input = true
net_kind_is_read Output = true
net_kind_is_read WireNet = true
net_kind_is_read Register = true
net_kind_is_read MemoryArray = false
net_kind_is_read ChildInstance = false

-- the net kinds that an assign or an instance may name as driven; an input among them is refused by the rule on drivers
abbrev pub net_kind_is_driven : NetKind → Bool
net_kind_is_driven Unknown = false
net_kind_is_driven Input = true
net_kind_is_driven Output = true
net_kind_is_driven WireNet = true
net_kind_is_driven Register = false
net_kind_is_driven MemoryArray = false
net_kind_is_driven ChildInstance = false

abbrev pub net_kind_is_wire : NetKind → Bool
net_kind_is_wire Unknown = false
net_kind_is_wire Input = false
net_kind_is_wire Output = false
net_kind_is_wire WireNet = true
net_kind_is_wire Register = false
net_kind_is_wire MemoryArray = false
net_kind_is_wire ChildInstance = false

abbrev pub net_kind_is_register : NetKind → Bool
net_kind_is_register Unknown = false
net_kind_is_register Input = false
net_kind_is_register Output = false
net_kind_is_register WireNet = false
net_kind_is_register Register = true
net_kind_is_register MemoryArray = false
net_kind_is_register ChildInstance = false

abbrev pub net_kind_is_memory : NetKind → Bool
net_kind_is_memory Unknown = false
net_kind_is_memory Input = false
net_kind_is_memory Output = false
net_kind_is_memory WireNet = false
net_kind_is_memory Register = false
net_kind_is_memory MemoryArray = true
net_kind_is_memory ChildInstance = false

abbrev pub net_kind_is_input : NetKind → Bool
net_kind_is_input Unknown = false
net_kind_is_input Input = true
net_kind_is_input Output = false
net_kind_is_input WireNet = false
net_kind_is_input Register = false
net_kind_is_input MemoryArray = false
net_kind_is_input ChildInstance = false

-- the first module of this name
abbrev pub module_named : List ModuleTree → Name → Option ModuleTree
module_named [] x = None
module_named (m ∷ ms) x = if bytes_eq m.name x then Some m else module_named ms x

abbrev pub ports_in : Option ModuleTree → List PortDecl
ports_in None = []
ports_in (Some m) = m.ports

abbrev pub ports_of : List ModuleTree → Name → List PortDecl
ports_of ms x = ports_in (module_named ms x)

abbrev pub is_module_name : List ModuleTree → Name → Bool
is_module_name ms x = is_some (module_named ms x)

-- a name of the text, and whether it breaks the rule there
abbrev pub NameUse : Type 0
NameUse = Name × Bool

-- the first name in the text that breaks the rule
abbrev pub first_violation : List NameUse → Option Name
first_violation [] = None
first_violation (u ∷ us) = if u.1 then Some u.0 else first_violation us

-- the names that each module declares
abbrev pub names_of : List ModuleTree → List (List Declaration)
names_of ms = map declared ms

abbrev pub all_ports : List ModuleTree → List (List Declaration)
all_ports ms = map (λ (m : ModuleTree). map port_declared m.ports) ms
