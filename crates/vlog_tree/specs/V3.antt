-- Widths and values.
use Rattle.std.specs.Prelude.{ℕ, ◌+◌, ◌-◌, ◌*◌, ◌^◌, Bool, true, false, ◌&&◌, List, [], ◌∷◌, ◌++◌, nat_le, nat_lt, ◌==◌, map, sum, not}
use Rattle.std.specs.List.{list_all, flat_map}
use Rattle.vlog_tree.specs.declared.tree.Atom.{Atom}
use Rattle.vlog_tree.specs.declared.tree.Atom.TheVariants.{Net, Part, Literal}
use Rattle.vlog_tree.specs.declared.tree.BinaryOp.{BinaryOp}
use Rattle.vlog_tree.specs.declared.tree.BinaryOp.TheVariants.{Plus, Minus, Times, Divide, Remainder, And, Or, Xor, ShiftLeft, ShiftRight, Equals, Differs, Less}
use Rattle.vlog_tree.specs.declared.tree.Value.{Value}
use Rattle.vlog_tree.specs.declared.tree.Value.TheVariants.{Plain, Invert, Binary, Choose, Concat, Repeat, Cell}
use Rattle.vlog_tree.specs.declared.tree.Step.{Step}
use Rattle.vlog_tree.specs.declared.tree.Step.TheVariants.{If, Else, End, NonblockingAssign, MemoryAssign}
use Rattle.vlog_tree.specs.declared.tree.Connection.{Connection}
use Rattle.vlog_tree.specs.declared.tree.Item.{Item}
use Rattle.vlog_tree.specs.declared.tree.Item.TheVariants.{Wire, Reg, Memory, Assign, Always, Instance}
use Rattle.vlog_tree.specs.declared.tree.PortDecl.{PortDecl}
use Rattle.vlog_tree.specs.declared.table.Declaration.{Declaration}
use Rattle.vlog_tree.specs.Form.{ModuleTree}
use Rattle.vlog_tree.specs.Table.{Name, NameUse, declared, port_declared, bits_of, cells_of, ports_of}

abbrev pub is_width : ℕ → Bool
is_width w = nat_le 1 w && nat_le w 128

-- how many cells a memory may have
abbrev pub is_cell_count : ℕ → Bool
is_cell_count n = nat_le 1 n && nat_le n 1048576

-- a net or a memory can be used only where its own line is right, so numbers past the limits need not be kept apart
abbrev pub net_fits : List Declaration → Name → Bool
net_fits ds x = is_width (bits_of ds x)

abbrev pub memory_fits : List Declaration → Name → Bool
memory_fits ds m = is_width (bits_of ds m) && is_cell_count (cells_of ds m)

abbrev pub atom_bits : List Declaration → Atom → ℕ
atom_bits ds (Net x) = bits_of ds x
atom_bits ds (Part x high low) = high + 1 - low
atom_bits ds (Literal w n) = w

abbrev pub atom_fits : List Declaration → Atom → Bool
atom_fits ds (Net x) = net_fits ds x
atom_fits ds (Part x high low) = net_fits ds x && nat_le 2 (bits_of ds x) && nat_le low high && nat_lt high (bits_of ds x)
atom_fits ds (Literal w n) = is_width w && nat_lt n (2 ^ w)

-- an atom of w bits
abbrev pub has_bits : List Declaration → ℕ → Atom → Bool
has_bits ds w a = atom_fits ds a && (atom_bits ds a == w)

abbrev pub is_divisor : Atom → Bool
is_divisor (Net x) = false
is_divisor (Part x high low) = false
is_divisor (Literal w n) = not (n == 0)

abbrev pub op_fits : List Declaration → ℕ → BinaryOp → Atom → Atom → Bool
op_fits ds w Plus a b = has_bits ds w a && has_bits ds w b
op_fits ds w Minus a b = has_bits ds w a && has_bits ds w b
op_fits ds w Times a b = has_bits ds w a && has_bits ds w b
op_fits ds w Divide a b = has_bits ds w a && has_bits ds w b && is_divisor b
op_fits ds w Remainder a b = has_bits ds w a && has_bits ds w b && is_divisor b
op_fits ds w And a b = has_bits ds w a && has_bits ds w b
op_fits ds w Or a b = has_bits ds w a && has_bits ds w b
op_fits ds w Xor a b = has_bits ds w a && has_bits ds w b
op_fits ds w ShiftLeft a b = has_bits ds w a && atom_fits ds b
op_fits ds w ShiftRight a b = has_bits ds w a && atom_fits ds b
op_fits ds w Equals a b = (w == 1) && atom_fits ds a && has_bits ds (atom_bits ds a) b
op_fits ds w Differs a b = (w == 1) && atom_fits ds a && has_bits ds (atom_bits ds a) b
op_fits ds w Less a b = (w == 1) && atom_fits ds a && has_bits ds (atom_bits ds a) b

-- a driver for a target of w bits
abbrev pub value_fits : List Declaration → ℕ → Value → Bool
value_fits ds w (Plain a) = has_bits ds w a
value_fits ds w (Invert a) = has_bits ds w a
value_fits ds w (Binary a op b) = op_fits ds w op a b
value_fits ds w (Choose c a b) = has_bits ds 1 c && has_bits ds w a && has_bits ds w b
value_fits ds w (Concat atoms) = list_all (atom_fits ds) atoms && (sum (map (atom_bits ds) atoms) == w)
value_fits ds w (Repeat n a) = atom_fits ds a && (n * atom_bits ds a == w)
value_fits ds w (Cell m x) = memory_fits ds m && net_fits ds x && (bits_of ds m == w)

abbrev pub step_widths : List Declaration → Step → List NameUse
step_widths ds (If c) = (c, not (bits_of ds c == 1)) ∷ []
step_widths ds Else = []
step_widths ds End = []
step_widths ds (NonblockingAssign x a) = (x, not (net_fits ds x && has_bits ds (bits_of ds x) a)) ∷ []
step_widths ds (MemoryAssign m x a) = (m, not (memory_fits ds m && net_fits ds x && has_bits ds (bits_of ds m) a)) ∷ []

unfoldable pub connection_widths : List Declaration → List Declaration → Connection → List NameUse
connection_widths ports ds l = (l.port, not (net_fits ds l.net && (bits_of ports l.port == bits_of ds l.net))) ∷ []

unfoldable pub item_widths : List ModuleTree → List Declaration → Item → List NameUse
item_widths ms ds (Wire w x) = (x, not (is_width w)) ∷ []
item_widths ms ds (Reg w x) = (x, not (is_width w)) ∷ []
item_widths ms ds (Memory w x n) = (x, not (is_width w && is_cell_count n)) ∷ []
item_widths ms ds (Assign x e) = (x, not (net_fits ds x && value_fits ds (bits_of ds x) e)) ∷ []
item_widths ms ds (Always b) = flat_map (step_widths ds) b
item_widths ms ds (Instance m i connections) = flat_map (connection_widths (map port_declared (ports_of ms m)) ds) connections

unfoldable pub port_widths : PortDecl → List NameUse
port_widths p = (p.name, not (is_width p.width)) ∷ []

unfoldable pub module_widths : List ModuleTree → ModuleTree → List NameUse
module_widths ms m = flat_map port_widths m.ports ++ flat_map (item_widths ms (declared m)) m.items

-- each port, step, connection and other line by its first name
abbrev pub v3_uses : List ModuleTree → List NameUse
v3_uses ms = flat_map (module_widths ms) ms
