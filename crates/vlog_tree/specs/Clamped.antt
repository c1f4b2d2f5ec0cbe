-- Trees whose numbers are cut where the rule on widths refuses all that are larger, as machine numbers hold them: widths,
-- bits of a part and numbers of copies at 129, cells at 2^20 + 1, and a literal that no 128 bits hold as one of width 0.
use Rattle.std.specs.Prelude.{ℕ, ◌^◌, List, [], ◌∷◌, min, map, nat_lt, if◌then◌else◌}
use Rattle.vlog_tree.specs.declared.tree.Atom.{Atom}
use Rattle.vlog_tree.specs.declared.tree.Atom.TheVariants.{Net, Part, Literal}
use Rattle.vlog_tree.specs.declared.tree.Value.{Value}
use Rattle.vlog_tree.specs.declared.tree.Value.TheVariants.{Plain, Invert, Binary, Choose, Concat, Repeat, Cell}
use Rattle.vlog_tree.specs.declared.tree.Step.{Step}
use Rattle.vlog_tree.specs.declared.tree.Step.TheVariants.{If, Else, End, NonblockingAssign, MemoryAssign}
use Rattle.vlog_tree.specs.declared.tree.Item.{Item}
use Rattle.vlog_tree.specs.declared.tree.Item.TheVariants.{Wire, Reg, Memory, Assign, Always, Instance}
use Rattle.vlog_tree.specs.declared.tree.PortDecl.{PortDecl}
use Rattle.vlog_tree.specs.Form.{ModuleTree}

abbrev pub clamped_width : ℕ → ℕ
clamped_width w = min w 129

abbrev pub clamped_cells : ℕ → ℕ
clamped_cells n = min n 1048577

abbrev pub clamped_atom : Atom → Atom
clamped_atom (Net x) = Net x
clamped_atom (Part x high low) = Part x (clamped_width high) (clamped_width low)
clamped_atom (Literal w n) = if nat_lt n (2 ^ 128) then Literal (clamped_width w) n else Literal 0 0

abbrev pub clamped_value : Value → Value
clamped_value (Plain a) = Plain (clamped_atom a)
clamped_value (Invert a) = Invert (clamped_atom a)
clamped_value (Binary a op b) = Binary (clamped_atom a) op (clamped_atom b)
clamped_value (Choose c a b) = Choose (clamped_atom c) (clamped_atom a) (clamped_atom b)
clamped_value (Concat atoms) = Concat (map clamped_atom atoms)
clamped_value (Repeat n a) = Repeat (clamped_width n) (clamped_atom a)
clamped_value (Cell m x) = Cell m x

abbrev pub clamped_step : Step → Step
clamped_step (If c) = If c
clamped_step Else = Else
clamped_step End = End
clamped_step (NonblockingAssign x a) = NonblockingAssign x (clamped_atom a)
clamped_step (MemoryAssign m x a) = MemoryAssign m x (clamped_atom a)

abbrev pub clamped_item : Item → Item
clamped_item (Wire w x) = Wire (clamped_width w) x
clamped_item (Reg w x) = Reg (clamped_width w) x
clamped_item (Memory w x n) = Memory (clamped_width w) x (clamped_cells n)
clamped_item (Assign x e) = Assign x (clamped_value e)
clamped_item (Always b) = Always (map clamped_step b)
clamped_item (Instance m i connections) = Instance m i connections

abbrev pub clamped_port : PortDecl → PortDecl
clamped_port p = record { direction = p.direction; width = clamped_width p.width; name = p.name }

abbrev pub clamped : ModuleTree → ModuleTree
clamped m = record { name = m.name; ports = map clamped_port m.ports; items = map clamped_item m.items }
