-- The numbers of a tree.
use Rattle.std.specs.Prelude.{ℕ, ◌^◌, ◌<◌, List, [], ◌∷◌, ◌++◌}
use Rattle.std.specs.List.{flat_map, AllByRecursion}
use Rattle.vlog_tree.specs.declared.tree.Atom.{Atom}
use Rattle.vlog_tree.specs.declared.tree.Atom.TheVariants.{Net, Part, Literal}
use Rattle.vlog_tree.specs.declared.tree.Value.{Value}
use Rattle.vlog_tree.specs.declared.tree.Value.TheVariants.{Plain, Invert, Binary, Choose, Concat, Repeat, Cell}
use Rattle.vlog_tree.specs.declared.tree.Step.{Step}
use Rattle.vlog_tree.specs.declared.tree.Step.TheVariants.{If, Else, End, NonblockingAssign, MemoryAssign}
use Rattle.vlog_tree.specs.declared.tree.Item.{Item}
use Rattle.vlog_tree.specs.declared.tree.Item.TheVariants.{Wire, Reg, Memory, Assign, Always, Instance}
use Rattle.vlog_tree.specs.Form.{ModuleTree}

abbrev pub atom_numbers : Atom → List ℕ
atom_numbers (Net x) = []
atom_numbers (Part x high low) = high ∷ low ∷ []
atom_numbers (Literal width value) = width ∷ value ∷ []

abbrev pub value_numbers : Value → List ℕ
value_numbers (Plain a) = atom_numbers a
value_numbers (Invert a) = atom_numbers a
value_numbers (Binary a op b) = atom_numbers a ++ atom_numbers b
value_numbers (Choose c a b) = atom_numbers c ++ (atom_numbers a ++ atom_numbers b)
value_numbers (Concat atoms) = flat_map atom_numbers atoms
value_numbers (Repeat n a) = n ∷ atom_numbers a
value_numbers (Cell memory x) = []

abbrev pub step_numbers : Step → List ℕ
step_numbers (If c) = []
step_numbers Else = []
step_numbers End = []
step_numbers (NonblockingAssign x a) = atom_numbers a
step_numbers (MemoryAssign m x a) = atom_numbers a

abbrev pub item_numbers : Item → List ℕ
item_numbers (Wire bits x) = bits ∷ []
item_numbers (Reg bits x) = bits ∷ []
item_numbers (Memory bits x cells) = bits ∷ cells ∷ []
item_numbers (Assign x value) = value_numbers value
item_numbers (Always steps) = flat_map step_numbers steps
item_numbers (Instance m x connections) = []

abbrev pub module_numbers : ModuleTree → List ℕ
module_numbers m = flat_map (λ p. p.width ∷ []) m.ports ++ flat_map item_numbers m.items

-- Each number of the tree is one that `decimal` writes with all its digits. The types of a tree hold numbers below 2 ^ 128.
abbrev pub HasWrittenNumbers : ModuleTree → Type 0
HasWrittenNumbers m = AllByRecursion (λ n. n < 10 ^ 64) (module_numbers m)
