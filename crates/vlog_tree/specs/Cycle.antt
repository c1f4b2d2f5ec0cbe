-- What a design does, cycle by cycle.
use Rattle.std.specs.Prelude.{◌≡◌, ◌+◌, ◌-◌, ◌*◌, ◌/◌, ◌%◌, ◌^◌, ◌<◌, ◌∷◌}
use Rattle.std.specs.Prelude.{ℕ, zero, suc, Bool, true, false, List, [], Option, Some, None, bit_and, bit_or, bit_xor, nat_lt}
use Rattle.std.specs.Prelude.{◌==◌, ◌&&◌, if◌then◌else◌, bytes_eq, not}
use Rattle.std.specs.List.{AllByRecursion, list_all}
use Rattle.vlog_tree.specs.declared.tree.Atom.{Atom}
use Rattle.vlog_tree.specs.declared.tree.Atom.TheVariants.{Net, Part, Literal}
use Rattle.vlog_tree.specs.declared.tree.BinaryOp.{BinaryOp}
use Rattle.vlog_tree.specs.declared.tree.BinaryOp.TheVariants.{Plus, Minus, Times, Divide, Remainder, And, Or, Xor, ShiftLeft, ShiftRight, Equals, Differs, Less}
use Rattle.vlog_tree.specs.declared.tree.Value.{Value}
use Rattle.vlog_tree.specs.declared.tree.Value.TheVariants.{Plain, Invert, Binary, Choose, Concat, Repeat, Cell}
use Rattle.vlog_tree.specs.declared.tree.Step.{Step}
use Rattle.vlog_tree.specs.declared.tree.Step.TheVariants.{If, Else, End, NonblockingAssign, MemoryAssign}
use Rattle.vlog_tree.specs.declared.tree.Item.{Item}
use Rattle.vlog_tree.specs.declared.tree.Item.TheVariants.{Wire, Reg, Memory, Assign, Always, Instance}
use Rattle.vlog_tree.specs.declared.tree.PortDecl.{PortDecl}
use Rattle.vlog_tree.specs.Form.{ModuleTree}
use Rattle.vlog_tree.specs.Table.{Name, one_if, module_named}

-- the numbers of a module's nets and of its memories' cells in one cycle
pub record Cycle : Type 0 where
  pub net : Name → ℕ
  pub cell : Name → ℕ → ℕ

-- the declared width of each net or cell, and the number of cells of each memory
pub record Sizes : Type 0 where
  pub width : Name → ℕ
  pub cells : Name → ℕ

abbrev pub atom_value : Cycle → Atom → ℕ
atom_value c (Net x) = c.net x
atom_value c (Part x high low) = (c.net x / 2 ^ low) % 2 ^ (high + 1 - low)
atom_value c (Literal w n) = n

abbrev pub atom_width : Sizes → Atom → ℕ
atom_width s (Net x) = s.width x
atom_width s (Part x high low) = high + 1 - low
atom_width s (Literal w n) = w

-- the result of an operator, for a target of w bits
abbrev pub op_value : ℕ → BinaryOp → ℕ → ℕ → ℕ
op_value w Plus a b = (a + b) % 2 ^ w
op_value w Minus a b = (a + 2 ^ w - b) % 2 ^ w
op_value w Times a b = (a * b) % 2 ^ w
op_value w Divide a b = a / b
op_value w Remainder a b = a % b
op_value w And a b = bit_and a b
op_value w Or a b = bit_or a b
op_value w Xor a b = bit_xor a b
op_value w ShiftLeft a b = (a * 2 ^ b) % 2 ^ w
op_value w ShiftRight a b = a / 2 ^ b
op_value w Equals a b = one_if (a == b)
op_value w Differs a b = one_if (not (a == b))
op_value w Less a b = one_if (nat_lt a b)

-- parts below a number that is there, the highest first
abbrev pub joined : Sizes → Cycle → ℕ → List Atom → ℕ
joined s c n [] = n
joined s c n (a ∷ atoms) = joined s c (n * 2 ^ atom_width s a + atom_value c a) atoms

abbrev pub copies : ℕ → ℕ → ℕ → ℕ
copies w a zero = 0
copies w a (suc n) = copies w a n * 2 ^ w + a

-- a cell, and 0 past the end
abbrev pub read_cell : Sizes → Cycle → Name → ℕ → ℕ
read_cell s c m n = if nat_lt n (s.cells m) then c.cell m n else 0

-- the value of a driver, for a target of w bits
abbrev pub driven : Sizes → ℕ → Cycle → Value → ℕ
driven s w c (Plain a) = atom_value c a
driven s w c (Invert a) = 2 ^ w - 1 - atom_value c a
driven s w c (Binary a op b) = op_value w op (atom_value c a) (atom_value c b)
driven s w c (Choose t a b) = if atom_value c t == 1 then atom_value c a else atom_value c b
driven s w c (Concat atoms) = joined s c 0 atoms
driven s w c (Repeat n a) = copies (atom_width s a) (atom_value c a) n
driven s w c (Cell m x) = read_cell s c m (c.net x)

-- the sizes are those of a line, and a driven net has its driver's value
abbrev pub Holds : Sizes → Cycle → Item → Type 0
Holds s c (Wire w x) = s.width x ≡ w
Holds s c (Reg w x) = s.width x ≡ w
Holds s c (Memory w m n) = (s.width m ≡ w) × (s.cells m ≡ n)
Holds s c (Assign x e) = c.net x ≡ driven s (s.width x) c e
Holds s c (Always b) = Unit {0}
Holds s c (Instance m i connections) = Unit {0}

abbrev pub PortHolds : Sizes → PortDecl → Type 0
PortHolds s p = s.width p.name ≡ p.width

-- one number changed
abbrev pub put : Name → ℕ → Cycle → Cycle
put x n next = record { net = λ y. if bytes_eq y x then n else next.net y; cell = next.cell }

-- one cell changed, and nothing past the end
abbrev pub store : Sizes → Name → ℕ → ℕ → Cycle → Cycle
store s m a n next = record { net = next.net; cell = λ k b. if bytes_eq k m && (b == a) && nat_lt a (s.cells m) then n else next.cell k b }

-- What steps leave for the next cycle, over what the steps before them left. `on` says of each part that is open, the
-- innermost first, whether it runs. All numbers that are read are the old ones, and of two writes the last one stays.
abbrev pub run_steps : Sizes → Cycle → List Bool → List Step → Cycle → Cycle
run_steps s old on [] next = next
run_steps s old on (If c ∷ steps) next = run_steps s old ((old.net c == 1) ∷ on) steps next
run_steps s old [] (Else ∷ steps) next = next
run_steps s old (b ∷ on) (Else ∷ steps) next = run_steps s old (not b ∷ on) steps next
run_steps s old [] (End ∷ steps) next = next
run_steps s old (b ∷ on) (End ∷ steps) next = run_steps s old on steps next
run_steps s old on (NonblockingAssign x a ∷ steps) next = run_steps s old on steps (if list_all (λ b. b) on then put x (atom_value old a) next else next)
run_steps s old on (MemoryAssign m x a ∷ steps) next = run_steps s old on steps (if list_all (λ b. b) on then store s m (old.net x) (atom_value old a) next else next)

-- what all blocks leave
abbrev pub run_items : Sizes → Cycle → List Item → Cycle → Cycle
run_items s old [] next = next
run_items s old (Always b ∷ items) next = run_items s old items (run_steps s old [] b next)
run_items s old (Wire w x ∷ items) next = run_items s old items next
run_items s old (Reg w x ∷ items) next = run_items s old items next
run_items s old (Memory w m n ∷ items) next = run_items s old items next
run_items s old (Assign x e ∷ items) next = run_items s old items next
run_items s old (Instance m i connections ∷ items) next = run_items s old items next

-- a register or a memory goes from its numbers in old to those in new
abbrev pub Takes : Sizes → List Item → Cycle → Cycle → Item → Type 0
Takes s all old new (Reg w x) = new.net x ≡ (run_items s old all old).net x
Takes s all old new (Memory w m n) = (a : ℕ) → a < n → new.cell m a ≡ (run_items s old all old).cell m a
Takes s all old new (Wire w x) = Unit {0}
Takes s all old new (Assign x e) = Unit {0}
Takes s all old new (Always b) = Unit {0}
Takes s all old new (Instance m i connections) = Unit {0}

-- in cycle 0 registers and memories hold any numbers that fit
abbrev pub PowersUp : Cycle → Item → Type 0
PowersUp c (Reg w x) = c.net x < 2 ^ w
PowersUp c (Memory w m n) = (a : ℕ) → a < n → c.cell m a < 2 ^ w
PowersUp c (Wire w x) = Unit {0}
PowersUp c (Assign x e) = Unit {0}
PowersUp c (Always b) = Unit {0}
PowersUp c (Instance m i connections) = Unit {0}

-- these are the numbers of a module in the cycles 0, 1, 2 and so on, as far as its own lines say
pub record Follows (m : ModuleTree) (run : ℕ → Cycle) : Type 0 where
  pub sizes : Sizes
  pub ports : AllByRecursion (PortHolds sizes) m.ports
  pub lines : (n : ℕ) → AllByRecursion (Holds sizes (run n)) m.items
  pub power_up : AllByRecursion (PowersUp (run 0)) m.items
  pub registers : (n : ℕ) → AllByRecursion (Takes sizes m.items (run n) (run (suc n))) m.items

-- the instance names on the way to an instance, the innermost first
abbrev pub Path : Type 0
Path = List Name

abbrev pub and_then : {A B : Type 0} → Option A → (A → Option B) → Option B
and_then None f = None
and_then (Some x) f = f x

-- the name of the module whose instance has this name
abbrev pub child_of : List Item → Name → Option Name
child_of [] x = None
child_of (Instance m i connections ∷ items) x = if bytes_eq i x then Some m else child_of items x
child_of (Wire w y ∷ items) x = child_of items x
child_of (Reg w y ∷ items) x = child_of items x
child_of (Memory w y n ∷ items) x = child_of items x
child_of (Assign y e ∷ items) x = child_of items x
child_of (Always b ∷ items) x = child_of items x

-- the module at the end of a path
abbrev pub module_at : List ModuleTree → ModuleTree → Path → Option ModuleTree
module_at ms top [] = Some top
module_at ms top (x ∷ path) = and_then (module_at ms top path) (λ m. and_then (child_of m.items x) (module_named ms))

-- a port of an instance has the number of the net that it is connected to
abbrev pub Connected : (Path → Cycle) → Path → Item → Type 0
Connected nets path (Instance m i connections) = AllByRecursion (λ l. (nets (i ∷ path)).net l.port ≡ (nets path).net l.net) connections
Connected nets path (Wire w x) = Unit {0}
Connected nets path (Reg w x) = Unit {0}
Connected nets path (Memory w x n) = Unit {0}
Connected nets path (Assign x e) = Unit {0}
Connected nets path (Always b) = Unit {0}

-- the numbers of a whole design in the cycles 0, 1, 2 and so on; a flattened net is a path and a name
pub record Runs (ms : List ModuleTree) (top : ModuleTree) (nets : ℕ → Path → Cycle) : Type 0 where
  pub each : (path : Path) (m : ModuleTree) → module_at ms top path ≡ Some m → Follows m (λ n. nets n path)
  pub connections : (n : ℕ) (path : Path) (m : ModuleTree) → module_at ms top path ≡ Some m → AllByRecursion (Connected (nets n) path) m.items

-- what one step leaves for the steps after it
abbrev pub step_next : Sizes → Cycle → List Bool → Step → Cycle → Cycle
step_next s old on (NonblockingAssign x a) next = if list_all (λ b. b) on then put x (atom_value old a) next else next
step_next s old on (MemoryAssign m x a) next = if list_all (λ b. b) on then store s m (old.net x) (atom_value old a) next else next
step_next s old on (If c) next = next
step_next s old on Else next = next
step_next s old on End next = next
