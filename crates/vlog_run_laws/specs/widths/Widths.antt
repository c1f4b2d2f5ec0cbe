-- That the numbers of a run fit the widths that its modules declare, and that its operators take their operands.
use Rattle.std.specs.Prelude.{◌≡◌, ℕ, Bool, map, ◌^◌, ◌<◌, ◌≤◌, List, [], Some, false, IsTrue, slice_get, slice_index_or}
use Rattle.std.specs.List.{AllByRecursion}
use Rattle.tapa_base.specs.declared.shape.Port.{Port}
use Rattle.vlog_tree.specs.declared.tree.BinaryOp.{BinaryOp}
use Rattle.vlog_tree.specs.declared.tree.BinaryOp.TheVariants.{Plus, Minus, Times, Divide, Remainder, And, Or, Xor, ShiftLeft, ShiftRight, Equals, Differs, Less}
use Rattle.vlog_tree.specs.declared.tree.Value.{Value}
use Rattle.vlog_tree.specs.declared.tree.Value.TheVariants.{Plain, Invert, Binary, Choose, Concat, Repeat, Cell}
use Rattle.vlog_tree.specs.declared.tree.Item.TheVariants.{Memory, Assign, Instance}
use Rattle.vlog_tree.specs.declared.tree.Connection.{Connection}
use Rattle.vlog_tree.specs.declared.table.NetKind.TheVariants.{Input}
use Rattle.vlog_tree.specs.Form.{ModuleTree}
use Rattle.tapa_base.specs.Lists.{Has}
use Rattle.vlog_tree.specs.Table.{Name, is_clk, declared, port_declared, ports_of, net_kind_of, bits_of, net_kind_is_read, net_kind_is_input}
use Rattle.vlog_tree.specs.Cycle.{Cycle, Sizes, Path, Holds, PortHolds, atom_value, driven, module_at, Follows}
use Rattle.vlog_tree.specs.Refused.{IsSound, IsDesign}
use Rattle.vlog_tree.specs.Loops.{IsLoopless}
use Rattle.vlog_tree.specs.Environment.{Environment, FitsShape, RunsIn, shape_of, cells_at}
use Rattle.vlog_run_laws.specs.Beside.{RunsBeside, answers_in}

-- what a line may declare as a width
abbrev pub IsInRange : ℕ → Type 0
IsInRange w = (1 ≤ w) × (w ≤ 128)

-- the widths that a module declares are in range, and so is how many cells each of its memories has
pub record WidthsInRange (m : ModuleTree) : Type 0 where
  pub nets : (x : Name) → IsTrue (net_kind_is_read (net_kind_of (declared m) x)) → IsInRange (bits_of (declared m) x)
  pub cells : (w : ℕ) (y : Name) (k : ℕ) → Has m.items (Memory w y k) → IsInRange w × (k ≤ 1048576)

-- The numbers of a module's nets and cells in a cycle fit the widths that it declares. The clock's number is left open,
-- since no line reads it.
pub record NumbersFit (m : ModuleTree) (c : Cycle) : Type 0 where
  pub nets : (x : Name) → IsTrue (net_kind_is_read (net_kind_of (declared m) x)) → is_clk x ≡ false → c.net x < 2 ^ bits_of (declared m) x
  pub cells : (w : ℕ) (y : Name) (k : ℕ) → Has m.items (Memory w y k) → (a : ℕ) → a < k → c.cell y a < 2 ^ w

-- the cells of a memory outside, from these first ones, fit its width in this cycle
abbrev pub CellsFit : (ℕ → Cycle) → ℕ → Port → List ℕ → Type 0
CellsFit run n l first = AllByRecursion (λ v. v < 2 ^ l.bits) (cells_at run l.name first n)

-- the cells of all memories outside the top fit in this cycle
abbrev pub OutsideFits : ModuleTree → Environment → (ℕ → Cycle) → ℕ → Type 0
OutsideFits top env run n = (i : ℕ) (l : Port) → slice_get (shape_of top).memories i ≡ Some l → CellsFit run n l (slice_index_or env.memories i [])

-- in each cycle the numbers of all modules fit, and the cells of the memories outside
pub record RunFits (ms : List ModuleTree) (top : ModuleTree) (env : Environment) (nets : ℕ → Path → Cycle) : Type 0 where
  pub modules : (n : ℕ) (path : Path) (m : ModuleTree) → module_at ms top path ≡ Some m → NumbersFit m (nets n path)
  pub outside : (n : ℕ) → OutsideFits top env (λ k. nets k []) n

-- beside memories that show a cell where they answer and nothing is stored they fit too
abbrev pub NumbersFitBeside : Type 0
NumbersFitBeside =
    (ms : List ModuleTree) (place : ℕ) (top : ModuleTree) (env : Environment) (answers : ℕ → ℕ → Bool) (nets : ℕ → Path → Cycle)
    → IsDesign ms place → slice_get ms place ≡ Some top → FitsShape env (shape_of top) → RunsBeside ms top env answers nets → RunFits ms top env nets

-- and each run in an environment is one beside such memories
abbrev pub EnvironmentsShowCells : Type 0
EnvironmentsShowCells =
    (ms : List ModuleTree) (place : ℕ) (top : ModuleTree) (env : Environment) (nets : ℕ → Path → Cycle)
    → IsDesign ms place → slice_get ms place ≡ Some top → FitsShape env (shape_of top) → RunsIn ms top env nets → RunsBeside ms top env (answers_in env) nets

-- an operator takes its operands, for a target of w bits: a difference is of numbers that fit it, and a divisor is not 0
abbrev pub TakesOperands : ℕ → BinaryOp → ℕ → ℕ → Type 0
TakesOperands w Minus a b = (a < 2 ^ w) × (b < 2 ^ w)
TakesOperands w Divide a b = 0 < b
TakesOperands w Remainder a b = 0 < b
TakesOperands w Plus a b = Unit {0}
TakesOperands w Times a b = Unit {0}
TakesOperands w And a b = Unit {0}
TakesOperands w Or a b = Unit {0}
TakesOperands w Xor a b = Unit {0}
TakesOperands w ShiftLeft a b = Unit {0}
TakesOperands w ShiftRight a b = Unit {0}
TakesOperands w Equals a b = Unit {0}
TakesOperands w Differs a b = Unit {0}
TakesOperands w Less a b = Unit {0}

-- the operator of a driver, where it has one, takes its operands
abbrev pub Operates : ℕ → Cycle → Value → Type 0
Operates w c (Binary a op b) = TakesOperands w op (atom_value c a) (atom_value c b)
Operates w c (Plain a) = Unit {0}
Operates w c (Invert a) = Unit {0}
Operates w c (Choose t a b) = Unit {0}
Operates w c (Concat atoms) = Unit {0}
Operates w c (Repeat n a) = Unit {0}
Operates w c (Cell m x) = Unit {0}

-- a driver of a target of w bits, where the sizes are s
pub record DriverFits (s : Sizes) (w : ℕ) (c : Cycle) (e : Value) : Type 0 where
  pub bits : IsInRange w
  pub operands : Operates w c e
  pub value : driven s w c e < 2 ^ w

-- each driver of a module fits in this cycle, by sizes that its ports and lines allow
abbrev pub DriversFit : ModuleTree → Cycle → Type 0
DriversFit m c =
    (s : Sizes) → AllByRecursion (PortHolds s) m.ports → AllByRecursion (Holds s c) m.items
    → (x : Name) (e : Value) → Has m.items (Assign x e) → DriverFits s (bits_of (declared m) x) c e

-- what a module is given in a cycle fits: its own inputs, and the nets that outputs of its instances drive
pub record GivenFits (ms : List ModuleTree) (m : ModuleTree) (c : Cycle) : Type 0 where
  pub inputs : (x : Name) → net_kind_of (declared m) x ≡ Input → is_clk x ≡ false → c.net x < 2 ^ bits_of (declared m) x
  pub outputs : (kn i : Name) (connections : List Connection) → Has m.items (Instance kn i connections) → (l : Connection) → Has connections l
      → net_kind_is_input (net_kind_of (map port_declared (ports_of ms kn)) l.port) ≡ false → c.net l.net < 2 ^ bits_of (declared m) l.net

-- a run of one module, where what it is given fits in every cycle: then all its numbers do
abbrev pub OneModuleFits : Type 0
OneModuleFits =
    (ms : List ModuleTree) (is_top : Name → Bool) → IsSound ms → IsLoopless ms is_top → (m : ModuleTree) → Has ms m → (run : ℕ → Cycle) → Follows m run
    → ((n : ℕ) → GivenFits ms m (run n)) → (n : ℕ) → NumbersFit m (run n)
