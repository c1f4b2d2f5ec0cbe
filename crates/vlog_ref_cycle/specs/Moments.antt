-- What it is for a run to be in the state of a cycle snapshot.
use Rattle.std.specs.Prelude.{◌≡◌, ℕ, ◌<◌, Bool, List, Some, length, get_or, slice_get, slice_index, slice_index_or, [], ◌&&◌, is_some}
use Rattle.std.specs.List.{AllByRecursion}
use Rattle.tapa_base.specs.declared.shape.Port.{Port}
use Rattle.vlog_tree.specs.declared.tree.Item.{Item}
use Rattle.vlog_tree.specs.declared.tree.Item.TheVariants.{Reg, Memory}
use Rattle.vlog_tree.specs.Form.{ModuleTree}
use Rattle.tapa_base.specs.Lists.{Has}
use Rattle.vlog_tree.specs.Cycle.{Cycle, Path, module_at}
use Rattle.vlog_tree.specs.Table.{Name}
use Rattle.vlog_tree.specs.Labels.{s_din, s_wr, s_rdy}
use Rattle.vlog_ref_cycle.specs.Numbers.{number_at}
use Rattle.vlog_tree.specs.Environment.{Environment, RunsIn, shape_of, cells_at}
use Rattle.vlog_values.specs.declared.numbers.NetNumber.{NetNumber}
use Rattle.vlog_values.specs.declared.numbers.MemoryCells.{MemoryCells}
use Rattle.vlog_values.specs.declared.moment.Circuit.{Circuit}
use Rattle.vlog_values.specs.declared.moment.Held.{Held}
use Rattle.vlog_values.specs.declared.moment.OutsideMemory.{OutsideMemory}
use Rattle.vlog_values.specs.declared.moment.Moment.{Moment}

-- a register of a module, with the number that it has
abbrev pub RegisterIs : List Item → Cycle → NetNumber → Type 0
RegisterIs items c r = Has items (Reg r.bits r.name) × (c.net r.name ≡ r.number)

-- a memory of a module, with all its cells
abbrev pub MemoryIs : List Item → Cycle → MemoryCells → Type 0
MemoryIs items c k = ((w : ℕ) × Has items (Memory w k.name (length k.cells.items))) × ((a : ℕ) → a < length k.cells.items → c.cell k.name a ≡ get_or k.cells.items a 0)

-- an instance holds in a cycle what its registers and memories have in the run
pub record HeldIs (ms : List ModuleTree) (top : ModuleTree) (nets : Path → Cycle) (h : Held) : Type 0 where
  pub tree : ModuleTree
  pub at : module_at ms top h.path.items ≡ Some tree
  pub registers : AllByRecursion (RegisterIs tree.items (nets h.path.items)) h.nets.items
  pub memories : AllByRecursion (MemoryIs tree.items (nets h.path.items)) h.memories.items

-- a scalar has a label of the top's, and the number that the environment gives there
pub record ScalarIs (env : Environment) (labels : List Port) (v : NetNumber) : Type 0 where
  pub place : ℕ
  pub label : Port
  pub got : slice_get labels place ≡ Some label
  pub name : v.name ≡ label.name
  pub number : v.number ≡ slice_index env.scalars place

-- a memory around the design has a label of the top's, the cells of this cycle, and the ready bits of the environment
pub record OutsideIs (env : Environment) (run : ℕ → Cycle) (n : ℕ) (labels : List Port) (o : OutsideMemory) : Type 0 where
  pub place : ℕ
  pub label : Port
  pub got : slice_get labels place ≡ Some label
  pub name : o.name ≡ label.name
  pub cells : o.cells.items ≡ cells_at run o.name (slice_index_or env.memories place []) n
  pub bits : o.ready.items ≡ slice_index_or env.ready place []

-- a run in an environment is at this snapshot: all that the snapshot has is what the run has in its cycle
pub record IsAt (ms : List ModuleTree) (top : ModuleTree) (env : Environment) (nets : ℕ → Path → Cycle) (now : Moment) : Type 0 where
  pub held : AllByRecursion (HeldIs ms top (nets now.cycle)) now.held.items
  pub scalars : AllByRecursion (ScalarIs env (shape_of top).scalars) now.scalars.items
  pub outside : AllByRecursion (OutsideIs env (λ n. nets n []) now.cycle (shape_of top).memories) now.outside.items

-- a run of a design in an environment that is at this snapshot
pub data IsRunAt (c : Circuit) (now : Moment) (env : Environment) (nets : ℕ → Path → Cycle) : Type 0 where
  run_at : RunsIn c.modules.now c.top.now env nets → IsAt c.modules.now c.top.now env nets now → IsRunAt c now env nets

-- what is true of each run, in any environment, that is at this snapshot
abbrev pub InEachRun : Circuit → Moment → (Environment → (ℕ → Path → Cycle) → Type 0) → Type 0
InEachRun c now P = (env : Environment) (nets : ℕ → Path → Cycle) → IsRunAt c now env nets → P env nets

-- what a stream's wires have is known, in a number of steps up to a depth
abbrev pub stream_known : Circuit → Moment → ℕ → Name → Bool
stream_known c now d x = is_some (number_at c now d [] (s_wr x)) && is_some (number_at c now d [] (s_rdy x)) && is_some (number_at c now d [] (s_din x))
