-- What registers and memories hold in the next cycle.
use Rattle.std.specs.Prelude.{◌≡◌, ℕ, ◌+◌, ◌<◌, ◌^◌, Bool, ◌&&◌, List, [], ◌∷◌, is_some, nat_lt, ◌==◌, length, get_or, slice_set, bytes_eq, if◌then◌else◌, map}
use Rattle.std.specs.List.{flat_map, list_all, AllByRecursion}
use Rattle.vlog_tree.specs.Form.{ModuleTree}
use Rattle.vlog_tree.specs.Table.{declared, Name}
use Rattle.vlog_tree.specs.Grounded.{AllTwo}
use Rattle.tapa_base.specs.Lists.{Has}
use Rattle.vlog_tree.specs.Labels.{m_ack, m_we, m_addr, m_wdata}
use Rattle.vlog_tree.specs.declared.tree.Step.{Step}
use Rattle.vlog_tree.specs.declared.tree.Step.TheVariants.{If, Else, End, NonblockingAssign, MemoryAssign}
use Rattle.vlog_tree.specs.declared.tree.Item.{Item}
use Rattle.vlog_tree.specs.declared.tree.Item.TheVariants.{Wire, Reg, Memory, Assign, Always, Instance}
use Rattle.vlog_tree.specs.Cycle.{Cycle, Sizes, and_then, module_at, atom_value, put, store, run_steps}
use Rattle.vlog_tree.specs.Environment.{set_cell}
use Rattle.vlog_tree.specs.Loops.{atom_nets}
use Rattle.vlog_values.specs.declared.numbers.NetNumber.{NetNumber}
use Rattle.vlog_values.specs.declared.numbers.MemoryCells.{MemoryCells}
use Rattle.vlog_values.specs.Numbers.{net_in}
use Rattle.vlog_values.specs.declared.moment.Held.{Held}
use Rattle.vlog_values.specs.declared.moment.OutsideMemory.{OutsideMemory}
use Rattle.vlog_values.specs.declared.moment.Circuit.{Circuit}
use Rattle.vlog_values.specs.declared.moment.Moment.{Moment}
use Rattle.vlog_ref_cycle.specs.Sources.{net_read}
use Rattle.vlog_ref_cycle.specs.Numbers.{all_numbers, number_at}

-- the nets that a step reads
abbrev pub step_nets : Step → List Name
step_nets (If c) = c ∷ []
step_nets Else = []
step_nets End = []
step_nets (NonblockingAssign x a) = atom_nets a
step_nets (MemoryAssign m x a) = x ∷ atom_nets a

abbrev pub item_nets : Item → List Name
item_nets (Always b) = flat_map step_nets b
item_nets (Wire w x) = []
item_nets (Reg w x) = []
item_nets (Memory w m n) = []
item_nets (Assign x e) = []
item_nets (Instance m i connections) = []

-- registers and memories have the numbers of a cycle
abbrev pub ShowsNet : Cycle → NetNumber → Type 0
ShowsNet c n = c.net n.name ≡ n.number

abbrev pub TellsCells : Cycle → MemoryCells → Type 0
TellsCells c m = (a : ℕ) → a < length m.cells.items → c.cell m.name a ≡ get_or m.cells.items a 0

abbrev pub Shows : Held → Cycle → Type 0
Shows h c = AllByRecursion (ShowsNet c) h.nets.items × AllByRecursion (TellsCells c) h.memories.items

-- the same registers and memories, whatever their numbers
abbrev pub net_shape : NetNumber → Name × ℕ
net_shape n = (n.name, n.bits)

abbrev pub memory_shape : MemoryCells → Name × ℕ
memory_shape m = (m.name, length m.cells.items)

pub record IsAlike (h k : Held) : Type 0 where
  pub path : k.path.items ≡ h.path.items
  pub nets : map net_shape k.nets.items ≡ map net_shape h.nets.items
  pub memories : map memory_shape k.memories.items ≡ map memory_shape h.memories.items

-- a memory around the design, whatever its cells hold
pub record IsSameMemory (o j : OutsideMemory) : Type 0 where
  pub name : j.name ≡ o.name
  pub ready : j.ready.items ≡ o.ready.items
  pub cells : length j.cells.items ≡ length o.cells.items

-- a later snapshot has all that this one has, whatever the numbers
pub record IsKept (now after : Moment) : Type 0 where
  pub held : AllTwo IsAlike now.held.items after.held.items
  pub scalars : after.scalars.items ≡ now.scalars.items
  pub outside : AllTwo IsSameMemory now.outside.items after.outside.items

-- a register with a number that was put, where it has the name
abbrev pub put_net : Name → ℕ → NetNumber → NetNumber
put_net x v r = record { name = r.name; bits = r.bits; number = if bytes_eq r.name x then v else r.number }

-- a memory with a cell that was stored, where it has the name, and nothing past the end
abbrev pub IsStored : Name → ℕ → ℕ → MemoryCells → MemoryCells → Type 0
IsStored m a v k j = (j.name ≡ k.name) × (j.cells.items ≡ (if bytes_eq k.name m && nat_lt a (length k.cells.items) then slice_set k.cells.items a v else k.cells.items))

abbrev pub IsCopy : MemoryCells → MemoryCells → Type 0
IsCopy k j = (j.name ≡ k.name) × (j.cells.items ≡ k.cells.items)

-- the numbers that were read are those of a cycle
abbrev pub ReadsAre : List NetNumber → Cycle → List Name → Type 0
ReadsAre nets old names = (z : Name) → Has names z → old.net z ≡ net_in nets z

-- each memory has the number of cells that the sizes say
abbrev pub Fits : Sizes → Held → Type 0
Fits s h = AllByRecursion (λ (k : MemoryCells). s.cells k.name ≡ length k.cells.items) h.memories.items

-- after one step the others run on what it leaves, unless it closes a part that is not open
pub record StepLeaves (s : Sizes) (old : Cycle) (on : List Bool) (step : Step) (rest : List Step) (next : Cycle) (fits : Bool) (on_after : List Bool) (h : Held) : Type 0 where
  pub now : Cycle
  pub shows : Shows h now
  pub same : run_steps s old on (step ∷ rest) next ≡ (if fits then run_steps s old on_after rest now else now)

-- what a module's blocks read
abbrev pub reads_of : ModuleTree → List NetNumber
reads_of m = map (net_read (declared m)) (flat_map item_nets m.items)

-- the nets that an instance's blocks read have numbers
abbrev pub held_known : Circuit → Moment → ℕ → Held → Bool
held_known c now d h = is_some (and_then (module_at c.modules.now c.top.now h.path.items) (λ m. all_numbers (number_at c now d h.path.items) (reads_of m)))

-- what a memory around the design is asked for has numbers
abbrev pub outside_known : Circuit → Moment → ℕ → OutsideMemory → Bool
outside_known c now d l = is_some (number_at c now d [] (m_ack l.name)) && is_some (number_at c now d [] (m_we l.name)) && is_some
    (number_at c now d [] (m_addr l.name)) && is_some (number_at c now d [] (m_wdata l.name))

-- what a memory around the design has after the store of a cycle
abbrev pub stored_cells : Cycle → Name → List ℕ → List ℕ
stored_cells c x cells = if (c.net (m_ack x) == 1) && (c.net (m_we x) == 1) then set_cell cells (c.net (m_addr x)) (c.net (m_wdata x)) else cells

abbrev pub IsAfterStore : Cycle → OutsideMemory → OutsideMemory → Type 0
IsAfterStore c o j = (j.name ≡ o.name) × (j.ready.items ≡ o.ready.items) × (j.cells.items ≡ stored_cells c o.name o.cells.items)

-- what the next cycle needs: there is a next number of a cycle, and all that is read has a number
abbrev pub next_known : Circuit → Moment → ℕ → Bool
next_known c now d =
    nat_lt (now.cycle + 1) (2 ^ 64) && list_all (held_known c now d) now.held.items && list_all (outside_known c now d) now.outside.items
