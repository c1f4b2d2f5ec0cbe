-- Moments that leave out nothing.
use Rattle.std.specs.Prelude.{◌≡◌, ℕ, Some, List, is_some, IsTrue}
use Rattle.tapa_base.specs.declared.shape.Port.{Port}
use Rattle.vlog_tree.specs.declared.tree.Item.TheVariants.{Reg, Memory}
use Rattle.vlog_tree.specs.Form.{ModuleTree}
use Rattle.tapa_base.specs.Lists.{Has}
use Rattle.vlog_tree.specs.Cycle.{Path, module_at}
use Rattle.vlog_tree.specs.Table.{Name}
use Rattle.vlog_tree.specs.Environment.{shape_of}
use Rattle.vlog_values.specs.Numbers.{first_net, first_memory}
use Rattle.vlog_values.specs.declared.moment.Held.{Held}
use Rattle.vlog_values.specs.declared.moment.OutsideMemory.{OutsideMemory}
use Rattle.vlog_values.specs.declared.moment.Moment.{Moment}
use Rattle.vlog_ref_cycle.specs.Sources.{held_at, memory_of}

-- what an instance holds is there for each register and each memory of its module
pub record HoldsAll (m : ModuleTree) (h : Held) : Type 0 where
  pub registers : (w : ℕ) (x : Name) → Has m.items (Reg w x) → IsTrue (is_some (first_net h.nets.items x))
  pub memories : (w : ℕ) (x : Name) (n : ℕ) → Has m.items (Memory w x n) → IsTrue (is_some (first_memory h.memories.items x))

-- a snapshot has the state of each instance of the design, and each scalar and each memory around it
pub record IsWhole (ms : List ModuleTree) (top : ModuleTree) (now : Moment) : Type 0 where
  pub held : (path : Path) (m : ModuleTree) → module_at ms top path ≡ Some m → (h : Held) × (held_at now.held.items path ≡ Some h) × HoldsAll m h
  pub scalars : (l : Port) → Has (shape_of top).scalars l → IsTrue (is_some (first_net now.scalars.items l.name))
  pub outside : (l : Port) → Has (shape_of top).memories l → IsTrue (is_some (memory_of now.outside.items l.name))

-- a snapshot has nothing but parts of the design: each path leads to a module, and each memory around it is one of the top's
pub record HasNoMore (ms : List ModuleTree) (top : ModuleTree) (now : Moment) : Type 0 where
  pub held : (h : Held) → Has now.held.items h → IsTrue (is_some (module_at ms top h.path.items))
  pub outside : (o : OutsideMemory) → Has now.outside.items o → (l : Port) × Has (shape_of top).memories l × (l.name ≡ o.name)
