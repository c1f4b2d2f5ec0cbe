-- What the module of a leaf's machine keeps.
use Rattle.std.specs.Prelude.{◌≡◌, Bool, true, false, List, [], ◌++◌, map}
use Rattle.std.specs.List.{list_all}
use Rattle.tapa_base.specs.declared.kind.Kind.{Kind}
use Rattle.tapa_syntax.specs.declared.program.End.{End}
use Rattle.tapa_syntax.specs.declared.program.Leaf.{Leaf}
use Rattle.tapa_syntax.specs.WellFormed.{IsLeaf}
use Rattle.task_fsm.specs.declared.machine.Fsm.{Fsm}
use Rattle.task_fsm.specs.Lowered.{IsLowered}
use Rattle.vlog_tree.specs.declared.table.NetKind.TheVariants.{Input, Output}
use Rattle.vlog_tree.specs.Form.{ModuleTree, IsModule}
use Rattle.vlog_tree.specs.Loops.{Rests}
use Rattle.vlog_tree.specs.Names.{goes_on}
use Rattle.vlog_tree.specs.Table.{Name, is_doubled_name, module_declared, port_declared, net_kind_of}
use Rattle.vlog_tree.specs.V6.{module_children}
use Rattle.vlog_module_laws.specs.Larger.{IsRightBeside}
use Rattle.hw_build.specs.Elements.{empty}
use Rattle.hw_lines.specs.Runs.{ActsAsTask}
use Rattle.hw_lines.specs.Shape.{Shape, shape_of}
use Rattle.hw_lines.specs.Texts.{task_name}
use Rattle.hw_task_laws.specs.names.Ports.{task_inputs, task_outputs}
use Rattle.hw_task_laws.specs.rests.Rests.{TakesToken}

-- the machine, the memories and the streams are those of a leaf, whose name has letters, digits, `_` and `$` alone
pub record IsOfLeaf (leaf : Leaf) (machine : Fsm) (memories : List Kind) (streams : List End) : Type 0 where
  pub well_formed : IsLeaf leaf
  pub lowered : IsLowered leaf machine
  pub own_memories : memories ≡ leaf.memories.items
  pub own_streams : streams ≡ leaf.streams.items
  pub named : list_all goes_on machine.name ≡ true

abbrev pub leaf_shape : Leaf → Fsm → Shape
leaf_shape leaf machine = shape_of machine leaf.memories.items leaf.streams.items

pub record KeepsPromise (leaf : Leaf) (machine : Fsm) (tree : ModuleTree) : Type 0 where
  -- in a run of any design that has it, an instance of it runs the leaf's machine
  pub acts : ActsAsTask leaf machine tree
  -- it has the form of a module, and contains no other one
  pub form : IsModule tree
  pub childless : module_children tree ≡ []
  -- it breaks no rule on names, widths and drivers beside modules of other names
  pub right : (ms : List ModuleTree) → is_doubled_name (map module_declared ms) (task_name machine.name) ≡ false → IsRightBeside ms tree
  -- none of its nets depends on itself in one cycle
  pub loopless : (ms : List ModuleTree) (is_top : Name → Bool) → is_top (task_name machine.name) ≡ false → (x : Name) → Rests ms is_top tree x x → ⊥
  -- its ports are the clock, the reset and those of the task
  pub ports : tree.ports ≡ (empty (task_name machine.name)).ports ++ (task_inputs (leaf_shape leaf machine) ++ task_outputs (leaf_shape leaf machine))
  -- no output depends on an input in the same cycle, but those that take a token
  pub rests :
      (ms : List ModuleTree) (is_top : Name → Bool) → is_top (task_name machine.name) ≡ false → (x y : Name) → net_kind_of (map port_declared tree.ports) x ≡ Output
      → net_kind_of (map port_declared tree.ports) y ≡ Input → Rests ms is_top tree x y → TakesToken (leaf_shape leaf machine) x
