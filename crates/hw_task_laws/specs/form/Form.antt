-- The module of a leaf task fits the rules.
use Rattle.std.specs.Prelude.{◌≡◌, Bool, false, true, List, [], map}
use Rattle.tapa_syntax.specs.declared.program.Leaf.{Leaf}
use Rattle.tapa_syntax.specs.WellFormed.{IsLeaf}
use Rattle.task_fsm.specs.declared.machine.Fsm.{Fsm}
use Rattle.task_fsm.specs.Lowered.{IsLowered}
use Rattle.vlog_tree.specs.Form.{ModuleTree, IsModule}
use Rattle.vlog_tree.specs.Loops.{Rests}
use Rattle.vlog_tree.specs.Names.{is_name}
use Rattle.vlog_tree.specs.Table.{Name, is_doubled_name, module_declared}
use Rattle.vlog_tree.specs.V6.{module_children}
use Rattle.vlog_module_laws.specs.Larger.{IsRightBeside}
use Rattle.hw_build.specs.Elements.{built}
use Rattle.hw_build.specs.Fitting.{AreFitting}
use Rattle.hw_build.specs.Fits.{FitAlone}
use Rattle.hw_lines.specs.Shape.{Shape, shape_of}
use Rattle.hw_lines.specs.Texts.{task_elements}
use Rattle.hw_task_laws.specs.names.Countable.{IsCountable}

-- of every leaf and its machine, where the lines of the module can be counted
abbrev pub ForTasks : (Shape → Type 0) → Type 0
ForTasks P =
    (leaf : Leaf) (machine : Fsm) → IsLeaf leaf → IsLowered leaf machine → IsCountable (shape_of machine leaf.memories.items leaf.streams.items)
    → P (shape_of machine leaf.memories.items leaf.streams.items)

-- its elements fit one after another, each name occurs once, and each block has a target of its own
abbrev pub TasksFit : Type 0
TasksFit = ForTasks (λ S. FitAlone (task_elements S))

-- so they fit beside any modules
abbrev pub TasksAreFitting : Type 0
TasksAreFitting = ForTasks (λ S. (ms : List ModuleTree) → AreFitting ms (task_elements S))

-- and the module breaks no rule on names, widths and drivers
abbrev pub TasksAreRight : Type 0
TasksAreRight = ForTasks (λ S. (ms : List ModuleTree) (title : Name) → is_doubled_name (map module_declared ms) title ≡ false → IsRightBeside ms (built title (task_elements S)))

-- it has the form of a module
abbrev pub TasksAreModules : Type 0
TasksAreModules = ForTasks (λ S. (title : Name) → is_name title ≡ true → IsModule (built title (task_elements S)))

-- and none of its nets depends on itself in one cycle
abbrev pub TasksHaveNoLoop : Type 0
TasksHaveNoLoop =
    ForTasks (λ S. (ms : List ModuleTree) (is_top : Name → Bool) (title : Name) → is_top title ≡ false → (x : Name) → Rests ms is_top (built title (task_elements S)) x x → ⊥)

-- it contains no other module
abbrev pub TasksHaveNoChildren : Type 0
TasksHaveNoChildren = ForTasks (λ S. (title : Name) → module_children (built title (task_elements S)) ≡ [])
