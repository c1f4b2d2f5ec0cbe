-- When a run of a task's module runs its machine.
use Rattle.std.specs.Prelude.{ℕ, ◌<◌, ◌≤◌, List}
use Rattle.tapa_syntax.specs.declared.program.Leaf.{Leaf}
use Rattle.tapa_syntax.specs.LeafKinds.{writes_of}
use Rattle.tapa_syntax.specs.WellFormed.{IsLeaf}
use Rattle.vlog_tree.specs.Form.{ModuleTree}
use Rattle.vlog_tree.specs.Table.{Name}
use Rattle.vlog_tree.specs.Cycle.{Cycle, Follows}
use Rattle.hw_build.specs.Elements.{built}
use Rattle.hw_build.specs.Fitting.{AreFitting}
use Rattle.task_fsm.specs.declared.machine.Fsm.{Fsm}
use Rattle.task_fsm.specs.Lowered.{IsLowered}
use Rattle.task_fsm.specs.MachineKinds.{AreTypedStates}
use Rattle.task_fsm.specs.Ranges.{AreInRange}
use Rattle.hw_lines.specs.Shape.{Shape, shape_of, kinds_in, array_cells, state_count}
use Rattle.hw_lines.specs.Texts.{task_elements, task_tree}
use Rattle.hw_lines.specs.Runs.{StandsAround, RunsTask, ActsAsTask}
use Rattle.hw_task_laws.specs.names.Countable.{IsCountable}
use Rattle.hw_task_laws.specs.steps.Steps.{ranges_in}
use Rattle.hw_task_laws.specs.effects.Held.{HasFew}

-- states that are typed and name what the module has, and at least one of them before the trap
pub record IsMachine (S : Shape) : Type 0 where
  pub typed : AreTypedStates (kinds_in S) S.states
  pub ranged : AreInRange (ranges_in S) S.states
  pub some : 0 < state_count S
  pub cells : (a : ℕ) → array_cells S a ≤ 4096
  pub few : HasFew S

-- a module whose elements fit runs its machine
abbrev pub RunsMachines : Type 0
RunsMachines =
    (S : Shape) (title : Name) (run : ℕ → Cycle) → Follows (built title (task_elements S)) run → (ms : List ModuleTree) → AreFitting ms (task_elements S) → IsMachine S
    → (cells : ℕ → List (List ℕ)) → StandsAround S run cells → RunsTask S (writes_of S.streams) run cells

-- as a leaf's machine is one, where the lines of its module can be counted
abbrev pub LoweredIsMachine : Type 0
LoweredIsMachine =
    (leaf : Leaf) (machine : Fsm) → IsLeaf leaf → IsLowered leaf machine → IsCountable (shape_of machine leaf.memories.items leaf.streams.items)
    → IsMachine (shape_of machine leaf.memories.items leaf.streams.items)

-- so in a run of any design that has the module of a leaf, an instance of it runs the leaf's machine
abbrev pub InstancesRun : Type 0
InstancesRun =
    (leaf : Leaf) (machine : Fsm) → IsLeaf leaf → IsLowered leaf machine → IsCountable (shape_of machine leaf.memories.items leaf.streams.items)
    → ActsAsTask leaf machine (task_tree machine leaf.memories.items leaf.streams.items)
