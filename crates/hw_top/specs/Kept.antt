-- The modules of a program's leaf tasks keep what the module of a leaf's machine promises.
use Rattle.std.specs.Prelude.{◌≡◌, ℕ, true, List, Some, slice_get}
use Rattle.tapa_syntax.specs.declared.program.Leaf.{Leaf}
use Rattle.tapa_syntax.specs.declared.program.Program.{Program}
use Rattle.task_fsm.specs.declared.machine.Fsm.{Fsm}
use Rattle.hw_lines.specs.Texts.{task_tree}
use Rattle.hw_top_lines.specs.Designs.{is_used}
use Rattle.hw_task.specs.Promise.{IsOfLeaf, KeepsPromise}

-- body b and its machine belong together
pub record IsOfBody (program : Program) (machines : List Fsm) (b : ℕ) : Type 0 where
  pub of_leaf : (leaf : Leaf) (machine : Fsm) → slice_get program.bodies.items b ≡ Some leaf → slice_get machines b ≡ Some machine
      → IsOfLeaf leaf machine leaf.memories.items leaf.streams.items

-- the module of body b keeps its promise, where some instance has it
pub record IsKept (program : Program) (machines : List Fsm) (b : ℕ) : Type 0 where
  pub promise :
      (leaf : Leaf) (machine : Fsm) → slice_get program.bodies.items b ≡ Some leaf → slice_get machines b ≡ Some machine → is_used program b ≡ true
      → KeepsPromise leaf machine (task_tree machine leaf.memories.items leaf.streams.items)
