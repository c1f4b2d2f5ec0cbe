-- The state of a task's module in the next cycle: what its step leaves where the inputs allow it, and else its state before.
use Rattle.std.specs.Prelude.{◌≡◌, ℕ, suc, ◌^◌, ◌<◌, ◌≤◌, List, length, if◌then◌else◌, slice_index}
use Rattle.kahn_model.specs.Trace.{State, cell}
use Rattle.vlog_tree.specs.Form.{ModuleTree}
use Rattle.vlog_tree.specs.Labels.{rst}
use Rattle.vlog_tree.specs.Table.{Name}
use Rattle.vlog_tree.specs.Cycle.{Cycle, Follows}
use Rattle.hw_build.specs.Elements.{built}
use Rattle.hw_build.specs.Fitting.{AreFitting}
use Rattle.task_fsm.specs.Run.{StateStep, step}
use Rattle.hw_lines.specs.declared.nets.Net.TheVariants.{Ended, Variable, Array}
use Rattle.hw_lines.specs.Nets.{name}
use Rattle.hw_lines.specs.Shape.{Shape, array_cells, form_at}
use Rattle.hw_lines.specs.Texts.{task_elements}
use Rattle.hw_lines.specs.After.{held_after, ends_by}
use Rattle.hw_task_laws.specs.steps.Steps.{allowed, found_by, IsAt}

-- the state after a step of cycle n
abbrev pub held_by : Shape → (ℕ → Cycle) → ℕ → State → StateStep → State
held_by S run n σ t = if allowed S run n t then held_after t σ (found_by S run n t) else σ

-- few enough registers and arrays to have names of their own
pub record HasFew (S : Shape) : Type 0 where
  pub registers : length S.registers ≤ 2 ^ 64
  pub arrays : length S.arrays ≤ 2 ^ 64

abbrev pub RegistersAreHeld : Type 0
RegistersAreHeld =
    (S : Shape) (title : Name) (run : ℕ → Cycle) (f : Follows (built title (task_elements S)) run) (ms : List ModuleTree) → AreFitting ms (task_elements S)
    → (cells : ℕ → List (List ℕ)) (n k : ℕ) (σ : State) → IsAt S run f.sizes cells n k σ → (run n).net rst ≡ 0 → (r : ℕ) → r < length S.registers
    → (run (suc n)).net (name (Variable r)) ≡ slice_index (held_by S run n σ (step (form_at S k) k σ)).vars r

-- in a cycle of reset too
abbrev pub ArraysAreHeld : Type 0
ArraysAreHeld =
    (S : Shape) (title : Name) (run : ℕ → Cycle) (f : Follows (built title (task_elements S)) run) (ms : List ModuleTree) → AreFitting ms (task_elements S) → HasFew S
    → (cells : ℕ → List (List ℕ)) (n k : ℕ) (σ : State) → IsAt S run f.sizes cells n k σ → (a i : ℕ) → a < length S.arrays → i < array_cells S a
    → (run (suc n)).cell (name (Array a)) i ≡ cell (held_by S run n σ (step (form_at S k) k σ)).arrays a i

abbrev pub MemoriesAreHeld : Type 0
MemoriesAreHeld =
    (S : Shape) (title : Name) (run : ℕ → Cycle) (f : Follows (built title (task_elements S)) run) (cells : ℕ → List (List ℕ)) (n k : ℕ) (σ : State) → IsAt S run f.sizes cells n k σ
    → cells (suc n) ≡ (held_by S run n σ (step (form_at S k) k σ)).cells

-- the end is made once, and its register stays set
abbrev pub EndIsHeld : Type 0
EndIsHeld =
    (S : Shape) (title : Name) (run : ℕ → Cycle) (f : Follows (built title (task_elements S)) run) (ms : List ModuleTree) → AreFitting ms (task_elements S)
    → (cells : ℕ → List (List ℕ)) (n k : ℕ) (σ : State) → IsAt S run f.sizes cells n k σ → (run n).net rst ≡ 0
    → (run (suc n)).net (name Ended) ≡ (if ends_by (step (form_at S k) k σ) then 1 else (run n).net (name Ended))
