-- In a cycle of a task's module in one state, the reads show the cells, and its wires the value and the index.
use Rattle.std.specs.Prelude.{◌≡◌, ℕ, ◌<◌, ◌≤◌, [], length, nat_lt, if◌then◌else◌}
use Rattle.tapa_base.specs.declared.kind.Kind.TheVariants.{U64}
use Rattle.tapa_base.specs.Kinds.{bits_of}
use Rattle.kahn_model.specs.Trace.{State, cell}
use Rattle.vlog_tree.specs.Table.{Name}
use Rattle.vlog_tree.specs.Cycle.{Cycle, Follows, Sizes}
use Rattle.hw_build.specs.Elements.{built}
use Rattle.task_fsm.specs.MachineKinds.{IsOfKind, IsTypedState, HoldsValues}
use Rattle.task_fsm.specs.Ranges.{Ranges, IsInRange}
use Rattle.task_fsm.specs.Run.{value}
use Rattle.hw_lines.specs.declared.nets.Net.TheVariants.{State as StateNet, Array}
use Rattle.hw_lines.specs.Nets.{name}
use Rattle.hw_lines.specs.Shape.{Shape, kinds_in, array_cells, state_count, form_at}
use Rattle.hw_lines.specs.States.{index_of, value_of, value_kind, index_wires, value_wires, reads_at}
use Rattle.hw_lines.specs.Texts.{task_elements}
use Rattle.hw_task_laws.specs.wires.Shows.{Shows}
use Rattle.hw_task_laws.specs.wires.Computes.{RegistersShown, AnswersShown}

-- arrays hold their cells, and nothing past the end
abbrev pub ArraysShown : Shape → Cycle → State → Type 0
ArraysShown S c σ = (a i : ℕ) → a < length S.arrays → cell σ.arrays a i ≡ (if nat_lt i (array_cells S a) then c.cell (name (Array a)) i else 0)

-- what a cycle of the module shows where the machine is in state k and holds σ
pub record IsIn (S : Shape) (R : Ranges) (s : Sizes) (c : Cycle) (k : ℕ) (σ : State) : Type 0 where
  pub fits : HoldsValues (kinds_in S) σ
  pub registers : RegistersShown s c (kinds_in S) R.registers σ
  pub arrays : ArraysShown S c σ
  pub within : R.arrays ≤ length S.arrays
  pub few : (a : ℕ) → array_cells S a ≤ 4096
  pub here : c.net (name StateNet) ≡ k
  pub low : k < state_count S
  pub typed : IsTypedState (kinds_in S) (form_at S k)
  pub ranged : IsInRange R (form_at S k)

-- the reads of its state show the cells
abbrev pub ReadsAreShown : Type 0
ReadsAreShown =
    (S : Shape) (title : Name) (run : ℕ → Cycle) (f : Follows (built title (task_elements S)) run) (R : Ranges) (σ : State) (n k : ℕ) → IsIn S R f.sizes (run n) k σ
    → AnswersShown f.sizes (run n) (kinds_in S) σ 0 (reads_at S k)

-- and its wires the value, and the index if it has one
abbrev pub ValueIsShown : Type 0
ValueIsShown =
    (S : Shape) (title : Name) (run : ℕ → Cycle) (f : Follows (built title (task_elements S)) run) (R : Ranges) (σ : State) (n k : ℕ) → IsIn S R f.sizes (run n) k σ
    → Shows f.sizes (run n) (value_wires S k).atom (bits_of (value_kind S (form_at S k))) (value (value_of (form_at S k)) σ)

abbrev pub IndexIsShown : Type 0
IndexIsShown =
    (S : Shape) (title : Name) (run : ℕ → Cycle) (f : Follows (built title (task_elements S)) run) (R : Ranges) (σ : State) (n k : ℕ) → IsIn S R f.sizes (run n) k σ
    → IsOfKind (kinds_in S) (index_of (form_at S k)) U64 → Shows f.sizes (run n) (index_wires S k).atom 64 (value (index_of (form_at S k)) σ)
