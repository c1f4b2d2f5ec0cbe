-- In a cycle of a task's module in one state: whether the inputs allow the state's step, and where the module is next.
use Rattle.std.specs.Prelude.{◌≡◌, ℕ, suc, ◌<◌, List, length, Bool, true, false, not, Some, None, if◌then◌else◌}
use Rattle.tapa_syntax.specs.LeafKinds.{writes_of}
use Rattle.kahn_model.specs.Trace.{State, cells_of}
use Rattle.vlog_tree.specs.Form.{ModuleTree}
use Rattle.vlog_tree.specs.Labels.{rst}
use Rattle.vlog_tree.specs.Table.{Name, one_if}
use Rattle.vlog_tree.specs.Cycle.{Cycle, Follows, Sizes}
use Rattle.hw_build.specs.Elements.{built}
use Rattle.hw_build.specs.Fitting.{AreFitting}
use Rattle.task_fsm.specs.Ranges.{Ranges}
use Rattle.task_fsm.specs.Run.{StateStep, Performs, Awaits, Completes, Halts, step}
use Rattle.hw_lines.specs.declared.nets.Net.{Net}
use Rattle.hw_lines.specs.declared.nets.Net.TheVariants.{State as StateNet, Go}
use Rattle.hw_lines.specs.Nets.{name}
use Rattle.hw_lines.specs.Shape.{Shape, array_cells, state_count, form_at}
use Rattle.hw_lines.specs.States.{awaited, needs_go}
use Rattle.hw_lines.specs.Texts.{task_elements}
use Rattle.hw_lines.specs.After.{at_after}
use Rattle.hw_lines.specs.Machine.{allows, found}
use Rattle.hw_lines.specs.Runs.{streams_at, answers_at, StandsAround}
use Rattle.hw_task_laws.specs.acts.Reads.{IsIn}

-- what a machine's states may name is what the module has
abbrev pub ranges_in : Shape → Ranges
ranges_in S = record { registers = length S.registers; arrays = length S.arrays; memories = length S.memories; states = state_count S; writes = writes_of S.streams }

-- whether the inputs of cycle n allow a step, and the value of the token that it waits for
abbrev pub allowed : Shape → (ℕ → Cycle) → ℕ → StateStep → Bool
allowed S run n t = allows (streams_at S run) (answers_at run) (λ p. p) n t

abbrev pub found_by : Shape → (ℕ → Cycle) → ℕ → StateStep → ℕ
found_by S run n t = found (streams_at S run) (λ p. p) n t

abbrev pub halts : StateStep → Bool
halts (Performs a pc σ) = false
halts (Awaits s how pc into) = false
halts Completes = false
halts Halts = true

-- a register for each of the module's, and arrays of its sizes
pub record HasSizes (S : Shape) (σ : State) : Type 0 where
  pub vars : length σ.vars ≡ length S.registers
  pub arrays : length σ.arrays ≡ length S.arrays
  pub rows : (a : ℕ) → a < length S.arrays → cells_of σ a ≡ array_cells S a

-- a cycle in which the machine is in state k and holds σ, between memories with these cells
pub record IsAt (S : Shape) (run : ℕ → Cycle) (s : Sizes) (cells : ℕ → List (List ℕ)) (n k : ℕ) (σ : State) : Type 0 where
  pub shows : IsIn S (ranges_in S) s (run n) k σ
  pub sizes : HasSizes S σ
  pub outside : σ.cells ≡ cells n
  pub around : StandsAround S run cells

-- the net that a state waits for is 1 where its step is allowed
abbrev pub AwaitedIsAllowed : Type 0
AwaitedIsAllowed =
    (S : Shape) (title : Name) (run : ℕ → Cycle) (f : Follows (built title (task_elements S)) run) (cells : ℕ → List (List ℕ)) (n k : ℕ) (σ : State) → IsAt S run f.sizes cells n k σ
    → (w : Net) → awaited (form_at S k) ≡ Some w → (run n).net (name w) ≡ one_if (allowed S run n (step (form_at S k) k σ))

-- a state that waits for none is allowed its step in each cycle, if it has one
abbrev pub OthersAreAllowed : Type 0
OthersAreAllowed = (S : Shape) (run : ℕ → Cycle) (n k : ℕ) (σ : State) → awaited (form_at S k) ≡ None → allowed S run n (step (form_at S k) k σ) ≡ not (halts (step (form_at S k) k σ))

-- the net that says that a state's tick is made
abbrev pub GoIsAllowed : Type 0
GoIsAllowed =
    (S : Shape) (title : Name) (run : ℕ → Cycle) (f : Follows (built title (task_elements S)) run) (cells : ℕ → List (List ℕ)) (n k : ℕ) (σ : State) → IsAt S run f.sizes cells n k σ
    → (w : Net) → awaited (form_at S k) ≡ Some w → needs_go (form_at S k) ≡ true → (run n).net (name (Go k)) ≡ one_if (allowed S run n (step (form_at S k) k σ))

-- the register of the state
abbrev pub PlaceGoesOn : Type 0
PlaceGoesOn =
    (S : Shape) (title : Name) (run : ℕ → Cycle) (f : Follows (built title (task_elements S)) run) (ms : List ModuleTree) → AreFitting ms (task_elements S)
    → (cells : ℕ → List (List ℕ)) (n k : ℕ) (σ : State) → IsAt S run f.sizes cells n k σ → (run n).net rst ≡ 0
    → (run (suc n)).net (name StateNet) ≡ (if allowed S run n (step (form_at S k) k σ) then at_after (step (form_at S k) k σ) k else k)
