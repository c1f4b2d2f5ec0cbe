-- What a task's module takes, puts and asks for in a cycle.
use Rattle.std.specs.Prelude.{◌≡◌, ℕ, ◌<◌, List, [], length, true, false, ◌&&◌, Some, if◌then◌else◌}
use Rattle.tapa_syntax.specs.LeafKinds.{writes_of}
use Rattle.kahn_model.specs.Trace.{State}
use Rattle.vlog_tree.specs.Table.{Name, one_if}
use Rattle.vlog_tree.specs.Cycle.{Cycle, Follows}
use Rattle.hw_build.specs.Elements.{built}
use Rattle.task_fsm.specs.Run.{step}
use Rattle.hw_lines.specs.declared.nets.Net.TheVariants.{Taken, We}
use Rattle.hw_lines.specs.Shape.{Shape, form_at}
use Rattle.hw_lines.specs.Texts.{task_elements}
use Rattle.hw_lines.specs.Machine.{takes_of, puts_of, put_in}
use Rattle.hw_lines.specs.Runs.{bit_at, number_at, streams_at, stores_to, by_act, AsksAs}
use Rattle.hw_task_laws.specs.steps.Steps.{allowed, IsAt}

abbrev pub TakesAreMade : Type 0
TakesAreMade =
    (S : Shape) (title : Name) (run : ℕ → Cycle) (f : Follows (built title (task_elements S)) run) (cells : ℕ → List (List ℕ)) (n k : ℕ) (σ : State) → IsAt S run f.sizes cells n k σ
    → (s : ℕ) → writes_of S.streams s ≡ Some false → bit_at run (Taken s) n ≡ (allowed S run n (step (form_at S k) k σ) && takes_of (λ p. p) s (step (form_at S k) k σ))

abbrev pub PutsAreMade : Type 0
PutsAreMade =
    (S : Shape) (title : Name) (run : ℕ → Cycle) (f : Follows (built title (task_elements S)) run) (cells : ℕ → List (List ℕ)) (n k : ℕ) (σ : State) → IsAt S run f.sizes cells n k σ
    → (s : ℕ) → writes_of S.streams s ≡ Some true
    → put_in (streams_at S run) s n ≡ (if allowed S run n (step (form_at S k) k σ) then puts_of (λ p. p) s (step (form_at S k) k σ) else [])

abbrev pub AsksAreMade : Type 0
AsksAreMade =
    (S : Shape) (title : Name) (run : ℕ → Cycle) (f : Follows (built title (task_elements S)) run) (cells : ℕ → List (List ℕ)) (n k : ℕ) (σ : State) → IsAt S run f.sizes cells n k σ
    → (m : ℕ) → m < length S.memories → AsksAs run n m (step (form_at S k) k σ)

abbrev pub StoresAreAsked : Type 0
StoresAreAsked =
    (S : Shape) (title : Name) (run : ℕ → Cycle) (f : Follows (built title (task_elements S)) run) (cells : ℕ → List (List ℕ)) (n k : ℕ) (σ : State) → IsAt S run f.sizes cells n k σ
    → (m : ℕ) → m < length S.memories → number_at run (We m) n ≡ one_if (by_act (stores_to m) (step (form_at S k) k σ))
