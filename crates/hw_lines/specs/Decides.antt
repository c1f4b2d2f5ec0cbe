-- In a cycle in a state, a choice by state has what that state gives it.
use Rattle.std.specs.Prelude.{◌≡◌, ℕ, ◌<◌, ◌⊎◌, length}
use Rattle.tapa_base.specs.Lists.{Has}
use Rattle.vlog_tree.specs.Table.{Name}
use Rattle.vlog_tree.specs.Cycle.{Cycle, Follows, atom_value}
use Rattle.hw_build.specs.Elements.{built}
use Rattle.hw_build.specs.Choices.{Entry, any_elements, pick_elements, choice}
use Rattle.hw_build.specs.Fits.{IsAmong}
use Rattle.hw_lines.specs.Nets.{Choice, State, name, front}
use Rattle.hw_lines.specs.Shape.{Shape, state_count}
use Rattle.hw_lines.specs.Effects.{effect, entries}
use Rattle.hw_lines.specs.Texts.{task_elements}

-- whether one of the conditions holds: it is one of the state's
abbrev pub StateSetsAny : Type 0
StateSetsAny =
    (S : Shape) (title : Name) (run : ℕ → Cycle) → Follows (built title (task_elements S)) run → (c : Choice) → IsAmong (any_elements (front c) (entries S c)) (task_elements S)
    → (n k : ℕ) → k < state_count S → (e : Entry) → Has (effect S c k) e → (run n).net e.condition ≡ 1 → (run n).net (choice (front c) (entries S c)) ≡ 1

abbrev pub StateClearsAny : Type 0
StateClearsAny =
    (S : Shape) (title : Name) (run : ℕ → Cycle) → Follows (built title (task_elements S)) run → (c : Choice) → IsAmong (any_elements (front c) (entries S c)) (task_elements S)
    → (n k : ℕ) → (run n).net (name State) ≡ k → 0 < length (entries S c) → ((d : Entry) → Has (effect S c k) d → (run n).net d.condition ≡ 0)
    → (run n).net (choice (front c) (entries S c)) ≡ 0

-- the value whose condition holds
abbrev pub StatePicks : Type 0
StatePicks =
    (S : Shape) (title : Name) (run : ℕ → Cycle) → Follows (built title (task_elements S)) run → (c : Choice) (w : ℕ) → IsAmong (pick_elements w (front c) (entries S c)) (task_elements S)
    → (n k a : ℕ) → (run n).net (name State) ≡ k → k < state_count S
    → ((d : Entry) → Has (effect S c k) d → ((run n).net d.condition ≡ 1 → ⊥) ⊎ (atom_value (run n) d.value ≡ a))
    → (e : Entry) → Has (effect S c k) e → (run n).net e.condition ≡ 1 → (run n).net (choice (front c) (entries S c)) ≡ a
