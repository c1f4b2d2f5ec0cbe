-- The search for the cheapest paths, and the test of what it finds.
use Rattle.std.specs.Prelude.{◌≡◌, ℕ, ◌+◌, ◌<◌, ◌≤◌, true, List, length, slice_index}
use Rattle.task_graph.specs.declared.Graph.{Graph}
use Rattle.task_graph.specs.Arcs.{streams}
use Rattle.latency_balance.specs.declared.exits.Exits.{Exits}
use Rattle.latency_balance.specs.declared.moves.Move.{Move}
use Rattle.latency_balance.specs.declared.paths.Paths.{Paths}
use Rattle.latency_balance.specs.Moves.{IsMove, end_of, move_at, place}

-- moves along streams of the graph
abbrev pub AreInside : Graph → List Move → Type 0
AreInside g moves = (j : ℕ) → j < length moves → (move_at moves j).stream < streams g

-- moves by groups
pub record AreExits (g : Graph) (exits : Exits) : Type 0 where
  pub inside : AreInside g exits.moves.items
  pub long : length exits.first.items ≡ g.groups + 1
  pub ends : (v : ℕ) → slice_index exits.first.items v ≤ length exits.moves.items

-- a cost and a last move for each group, and groups that were reached
pub record ArePaths (g : Graph) (paths : Paths) : Type 0 where
  pub costs : length paths.cost.items ≡ g.groups
  pub moves : length paths.by.items ≡ g.groups
  pub inside : AreInside g paths.by.items
  pub reached : (k : ℕ) → k < length paths.reached.items → slice_index paths.reached.items k < g.groups

-- possible moves from a group back to it, the last one first
pub record LeadsBack (g : Graph) (flow : List ℕ) (base : ℕ) (moves : List Move) : Type 0 where
  pub each : (j : ℕ) → j < length moves → IsMove g flow (move_at moves j)
  pub ends : (j : ℕ) → j < length moves → end_of g (move_at moves j) ≡ place g base moves j
  pub closed : place g base moves (length moves) ≡ base

-- no stream is gone back twice
abbrev pub IsOnce : List Move → Type 0
IsOnce moves =
    (i j : ℕ) → i < j → j < length moves → (move_at moves i).back ≡ true → (move_at moves j).back ≡ true →
    (move_at moves i).stream ≡ (move_at moves j).stream → ⊥
