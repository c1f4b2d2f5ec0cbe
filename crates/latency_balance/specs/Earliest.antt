-- The least balance in which every group is as early as it can be.
use Rattle.std.specs.Prelude.{ℕ, ◌+◌, ◌-◌, ◌<◌, ◌≤◌}
use Rattle.task_graph.specs.declared.Graph.{Graph}
use Rattle.task_graph.specs.Arcs.{streams, tail, head}
use Rattle.flow_cert.specs.Balance.{cost}

-- one number a group, which leaves each stream its latency
abbrev pub Spaces : Graph → (ℕ → ℕ) → (ℕ → ℕ) → Type 0
Spaces g lat t = (e : ℕ) → e < streams g → t (tail g e) + lat e ≤ t (head g e)

-- what it leaves beside that latency
abbrev pub left_by : Graph → (ℕ → ℕ) → (ℕ → ℕ) → ℕ → ℕ
left_by g lat t e = t (head g e) - t (tail g e) - lat e

pub record IsEarliest (g : Graph) (lat s : ℕ → ℕ) : Type 0 where
  pub spaces : Spaces g lat s
  -- none costs less
  pub least : (t : ℕ → ℕ) → Spaces g lat t → cost g (left_by g lat s) ≤ cost g (left_by g lat t)
  -- and of those that cost as little none is earlier at any group
  pub first : (t : ℕ → ℕ) → Spaces g lat t → cost g (left_by g lat t) ≤ cost g (left_by g lat s) → (v : ℕ) → v < g.groups → s v ≤ t v
