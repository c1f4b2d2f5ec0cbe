-- How far a visit of all nodes has come.
use Rattle.std.specs.Prelude.{◌≡◌, ◌≢◌, ◌⊎◌, ℕ, ◌+◌, ◌-◌, ◌<◌, ◌≤◌, List, [], ◌∷◌, length, get_or}
use Rattle.tapa_base.specs.Lists.{Has}
use Rattle.number_graph.specs.Graphs.{Adjacency, Steps, ArePartsFirst}

-- The progress of a node is 0 as long as it is new, one more than the number of its targets that were looked at as long as
-- it is open, and two more than the number of its targets when it is done.
abbrev pub IsOpen : Adjacency → List ℕ → ℕ → Type 0
IsOpen g progress j = (0 < get_or progress j 0) × (get_or progress j 0 ≤ length (get_or g j []) + 1)

abbrev pub IsClosedNode : Adjacency → List ℕ → ℕ → Type 0
IsClosedNode g progress j = length (get_or g j []) + 1 < get_or progress j 0

-- a node is done, or is on the path after index i
abbrev pub IsBehind : Adjacency → List ℕ → List ℕ → ℕ → ℕ → Type 0
IsBehind g progress path i k = IsClosedNode g progress k ⊎ ((j : ℕ) × (i < j) × (j < length path) × (get_or path j 0 ≡ k))

-- The path has the open nodes, each a target of the one before; the order has those that are done.
pub record IsVisit (g : Adjacency) (progress path order : List ℕ) : Type 0 where
  pub len : length progress ≡ length g
  pub low : (i : ℕ) → i < length path → get_or path i 0 < length g
  pub opened : (i : ℕ) → i < length path → IsOpen g progress (get_or path i 0)
  pub apart : (i j : ℕ) → i < j → j < length path → get_or path i 0 ≢ get_or path j 0
  pub there : (j : ℕ) → IsOpen g progress j → (i : ℕ) × (i < length path) × (get_or path i 0 ≡ j)
  pub follows : (i : ℕ) → i + 1 < length path → Steps g (get_or path i 0) (get_or path (i + 1) 0)
  pub seen : (i t : ℕ) → i < length path → t + 1 < get_or progress (get_or path i 0) 0 → IsBehind g progress path i (get_or (get_or g (get_or path i 0) []) t 0)
  pub placed : (j : ℕ) → IsClosedNode g progress j → Has order j
  pub done : (j : ℕ) → Has order j → IsClosedNode g progress j
  pub parts : ArePartsFirst g order

-- no node has come less far
abbrev pub IsFurther : List ℕ → List ℕ → Type 0
IsFurther old new = (j : ℕ) → get_or old j 0 ≤ get_or new j 0

-- how many steps are left
abbrev pub steps_left : Adjacency → List ℕ → ℕ
steps_left [] ps = 0
steps_left (row ∷ g) [] = 0
steps_left (row ∷ g) (p ∷ ps) = (length row + 2 - p) + steps_left g ps
