-- Graphs of numbers.
use Rattle.std.specs.Prelude.{ℕ, ◌<◌, ◌≤◌, List, [], ◌∷◌, length, slice_get, get_or, take, Vec}
use Rattle.std.specs.Option.{option_map_or}
use Rattle.tapa_base.specs.Lists.{Has, Chain}

-- of each node its targets, the nodes that it depends on; the nodes are the numbers below the length
abbrev pub Adjacency : Type 0
Adjacency = List (List ℕ)

-- rows of numbers without where they lie in memory
abbrev pub rows_of : {A : Type 0} → List (Vec ℕ A) → Adjacency
rows_of [] = []
rows_of (v ∷ vs) = v.items ∷ rows_of vs

-- the row at a number
abbrev pub targets_of : {X A : Type 0} → List (Vec X A) → ℕ → List X
targets_of rows j = option_map_or (λ v. v.items) (slice_get rows j) []

-- from a node to one of its targets
abbrev pub Steps : Adjacency → ℕ → ℕ → Type 0
Steps g j k = Has (get_or g j []) k

-- each target is a node
abbrev pub AreNodes : Adjacency → Type 0
AreNodes g = (j k : ℕ) → Steps g j k → k < length g

-- from one of some nodes a node is reached by one or more steps
abbrev pub IsReached : Adjacency → List ℕ → ℕ → Type 0
IsReached g sources k = (j : ℕ) × Has sources j × Chain (Steps g) j k

-- nodes, none twice, each after all its targets
pub record ArePartsFirst (g : Adjacency) (order : List ℕ) : Type 0 where
  pub low : (i : ℕ) → i < length order → get_or order i 0 < length g
  pub once : (i : ℕ) → i < length order → Has (take i order) (get_or order i 0) → ⊥
  pub first : (i k : ℕ) → i < length order → Steps g (get_or order i 0) k → Has (take i order) k

-- all nodes, each once and after all its targets
pub record IsOrder (g : Adjacency) (order : List ℕ) : Type 0 where
  pub parts : ArePartsFirst g order
  pub all : (j : ℕ) → j < length g → Has order j

-- along no step is the second level above the first
abbrev pub NeverRise : Adjacency → List ℕ → Type 0
NeverRise g levels = (j k : ℕ) → Steps g j k → get_or levels k 0 ≤ get_or levels j 0
