-- For each node of a graph, the index of the input that it denotes.
use Rattle.std.specs.Prelude.{◌≡◌, ◌⊎◌, ℕ, ◌<◌, List, [], ◌∷◌, Option, Some, None, length, get_or, slice_get}
use Rattle.vlog_tree.specs.declared.table.Declaration.{Declaration}
use Rattle.vlog_tree.specs.declared.table.NetKind.TheVariants.{Input}
use Rattle.vlog_tree.specs.Table.{Name, net_kind_of}
use Rattle.vlog_tree.specs.Loops.{Edges}

-- the indices are those of inputs with these numbers, and each input with a number has one
pub record ArePlaces (ports : List Declaration) (number : Name → Option ℕ) (places : List (Option ℕ)) : Type 0 where
  pub right : (k i : ℕ) → get_or places k None ≡ Some i → (d : Declaration) × (slice_get ports i ≡ Some d) × (net_kind_of ports d.name ≡ Input) × (number d.name ≡ Some k)
  pub there : (y : Name) (k : ℕ) → net_kind_of ports y ≡ Input → number y ≡ Some k → (i : ℕ) × (get_or places k None ≡ Some i)

-- the index of a name was noted at its number, where it is that of an input
pub record PlacesInput (ports : List Declaration) (number : Name → Option ℕ) (at : ℕ) (name : Name) (old new : List (Option ℕ)) : Type 0 where
  pub len : length new ≡ length old
  pub right : (k i : ℕ) → get_or new k None ≡ Some i → (get_or old k None ≡ Some i) ⊎ ((i ≡ at) × (net_kind_of ports name ≡ Input) × (number name ≡ Some k))
  pub kept : (k i : ℕ) → get_or old k None ≡ Some i → (j : ℕ) × (get_or new k None ≡ Some j)
  pub there : (k : ℕ) → k < length old → net_kind_of ports name ≡ Input → number name ≡ Some k → (j : ℕ) × (get_or new k None ≡ Some j)

abbrev pub paired : Name → Option Declaration → Edges
paired x None = []
paired x (Some d) = (x, d.name) ∷ []

-- the pair of an output and the declaration at an index
abbrev pub picked : Name → List Declaration → Option ℕ → Edges
picked x ports None = []
picked x ports (Some i) = paired x (slice_get ports i)
