-- Graphs of names: numbers of names, and a graph of the numbers.
use Rattle.std.specs.Prelude.{◌≡◌, ℕ, ◌<◌, length, Option, Some, List, map, slice_get, Vec}
use Rattle.tapa_base.specs.Lists.{Has}
use Rattle.vlog_tree.specs.Table.{Name}
use Rattle.vlog_tree.specs.Loops.{Edges}
use Rattle.vlog_scope.specs.NameTable.{value_in}
use Rattle.number_graph.specs.Graphs.{Steps}
use Rattle.vlog_net_graph.specs.declared.names.GraphDraft.{GraphDraft}
use Rattle.vlog_net_graph.specs.declared.names.NamedGraph.{NamedGraph}

-- the numbers below a count denote names, one for each, and their steps denote the edges
pub record IsNumbered (edges : Edges) (number : Name → Option ℕ) (R : ℕ → ℕ → Type 0) (count : ℕ) : Type 0 where
  pub below : (a : Name) (j : ℕ) → number a ≡ Some j → j < count
  pub distinct : (a b : Name) (j : ℕ) → number a ≡ Some j → number b ≡ Some j → a ≡ b
  pub there : (a b : Name) → Has edges (a, b) → (j : ℕ) × (k : ℕ) × (number a ≡ Some j) × (number b ≡ Some k) × R j k
  pub only : (j k : ℕ) → R j k → (a : Name) × (b : Name) × (number a ≡ Some j) × (number b ≡ Some k) × Has edges (a, b)

-- a graph that still grows has these edges
abbrev pub IsDraftOf : Edges → GraphDraft → Type 0
IsDraftOf edges d = IsNumbered edges (value_in d.numbers) (λ j k. Has d.edges.items (j, k)) (length d.names.items)

abbrev pub IsGraphOf : Edges → NamedGraph → Type 0
IsGraphOf edges g = IsNumbered edges (value_in g.numbers) (Steps g.graph) (length g.graph)

-- each name keeps its number
abbrev pub IsExtended : (Name → Option ℕ) → (Name → Option ℕ) → Type 0
IsExtended old new = (a : Name) (j : ℕ) → old a ≡ Some j → new a ≡ Some j

-- texts without where they lie in memory
abbrev pub texts : {A : Type 0} → List (Vec ℕ A) → List Name
texts names = map (λ v. v.items) names

-- each name is at its number
abbrev pub AreListed : (Name → Option ℕ) → List Name → Type 0
AreListed number names = (x : Name) (k : ℕ) → number x ≡ Some k → slice_get names k ≡ Some x

abbrev pub IsListed : GraphDraft → Type 0
IsListed d = AreListed (value_in d.numbers) (texts d.names.items)

abbrev pub IsGraphListed : NamedGraph → Type 0
IsGraphListed g = AreListed (value_in g.numbers) (texts g.names.items)
