-- The search for the first name on a loop.
use Rattle.std.specs.Prelude.{◌≡◌, ◌<◌, ◌⊎◌, ◌↔◌, ℕ, List, Bool, true, Option, Some, None, slice_get}
use Rattle.tapa_base.specs.Lists.{Has}
use Rattle.vlog_tree.specs.Form.{ModuleTree}
use Rattle.vlog_tree.specs.Table.{Name}
use Rattle.vlog_tree.specs.Loops.{Edges, Reaches, Rests, port_of, item_instances, instances, containment, TextPlace, place_name, IsFirstIn}
use Rattle.vlog_net_graph.specs.Names.{IsGraphOf, IsGraphListed}
use Rattle.vlog_comb_loops.specs.Summaries.{module_edges}
use Rattle.vlog_tree.specs.declared.tree.Item.{Item}
use Rattle.vlog_comb_loops.specs.Questions.{Question, AsksAll}
use Rattle.vlog_comb_loops.specs.declared.suspects.Suspect.{Suspect}
use Rattle.vlog_comb_loops.specs.declared.suspects.Loops.{Loops}

-- the name of the first position with a property, and none where no position has it
abbrev pub IsSearched : (TextPlace → Type 0) → List TextPlace → Option Name → Type 0
IsSearched P places None = (s : TextPlace) → Has places s → P s → ⊥
IsSearched P places (Some x) = (s : TextPlace) × IsFirstIn P places s × (place_name s ≡ x)

-- a module has a net of a module on a loop: its own, or a port of an instance
abbrev pub LoopsIn : Edges → ModuleTree → Name → Name → Type 0
LoopsIn edges k m x = ((k.name ≡ m) × Reaches edges x x) ⊎ ((i : Name) × Has (instances k) (m, i) × Reaches edges (port_of i x) (port_of i x))

-- what one line alone says, and with no line of the module's own nets
abbrev pub LoopsAt : Edges → ModuleTree → Option ℕ → Name → Name → Type 0
LoopsAt edges k None m x = (k.name ≡ m) × Reaches edges x x
LoopsAt edges k (Some j) m x =
    (item : Item) × (slice_get k.items j ≡ Some item) × ((i : Name) × Has (item_instances item) (m, i) × Reaches edges (port_of i x) (port_of i x))

-- the graph of the module at an index, by whose edges each net reaches all that it depends on
pub record IsSuspect (ms : List ModuleTree) (is_top : Name → Bool) (s : Suspect) : Type 0 where
  pub tree : ModuleTree
  pub at : slice_get ms s.place ≡ Some tree
  pub edges : Edges
  pub graph : IsGraphOf edges s.graph
  pub listed : IsGraphListed s.graph
  pub reaches : (x y : Name) → Rests ms is_top tree x y ↔ Reaches edges x y

-- a question of a name is answered by yes
abbrev pub LoopsBy : List ModuleTree → (Name → Bool) → List Suspect → Name → Name → Question → Type 0
LoopsBy ms is_top suspects m x e = (s : Suspect) × (slice_get suspects e.0 ≡ Some s) × ((v : IsSuspect ms is_top s) × LoopsAt v.edges v.tree e.1 m x)

-- a graph with these edges was put to the others, or has no loop
pub record IsJudged (edges : Edges) (place : ℕ) (old new : List Suspect) : Type 0 where
  pub right : (s : Suspect) → Has new s → Has old s ⊎ ((s.place ≡ place) × IsGraphOf edges s.graph × IsGraphListed s.graph)
  pub kept : (s : Suspect) → Has old s → Has new s
  pub judged : ((x : Name) → Reaches edges x x → ⊥) ⊎ ((s : Suspect) × Has new s × (s.place ≡ place))

-- the modules before an index were judged by their edges with these sums
pub record AreJudged (ms : List ModuleTree) (is_top : Name → Bool) (sums : List Edges) (place : ℕ) (suspects : List Suspect) : Type 0 where
  pub right : (s : Suspect) → Has suspects s → (m : ModuleTree) × (slice_get ms s.place ≡ Some m) × IsGraphOf (module_edges ms is_top sums m) s.graph × IsGraphListed s.graph
  pub others : (j : ℕ) (m : ModuleTree) → j < place → slice_get ms j ≡ Some m
      → ((x : Name) → Reaches (module_edges ms is_top sums m) x x → ⊥) ⊎ ((s : Suspect) × Has suspects s × (slice_get ms s.place ≡ Some m))

-- graphs of modules, so that no other module has a loop
pub record AreSuspects (ms : List ModuleTree) (is_top : Name → Bool) (suspects : List Suspect) : Type 0 where
  pub right : (s : Suspect) → Has suspects s → IsSuspect ms is_top s
  pub others : (m : ModuleTree) → Has ms m → ((x : Name) → Rests ms is_top m x x → ⊥) ⊎ ((s : Suspect) × Has suspects s × (slice_get ms s.place ≡ Some m))

-- such graphs, what to ask of each name, and the graph of what contains what
pub record IsEvidence (ms : List ModuleTree) (is_top : Name → Bool) (loops : Loops) : Type 0 where
  pub found : AreSuspects ms is_top loops.suspects.items
  pub contains : IsGraphOf (containment ms) loops.contains
  pub questions : AsksAll ms loops.suspects.items loops.questions
  pub flat : loops.flat ≡ true → (x : Name) → Reaches (containment ms) x x → ⊥
