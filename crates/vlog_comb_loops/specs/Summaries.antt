-- What the check of loops keeps of each module: which of its outputs depend on which of its inputs.
use Rattle.std.specs.Prelude.{◌≡◌, ◌↔◌, ℕ, List, [], ◌∷◌, ◌++◌, Bool, Some, bytes_eq, if◌then◌else◌, map, length, slice_get, get_or}
use Rattle.std.specs.List.{flat_map}
use Rattle.vlog_tree.specs.declared.table.Declaration.{Declaration}
use Rattle.vlog_tree.specs.declared.table.NetKind.TheVariants.{Input, Output}
use Rattle.tapa_base.specs.Lists.{Has}
use Rattle.vlog_tree.specs.Form.{ModuleTree}
use Rattle.vlog_tree.specs.Table.{Name, port_declared, net_kind_of}
use Rattle.vlog_tree.specs.Loops.{Edges, Reaches, Rests, direct_edges, instances}
pub use Rattle.vlog_net_graph.specs.Merged.{is_named, port_pair}

-- the sum of the first module of this name
abbrev pub sum_named : List ModuleTree → List Edges → Name → Edges
sum_named [] sums x = []
sum_named (m ∷ ms) [] x = []
sum_named (m ∷ ms) (s ∷ sums) x = if bytes_eq m.name x then s else sum_named ms sums x

-- the pairs of a sum, as wires of an instance
abbrev pub through_edges : List ModuleTree → List Edges → Name × Name → Edges
through_edges ms sums k = map (port_pair k.1) (sum_named ms sums k.0)

-- the lines of a module, and what its instances do by their sums
abbrev pub module_edges : List ModuleTree → (Name → Bool) → List Edges → ModuleTree → Edges
module_edges ms is_top sums m = direct_edges ms is_top m ++ flat_map (through_edges ms sums) (instances m)

-- an output that reaches an input
abbrev pub IsPair : Edges → List Declaration → Name → Name → Type 0
IsPair edges ports x y = (net_kind_of ports x ≡ Output) × (net_kind_of ports y ≡ Input) × Reaches edges x y

-- just these pairs
abbrev pub IsSumOf : Edges → List Declaration → Edges → Type 0
IsSumOf edges ports sum = (x y : Name) → Has sum (x, y) ↔ IsPair edges ports x y

-- each pair of a sum is right
abbrev pub IsSoundSum : List ModuleTree → (Name → Bool) → ModuleTree → Edges → Type 0
IsSoundSum ms is_top m sum =
    (x y : Name) → Has sum (x, y)
    → (net_kind_of (map port_declared m.ports) x ≡ Output) × (net_kind_of (map port_declared m.ports) y ≡ Input) × Rests ms is_top m x y

-- a module has an instance of a module of this name
abbrev pub IsUsed : List ModuleTree → Name → Type 0
IsUsed ms x = (p : ModuleTree) × (i : Name) × Has ms p × Has (instances p) (x, i)

-- a sum has each pair that the module's edges give, where others contain the module
abbrev pub IsClosedSum : List ModuleTree → (Name → Bool) → List Edges → ModuleTree → Edges → Type 0
IsClosedSum ms is_top sums m sum = IsUsed ms m.name → (x y : Name) → IsPair (module_edges ms is_top sums m) (map port_declared m.ports) x y → Has sum (x, y)

-- the sums are in the order of the modules
pub record AreSums (P : ModuleTree → Edges → Type 0) (ms : List ModuleTree) (sums : List Edges) : Type 0 where
  pub len : length sums ≡ length ms
  pub each : (at : ℕ) (m : ModuleTree) → slice_get ms at ≡ Some m → P m (get_or sums at [])

-- the sums say all that outputs depend on, and nothing more
pub record AreRight (ms : List ModuleTree) (is_top : Name → Bool) (sums : List Edges) : Type 0 where
  pub sound : AreSums (IsSoundSum ms is_top) ms sums
  pub closed : AreSums (IsClosedSum ms is_top sums) ms sums
