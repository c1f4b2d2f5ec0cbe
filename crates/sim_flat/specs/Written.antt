-- How the tables of modules are written, line by line.
use Rattle.std.specs.Prelude.{◌≡◌, ◌+◌, ◌∷◌, ◌++◌, if◌then◌else◌}
use Rattle.std.specs.Prelude.{ℕ, List, [], Option, Some, None, length, map, replicate, slice_get, slice_set, unwrap_or, option_map, option_to_list}
use Rattle.std.specs.List.{flat_map}
use Rattle.vlog_tree.specs.declared.tree.Connection.{Connection}
use Rattle.vlog_tree.specs.declared.tree.Item.{Item}
use Rattle.vlog_tree.specs.declared.tree.Item.TheVariants.{Wire, Reg, Memory, Assign, Always, Instance}
use Rattle.vlog_tree.specs.declared.table.Declaration.{Declaration}
use Rattle.vlog_tree.specs.declared.table.NetKind.{NetKind}
use Rattle.vlog_tree.specs.declared.table.NetKind.TheVariants as kind
use Rattle.vlog_tree.specs.Form.{ModuleTree}
use Rattle.vlog_tree.specs.Table.{Name, is_clk, net_kind_of, net_kind_is_input, module_declared, names_of}
use Rattle.vlog_tree.specs.Loops.{item_instances}
use Rattle.sim_flat.specs.Kinds.{kind_place}
use Rattle.sim_flat.specs.declared.tables.Child.{Child}
use Rattle.sim_flat.specs.declared.tables.Scopes.{Scopes}
use Rattle.sim_flat.specs.declared.tables.Source.{Source}
use Rattle.sim_flat.specs.declared.tables.Source.TheVariants as source
use Rattle.sim_flat.specs.Places.{place_in, both}

-- a list after writes at indices of it, one after another; a write past the end changes nothing
abbrev pub written : {A : Type 0} → List (ℕ × A) → List A → List A
written [] xs = xs
written (w ∷ ws) xs = written ws (slice_set xs w.0 w.1)

-- what a name has its number from before any line is read
abbrev pub source_by : Name → NetKind → Source
source_by x kind.Register = source.Register
source_by x kind.Input = if is_clk x then source.Nothing else source.Input
source_by x kind.Unknown = source.Nothing
source_by x kind.Output = source.Nothing
source_by x kind.WireNet = source.Nothing
source_by x kind.MemoryArray = source.Nothing
source_by x kind.ChildInstance = source.Nothing

abbrev pub first_source : Declaration → Source
first_source d = source_by d.name d.net_kind

-- the names of modules, and those that each declares
pub record AreScopes (ms : List ModuleTree) (s : Scopes) : Type 0 where
  pub names : s.names.now ≡ map module_declared ms
  pub scopes : s.scopes.now ≡ names_of ms
  pub none : s.none ≡ []

-- the names of an instance's module
abbrev pub inner_names : Scopes → Name → List Declaration
inner_names s kn = unwrap_or (slice_get s.scopes.now (kind_place s.names.now kn)) s.none

-- the indices of an input and of the net that it is connected to, and of another port and the net that it drives
abbrev pub join_of : List Declaration → List Declaration → Connection → Option (ℕ × ℕ)
join_of inner ds l = if net_kind_is_input (net_kind_of inner l.port) then both (place_in inner l.port) (place_in ds l.net) else None

abbrev pub output_of : List Declaration → List Declaration → Connection → Option (ℕ × ℕ)
output_of inner ds l = if net_kind_is_input (net_kind_of inner l.port) then None else both (place_in inner l.port) (place_in ds l.net)

abbrev pub some_join : ℕ × ℕ → ℕ × Option ℕ
some_join e = (e.0, Some e.1)

abbrev pub some_output : ℕ → ℕ × ℕ → ℕ × Source
some_output c e = (e.1, source.Child c e.0)

abbrev pub join_writes : List Declaration → List Declaration → Connection → List (ℕ × Option ℕ)
join_writes inner ds l = option_to_list (option_map some_join (join_of inner ds l))

abbrev pub output_writes : List Declaration → List Declaration → ℕ → Connection → List (ℕ × Source)
output_writes inner ds c l = option_to_list (option_map (some_output c) (output_of inner ds l))

abbrev pub joined_of : List Declaration → List Declaration → List Connection → List (Option ℕ)
joined_of inner ds connections = written (flat_map (join_writes inner ds) connections) (replicate (length inner) None)

abbrev pub some_line : ℕ → ℕ → ℕ × Source
some_line line p = (p, source.Line line)

-- what the line of a module at an index writes, where c instances come before it
abbrev pub line_writes : Scopes → List Declaration → ℕ → ℕ → Item → List (ℕ × Source)
line_writes s ds line c (Assign x e) = option_to_list (option_map (some_line line) (place_in ds x))
line_writes s ds line c (Instance kn i connections) = flat_map (output_writes (inner_names s kn) ds c) connections
line_writes s ds line c (Wire w x) = []
line_writes s ds line c (Reg w x) = []
line_writes s ds line c (Memory w x n) = []
line_writes s ds line c (Always b) = []

abbrev pub lines_writes : Scopes → List Declaration → ℕ → ℕ → List Item → List (ℕ × Source)
lines_writes s ds line c [] = []
lines_writes s ds line c (it ∷ items) = line_writes s ds line c it ++ lines_writes s ds (line + 1) (c + length (item_instances it)) items

-- the instance of a line
abbrev pub line_children : Scopes → List Declaration → ℕ → Item → List (ℕ × List (Option ℕ))
line_children s ds line (Instance kn i connections) = (line, joined_of (inner_names s kn) ds connections) ∷ []
line_children s ds line (Assign x e) = []
line_children s ds line (Wire w x) = []
line_children s ds line (Reg w x) = []
line_children s ds line (Memory w x n) = []
line_children s ds line (Always b) = []

abbrev pub lines_children : Scopes → List Declaration → ℕ → List Item → List (ℕ × List (Option ℕ))
lines_children s ds line [] = []
lines_children s ds line (it ∷ items) = line_children s ds line it ++ lines_children s ds (line + 1) items

-- instances without where they lie in memory
abbrev pub child_row : Child → ℕ × List (Option ℕ)
child_row c = (c.line, c.joined.items)

abbrev pub child_rows : List Child → List (ℕ × List (Option ℕ))
child_rows children = map child_row children
