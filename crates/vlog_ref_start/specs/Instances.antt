-- The instances of a design, by how deep they lie in it.
use Rattle.std.specs.Prelude.{ℕ, zero, suc, List, [], ◌∷◌, ◌++◌, Option, Some, None}
use Rattle.std.specs.List.{flat_map}
use Rattle.vlog_tree.specs.declared.tree.Item.{Item}
use Rattle.vlog_tree.specs.declared.tree.Item.TheVariants.{Wire, Reg, Memory, Assign, Always, Instance}
use Rattle.vlog_tree.specs.Form.{ModuleTree}
use Rattle.vlog_tree.specs.Cycle.{Path}
use Rattle.vlog_tree.specs.Table.{module_named}
use Rattle.vlog_ref_start.specs.declared.instances.InstancePlace.{InstancePlace}

-- an instance: the way to it, and its module
abbrev pub PlaceTree : Type 0
PlaceTree = Path × ModuleTree

abbrev pub place_tree : InstancePlace → PlaceTree
place_tree p = (p.path.items, p.module.now)

abbrev pub place_of : Path → Option ModuleTree → List PlaceTree
place_of path None = []
place_of path (Some m) = (path, m) ∷ []

-- the instance of a line
abbrev pub line_places : List ModuleTree → Path → Item → List PlaceTree
line_places ms path (Instance k i connections) = place_of (i ∷ path) (module_named ms k)
line_places ms path (Wire w x) = []
line_places ms path (Reg w x) = []
line_places ms path (Memory w x n) = []
line_places ms path (Assign x e) = []
line_places ms path (Always b) = []

-- the instances directly inside one
abbrev pub inner_places : List ModuleTree → PlaceTree → List PlaceTree
inner_places ms p = flat_map (line_places ms p.0) p.1.items

-- those to which a path of n names leads
abbrev pub places_at : List ModuleTree → ModuleTree → ℕ → List PlaceTree
places_at ms top zero = ([], top) ∷ []
places_at ms top (suc n) = flat_map (inner_places ms) (places_at ms top n)

-- those to which a path of fewer than n names leads
abbrev pub places_below : List ModuleTree → ModuleTree → ℕ → List PlaceTree
places_below ms top zero = []
places_below ms top (suc n) = places_below ms top n ++ places_at ms top n
