-- The modules of instances by their indices.
use Rattle.std.specs.Prelude.{ℕ, Bool, List, [], ◌∷◌, map}
use Rattle.std.specs.List.{flat_map}
use Rattle.std.specs.Option.{option_map_or}
use Rattle.vlog_tree.specs.declared.tree.Item.{Item}
use Rattle.vlog_tree.specs.declared.tree.Item.TheVariants.{Wire, Reg, Memory, Assign, Always, Instance}
use Rattle.vlog_tree.specs.declared.table.Declaration.{Declaration}
use Rattle.vlog_tree.specs.Form.{ModuleTree}
use Rattle.vlog_tree.specs.Table.{Name, declaration_name}
use Rattle.vlog_scope.specs.NameTable.{places_from}

-- the first index of a name
abbrev pub kind_place : List Declaration → Name → ℕ
kind_place names x = option_map_or (λ (p : ℕ × Bool). p.0) (places_from 0 (map declaration_name names) x) 0

abbrev pub item_kinds : List Declaration → Item → List ℕ
item_kinds names (Instance k i connections) = kind_place names k ∷ []
item_kinds names (Wire w x) = []
item_kinds names (Reg w x) = []
item_kinds names (Memory w x n) = []
item_kinds names (Assign x e) = []
item_kinds names (Always b) = []

-- the indices of the modules of a module's instances
abbrev pub module_kinds : List Declaration → ModuleTree → List ℕ
module_kinds names m = flat_map (item_kinds names) m.items

abbrev pub all_kinds : List Declaration → List ModuleTree → List (List ℕ)
all_kinds names ms = map (module_kinds names) ms
