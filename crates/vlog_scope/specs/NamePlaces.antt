-- The indices of names, by chains or in a tree that is in order of the names.
use Rattle.std.specs.Prelude.{◌≡◌, ℕ, Bool, List, Vec, map}
use Rattle.std.specs.BTreeMap.{BTreeMap, get_by}
use Rattle.std.specs.Ordering.{nat_cmp}
use Rattle.std.specs.Cmp.Lexicographic.{slice_cmp}
use Rattle.vlog_tree.specs.declared.table.Declaration.{Declaration}
use Rattle.vlog_tree.specs.Table.{Name, declaration_name}
use Rattle.vlog_scope.specs.declared.places.NamePlaces.{NamePlaces}
use Rattle.vlog_scope.specs.declared.places.NamePlaces.TheVariants.{Chained, Ordered}
use Rattle.vlog_scope.specs.NameTable.{Places, places_from}
use Rattle.vlog_scope.specs.Chains.{IsChained, AreShort}

-- what a tree of names has
abbrev pub place_by : {A : Type 0} → BTreeMap (Vec ℕ A) (ℕ × Bool) → Places
place_by names x = get_by (λ key. slice_cmp nat_cmp x key.items) names

-- a tree has the first index of each name of a list
abbrev pub AreNamePlaces : {A : Type 0} → List Declaration → BTreeMap (Vec ℕ A) (ℕ × Bool) → Type 0
AreNamePlaces ds names = (x : Name) → place_by names x ≡ places_from 0 (map declaration_name ds) x

-- each of both ways leads to the first index of each name of a list; no chain is long
abbrev pub HasPlaces : List Declaration → NamePlaces → Type 0
HasPlaces ds (Chained chains) = IsChained 0 ds chains.heads.items chains.nexts.items × AreShort chains.heads.items chains.nexts.items
HasPlaces ds (Ordered names) = AreNamePlaces ds names
