-- Counts of names at their indices.
use Rattle.std.specs.Prelude.{◌≡◌, ℕ, Bool, Some, List, length, get_or, map, min}
use Rattle.vlog_tree.specs.declared.table.Declaration.{Declaration}
use Rattle.vlog_tree.specs.Table.{Name, declaration_name}
use Rattle.vlog_scope.specs.NameTable.{places_from}

-- at the first index of each declared name is how often f counts it, cut at 2
pub record CountsPlaces (ds : List Declaration) (counts : List ℕ) (f : Name → ℕ) : Type 0 where
  pub len : length counts ≡ length ds
  pub counted : (x : Name) (p : ℕ) (again : Bool) → places_from 0 (map declaration_name ds) x ≡ Some (p, again) → get_or counts p 0 ≡ min (f x) 2
