-- The indices of names among those that a module declares.
use Rattle.std.specs.Prelude.{◌≡◌, ℕ, ◌+◌, Bool, List, Option, Some, None, map, option_map, slice_get}
use Rattle.vlog_tree.specs.declared.table.Declaration.{Declaration}
use Rattle.vlog_tree.specs.Form.{ModuleTree}
use Rattle.vlog_tree.specs.Table.{Name, declared, declaration_name}
use Rattle.vlog_scope.specs.NameTable.{places_from}

-- the first index of a name
abbrev pub place_in : List Declaration → Name → Option ℕ
place_in ds x = option_map (λ (p : ℕ × Bool). p.0) (places_from 0 (map declaration_name ds) x)

-- the number of a name's net, where the first name has this number
abbrev pub number_in : ℕ → List Declaration → Name → Option ℕ
number_in base ds x = option_map (λ p. base + p) (place_in ds x)

-- two numbers, where there are both
abbrev pub both : Option ℕ → Option ℕ → Option (ℕ × ℕ)
both None q = None
both (Some p) None = None
both (Some p) (Some q) = Some (p, q)

-- a module declares a name at an index, counted from 0 in the order of the text
abbrev pub DeclaredAt : ModuleTree → ℕ → Name → Type 0
DeclaredAt m j x = (d : Declaration) × (slice_get (declared m) j ≡ Some d) × (d.name ≡ x)
