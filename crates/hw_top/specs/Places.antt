-- A table of the names of modules.
use Rattle.std.specs.Prelude.{◌≡◌, ℕ, Bool, List, Vec, is_some}
use Rattle.std.specs.HashMap.{HashMap}
use Rattle.vlog_tree.specs.Form.{ModuleTree}
use Rattle.vlog_tree.specs.Table.{Name, is_module_name}
use Rattle.vlog_scope.specs.NameTable.{place_in}

-- it has the names of these modules, and no others
abbrev pub ArePlaces : {A S : Type 0} → HashMap (Vec ℕ A) (ℕ × Bool) S → List ModuleTree → Type 0
ArePlaces places ms = (x : Name) → is_some (place_in places x) ≡ is_module_name ms x
