-- What is refused in a source, and where.
use Rattle.std.specs.Prelude.{ℕ, List, [], ◌∷◌, Bool, true, false, not, Option, Some, None, if◌then◌else◌}
use Rattle.tapa_base.specs.declared.text.Place.{Place}
use Rattle.tapa_syntax.specs.declared.tree.Name.{Name}
use Rattle.check_scope.specs.declared.fault.CheckCode.{CheckCode}
use Rattle.check_scope.specs.declared.fault.CheckCode.TheVariants.{C1, C2, C3, C11}
use Rattle.check_scope.specs.declared.fault.Broken.{Broken}
use Rattle.check_scope.specs.declared.entity.Entity.{Entity}
use Rattle.check_scope.specs.Scopes.{Scope, entity_of, entity_here}

abbrev pub fault : CheckCode → Place → List Broken
fault code place = record { code = code; place = place; limit = None } ∷ []

-- C11: more than a limit allows
abbrev pub over : ℕ → Place → List Broken
over limit place = record { code = C11; place = place; limit = Some limit } ∷ []

-- faults where a condition holds
abbrev pub where_so : Bool → List Broken → List Broken
where_so b faults = if b then faults else []

-- C1: a name that is used is declared before its use (ISO C++ [basic.lookup.unqual]); C3: it is of an entity that is legal there
abbrev pub wrong_entity : (Entity → Bool) → Place → Option Entity → List Broken
wrong_entity fits place None = fault C1 place
wrong_entity fits place (Some s) = where_so (not (fits s)) (fault C3 place)

abbrev pub name_faults : Scope → (Entity → Bool) → Name → List Broken
name_faults E fits x = wrong_entity fits x.place (entity_of x.text E)

abbrev pub is_there : Option Entity → Bool
is_there None = false
is_there (Some s) = true

-- C2: no name is declared twice in one block (ISO C++ [basic.scope.declarative])
abbrev pub doubled : Scope → Name → List Broken
doubled E x = where_so (is_there (entity_here x.text E)) (fault C2 x.place)
