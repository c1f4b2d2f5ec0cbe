-- What is bound to one instance, by the list of the instances that it is bound to.
use Rattle.std.specs.Prelude.{ℕ, List, [], ◌∷◌, Bool, true, false, not}
use Rattle.tapa_base.specs.declared.text.Place.{Place}
use Rattle.check_scope.specs.declared.fault.Broken.{Broken}
use Rattle.check_scope.specs.declared.fault.CheckCode.{CheckCode}
use Rattle.check_scope.specs.Faults.{fault, where_so}

abbrev pub is_one : List ℕ → Bool
is_one (i ∷ []) = true
is_one bound = false

abbrev pub the_one : List ℕ → ℕ
the_one [] = 0
the_one (i ∷ rest) = i

-- it is bound to one instance
abbrev pub one_faults : CheckCode → Place → List ℕ → List Broken
one_faults code place bound = where_so (not (is_one bound)) (fault code place)
