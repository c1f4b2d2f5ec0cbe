-- What a check answers.
use Rattle.std.specs.Prelude.{◌≡◌, List, [], ◌∷◌, Result, Ok, Err}
use Rattle.check_scope.specs.declared.fault.Broken.{Broken}
use Rattle.check_scope.specs.declared.fault.CheckFault.{CheckFault}
use Rattle.check_scope.specs.declared.fault.CheckFault.TheVariants.{At, OutOfMemory}

abbrev pub IsFirstBroken : List Broken → Broken → Type 0
IsFirstBroken [] b = ⊥
IsFirstBroken (a ∷ rest) b = a ≡ b

-- nothing is broken and the answer denotes the meaning, or it is the first rule that is broken, unless memory ran out
abbrev pub ScopeAnswers : {A B : Type 0} → (A → B) → Result A CheckFault → List Broken → B → Type 0
ScopeAnswers view (Ok x) faults meaning = (faults ≡ []) × (view x ≡ meaning)
ScopeAnswers view (Err (At b)) faults meaning = IsFirstBroken faults b
ScopeAnswers view (Err OutOfMemory) faults meaning = Unit {0}
