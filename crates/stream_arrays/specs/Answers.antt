-- What a function answers, by what the definitions give.
use Rattle.std.specs.Prelude.{◌≡◌, Result, Ok, Err}
use Rattle.stream_arrays.specs.declared.fault.ArrayRefusal.{ArrayRefusal}
use Rattle.stream_arrays.specs.declared.fault.ArrayRefusal.TheVariants.{Fault, OutOfMemory}
use Rattle.stream_arrays.specs.Written.{Outcome}

-- a refusal has its cause; want of memory says nothing
abbrev pub IsArrayCause : {A : Type 0} → ArrayRefusal → Outcome A → Type 0
IsArrayCause (Fault fault) outcome = outcome ≡ Err fault
IsArrayCause OutOfMemory outcome = Unit {0}

-- a value is what the definitions give, seen so
abbrev pub Gives : {A B : Type 0} → (A → B) → Result A ArrayRefusal → Outcome B → Type 0
Gives view (Ok a) outcome = outcome ≡ Ok (view a)
Gives view (Err e) outcome = IsArrayCause e outcome
