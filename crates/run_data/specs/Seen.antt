-- What the code's references to JSON values denote, the first of a list, and the names in a table.
use Rattle.std.specs.Prelude.{ℕ, List, [], ◌∷◌, Bool, Option, Some, None, is_some, option_map, String}
use Rattle.std.specs.HashMap.{HashMap, get_by_text}
use Rattle.std.specs.Borrow.{Bor}
use Rattle.serde_json.specs.Data.{Data as Json}
use Rattle.serde_json.specs.View.{view}
use Rattle.serde_json.specs.declared.value.Value.{Value}

abbrev pub seen : Option (Bor Value) → Option Json
seen found = option_map (λ value. view value.now) found

abbrev pub first : {A : Type 0} → List A → Option A
first [] = None
first (x ∷ xs) = Some x

abbrev pub has_name : {X A S : Type 0} → HashMap (String A) X S → List ℕ → Bool
has_name names name = is_some (get_by_text names name)
