-- A table from names to the first index at which a list has them.
use Rattle.std.specs.Prelude.{◌≡◌, min, ℕ, suc, Bool, List, [], ◌∷◌, Option, Some, None, if◌then◌else◌, bytes_eq, is_some, unwrap_or, Vec}
use Rattle.std.specs.HashMap.{HashMap, get_by}

-- from a name to its first index, and whether the list has it once more
abbrev pub Places : Type 0
Places = List ℕ → Option (ℕ × Bool)

-- what a map from names has
abbrev pub value_in : {X A S : Type 0} → HashMap (Vec ℕ A) X S → List ℕ → Option X
value_in table name = get_by (λ key. bytes_eq name key.items) table

abbrev pub place_in : {A S : Type 0} → HashMap (Vec ℕ A) (ℕ × Bool) S → Places
place_in table name = value_in table name

-- how often a name was counted, where twice and more are one
abbrev pub count_in : {A S : Type 0} → HashMap (Vec ℕ A) ℕ S → List ℕ → ℕ
count_in table name = unwrap_or (value_in table name) 0

-- one more name, before the others
abbrev pub with_name : List ℕ → ℕ → Places → Places
with_name name place others x = if bytes_eq name x then Some (place, is_some (others name)) else others x

-- the indices of a list of names whose first one has this index
abbrev pub places_from : ℕ → List (List ℕ) → Places
places_from place [] x = None
places_from place (name ∷ names) x = with_name name place (places_from (suc place) names) x

-- a map counts each name as often as f says, where twice and more are one
abbrev pub CountsTo : {A S : Type 0} → HashMap (Vec ℕ A) ℕ S → (List ℕ → ℕ) → Type 0
CountsTo table f = (x : List ℕ) → count_in table x ≡ min (f x) 2
