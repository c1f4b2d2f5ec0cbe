-- Values of the code beside the JSON values that they stand for.
use Rattle.std.proofs.Common.{◌≡◌, ℕ, List, [], ◌∷◌, map, filter, Bool, true, Option, Some, None, String, Global, string_bytes, Bor, refl, ap}
use Rattle.std.specs.Map.{keys_of as entry_keys}
use Rattle.serde_json.specs.Data.{Data as Json, null, boolean, number, string, array, object}
use Rattle.serde_json.specs.Find.{get, get_member, as_array, as_object}
use Rattle.serde_json.specs.View.{view, items_view, members_view}
use Rattle.serde_json.specs.declared.value.Value.{Value}
use Rattle.std.specs.List.{list_all}
use Rattle.run_data.specs.Data.{list_of, items_at, keys_of, members_at, is_number, is_list_of_numbers}
use Rattle.run_data.specs.Seen.{seen, first}
use Rattle.run_data.proofs.Lists.{all-map}

pub list_of-items_view : (values : List Value) → list_of (items_view values) ≡ map view values
list_of-items_view [] = refl
list_of-items_view (value ∷ values) = ap (λ rest. view value ∷ rest) (list_of-items_view values)

-- the items of a list that is there
pub items_at-view : (found : Option (Bor Value)) (value : Bor Value) (values : List Value) → found ≡ Some value → as_array (view value.now) ≡ Some (items_view values) → items_at (seen found) ≡ map view values
items_at-view found value values there is = rw (there, is) (list_of-items_view values)

pub keys_of-members_view : (entries : List (String Global × Value)) → keys_of (members_view entries) ≡ map string_bytes (entry_keys entries)
keys_of-members_view [] = refl
keys_of-members_view (e ∷ entries) = ap (λ rest. string_bytes e.0 ∷ rest) (keys_of-members_view entries)

-- the keys of an object that is there
pub keys_of-view : (found : Option (Bor Value)) (value : Bor Value) (entries : List (String Global × Value)) → found ≡ Some value → as_object (view value.now) ≡ Some (members_view entries) → keys_of (members_at (seen found)) ≡ map string_bytes (entry_keys entries)
keys_of-view found value entries there is = rw (there, is) (keys_of-members_view entries)

-- a name is looked up among the members of an object
pub get-members_at : (name : List ℕ) (json : Json) → get name json ≡ get_member name (members_at (Some json))
get-members_at name null = refl
get-members_at name (boolean b) = refl
get-members_at name (number n) = refl
get-members_at name (string s) = refl
get-members_at name (array ds) = refl
get-members_at name (object ms) = refl

pub members_at-view : (json : Json) (entries : List (String Global × Value)) → as_object json ≡ Some (members_view entries) → keys_of (members_at (Some json)) ≡ keys_of (members_view entries)
members_at-view json entries is = rw is

pub is_list_of_numbers-view : (json : Json) (values : List Value) → as_array json ≡ Some (items_view values) → is_list_of_numbers json ≡ list_all (λ value. is_number (view value)) values
is_list_of_numbers-view json values is = rw (is, list_of-items_view) (all-map is_number view values)

-- a loop over the keys of a map, which has passed those before `left`
module _ (p : List ℕ → Bool) (entries : List (String Global × Value)) (left : List (String Global)) (so_far : first (filter p (map string_bytes (entry_keys entries))) ≡ first (filter p (map string_bytes left))) where
  pub key_here : (key : String Global) (rest : List (String Global)) → left ≡ key ∷ rest → p (string_bytes key) ≡ true → Some (string_bytes key) ≡ first (filter p (keys_of (members_view entries)))
  key_here key rest is holds = rw (keys_of-members_view, so_far, is, holds)

  pub key_nowhere : left ≡ [] → None ≡ first (filter p (keys_of (members_view entries)))
  key_nowhere is = rw (keys_of-members_view, so_far, is)
