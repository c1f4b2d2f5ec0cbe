-- The members of an object, as the code goes over them.
use Rattle.std.proofs.Common.{◌≡◌, ℕ, List, [], ◌∷◌, map, filter, Bool, true, false, Some, None, String, Global, string_bytes, refl, ap}
use Rattle.serde_json.specs.Data.{Data as Json}
use Rattle.serde_json.specs.View.{view, items_view, members_view}
use Rattle.serde_json.specs.declared.value.Value.{Value}
use Rattle.std.specs.List.{list_all}
use Rattle.serde_json.specs.Find.{as_array}
use Rattle.run_data.specs.Seen.{first}
use Rattle.run_data.proofs.Views.{list_of-items_view}
use Rattle.plan_device.specs.Json.{entries_of, is_list_of}
use Rattle.run_data.proofs.Lists.{all-map as all_map}

abbrev pub entry_of : String Global × Value → List ℕ × Json
entry_of e = (string_bytes e.0, view e.1)

pub entries_of_members : (entries : List (String Global × Value)) → entries_of (members_view entries) ≡ map entry_of entries
entries_of_members [] = refl
entries_of_members (e ∷ entries) = ap (λ rest. entry_of e ∷ rest) (entries_of_members entries)

-- a loop over the entries of a map, which has passed those before `left`
module _ (p : List ℕ × Json → Bool) (entries : List (String Global × Value)) (left : List (String Global × Value)) (so_far : first (filter p (map entry_of entries)) ≡ first (filter p (map entry_of left))) where
  pub entry_here : (e : String Global × Value) (rest : List (String Global × Value)) → left ≡ e ∷ rest → p (entry_of e) ≡ true → first (filter p (entries_of (members_view entries))) ≡ Some (entry_of e)
  entry_here e rest is holds = rw (entries_of_members, so_far, is, holds)

  pub entry_nowhere : left ≡ [] → first (filter p (entries_of (members_view entries))) ≡ None
  entry_nowhere is = rw (entries_of_members, so_far, is)

-- the same, all of which pass
module _ (p : List ℕ × Json → Bool) (entries : List (String Global × Value)) (left : List (String Global × Value)) (so_far : list_all p (map entry_of entries) ≡ list_all p (map entry_of left)) where
  pub entry_fails : (e : String Global × Value) (rest : List (String Global × Value)) → left ≡ e ∷ rest → p (entry_of e) ≡ false → list_all p (entries_of (members_view entries)) ≡ false
  entry_fails e rest is fails = rw (entries_of_members, so_far, is, fails)

  pub entries_pass : left ≡ [] → list_all p (entries_of (members_view entries)) ≡ true
  entries_pass is = rw (entries_of_members, so_far, is)

-- a list that is there
pub is_list_of_view : (test : Json → Bool) (json : Json) (values : List Value) → as_array json ≡ Some (items_view values) → is_list_of test json ≡ list_all (λ value. test (view value)) values
is_list_of_view test json values is = rw (is, list_of-items_view) (all_map test view values)
