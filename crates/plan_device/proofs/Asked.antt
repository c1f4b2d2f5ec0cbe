-- Objects of amounts, whose members are gone over once, beside what their names are looked up for.
use Rattle.std.proofs.Common.{◌≡◌, ℕ, suc, List, [], ◌∷◌, All, get_or, Bool, true, false, not, Some, None, option_map, String, BTreeMap, Global, string_bytes, string_cmp, refl, sym, ap, ◌∙◌, inl, inr, arith}
use Rattle.std.specs.Prelude.{◌&&◌, ◌||◌, bytes_eq}
use Rattle.std.specs.BTreeMap.{get as map_get}
use Rattle.std.specs.Cmp.Lexicographic.{nat_list_eq_equiv}
use Rattle.std.specs.List.{list_all}
use Rattle.std.proofs.lemmas.Slice.Eq.{bytes_eq-Decides}
use Rattle.serde_json.specs.Data.{Data as Json, null, boolean, number, string, array, object, Members}
use Rattle.serde_json.specs.Find.{get_member, as_object}
use Rattle.serde_json.specs.View.{view, members_view}
use Rattle.serde_json.specs.declared.value.Value.{Value}
use Rattle.serde_json.proofs.Views.{view-lookup, member_here, member_later}
use Rattle.run_data.specs.Data.{is_absent_or, is_among, is_number, keys_of}
use Rattle.plan_device.specs.Asked.{is_right}
use Rattle.plan_device.specs.Json.{entries_of, each_resource, has_amounts, is_amounts, is_in, past_amounts, resource_names}
use Rattle.plan_device.specs.declared.amounts.Asked.{Asked}
use Rattle.plan_device.specs.declared.amounts.Asked.TheVariants.{Number, Amount}
use Rattle.plan_device.proofs.Entries.{entry_of, entries_of_members}
use Rattle.tapa_base.proofs.Tests.{bool_cases as true_or_false, and_left as first_holds, and_right as second_holds, true_not_false}
use Rattle.run_data.proofs.Lists.{all-map as all_map}

abbrev pub Entry : Type 0
Entry = String Global × Value

-- ---- tests of all names

pub no_and : (b : Bool) → (b && false) ≡ false
no_and true = refl
no_and false = refl

yes_or : (b : Bool) → (b || true) ≡ true
yes_or true = refl
yes_or false = refl

or_second : (a b : Bool) → a ≡ true → (not a || b) ≡ true → b ≡ true
or_second true b among e = e
or_second false b among e = cc

or_fails : (a b : Bool) → (not a || b) ≡ false → (a ≡ true) × (b ≡ false)
or_fails true b e = (refl, e)
or_fails false b e = cc

both_and : (a b x y : Bool) → ((a && b) && (x && y)) ≡ ((a && x) && ((not a || b) && y))
both_and true true true y = refl
both_and true true false y = refl
both_and true false true y = refl
both_and true false false y = refl
both_and false b x y = refl

among_all : (f : List ℕ → Bool) (names : List (List ℕ)) → ((n : List ℕ) → is_among names n ≡ true → f n ≡ true) → list_all f names ≡ true
among_all f [] h = refl
among_all f (n ∷ names) h =
    rw (h n (rw (nat_list_eq_equiv.refl n)), among_all f names (λ m among. h m (rw among (yes_or (bytes_eq m n)))))

among_fails : (f : List ℕ → Bool) (names : List (List ℕ)) (k : List ℕ) → is_among names k ≡ true → f k ≡ false → list_all f names ≡ false
among_fails f [] k among fails = cc
among_fails f (n ∷ names) k among fails = elim (true_or_false (bytes_eq k n)) [
  | inl same ↦ let is : f n ≡ false = ap f (sym ((bytes_eq-Decides k n).0 same)) ∙ fails in rw is
  | inr other ↦ let later : is_among names k ≡ true = rw other at among in rw (among_fails f names k later fails) (no_and (f n))
]

-- ---- objects

-- a test of what each resource has among members
abbrev pub each_by : (Json → Bool) → Members → Bool
each_by test members = list_all (λ name. is_absent_or test (get_member name members)) resource_names

pub each_of_object : (test : Json → Bool) (json : Json) (all : Members) → as_object json ≡ Some all → each_resource test json ≡ each_by test all
each_of_object test null all is = cc
each_of_object test (boolean b) all is = cc
each_of_object test (number n) all is = cc
each_of_object test (string s) all is = cc
each_of_object test (array ds) all is = cc
each_of_object test (object ms) all is = let same : ms ≡ all = cc in ap (each_by test) same

pub each_of_none : (test : Json → Bool) (json : Json) → as_object json ≡ None → each_resource test json ≡ true
each_of_none test null is = refl
each_of_none test (boolean b) is = refl
each_of_none test (number n) is = refl
each_of_none test (string s) is = refl
each_of_none test (array ds) is = refl
each_of_none test (object ms) is = cc

-- the value at each key is the one that is found there
abbrev pub IsFound : List Entry → Entry → Type 0
IsFound entries e = get_member (string_bytes e.0) (members_view entries) ≡ Some (view e.1)

pub found_by : (m : BTreeMap (String Global) Value) (e : Entry) → map_get string_cmp m e.0 ≡ Some e.1 → IsFound m.entries e
found_by m e is = sym (view-lookup (string_bytes e.0) m.entries) ∙ ap (option_map view) is

-- whether an entry is no resource's, or passes a test
module _ (test : Json → Bool) where
  abbrev pub passes : List ℕ → Json → Bool
  passes name json = not (is_among resource_names name) || test json

  abbrev pub entry_passes : Entry → Bool
  entry_passes e = passes (string_bytes e.0) (view e.1)

  passed : (name : List ℕ) (json : Json) → passes name json ≡ true → is_among resource_names name ≡ true → test json ≡ true
  passed name json right among = or_second (is_among resource_names name) (test json) among right

  passed_at : (name : List ℕ) (entries : List Entry) → is_among resource_names name ≡ true → list_all entry_passes entries ≡ true → is_absent_or test (get_member name (members_view entries)) ≡ true
  passed_at name [] among all = refl
  passed_at name (e ∷ entries) among all = elim (true_or_false (bytes_eq name (string_bytes e.0))) [
    | inl same ↦
        let is : name ≡ string_bytes e.0 = (bytes_eq-Decides name (string_bytes e.0)).0 same in
        let here : test (view e.1) ≡ true = passed (string_bytes e.0) (view e.1) (first_holds (entry_passes e) (list_all entry_passes entries) all) (ap (is_among resource_names) (sym is) ∙ among) in
        rw (member_here name e entries is) here
    | inr other ↦
        let apart = λ (is : name ≡ string_bytes e.0). true_not_false (sym ((bytes_eq-Decides name (string_bytes e.0)).1 is) ∙ other) in
        rw (member_later name e entries apart) (passed_at name entries among (second_holds (entry_passes e) (list_all entry_passes entries) all))
  ]

  module _ (entries : List Entry) where
    abbrev at_name : List ℕ → Bool
    at_name name = is_absent_or test (get_member name (members_view entries))

    failed_at : (left : List Entry) → All (IsFound entries) left → list_all entry_passes left ≡ false → list_all at_name resource_names ≡ false
    failed_at [] found fails = cc
    failed_at (e ∷ left) found fails = elim (true_or_false (entry_passes e)) [
      | inl fine ↦
          let later : list_all entry_passes left ≡ false = rw fine at fails in
          failed_at left (λ k d h. found (suc k) d (omega arith)) later
      | inr bad ↦
          let both = or_fails (is_among resource_names (string_bytes e.0)) (test (view e.1)) bad in
          let there : get_member (string_bytes e.0) (members_view entries) ≡ Some (view e.1) = found 0 e (omega arith) in
          let no : at_name (string_bytes e.0) ≡ false = rw there both.1 in
          among_fails at_name resource_names (string_bytes e.0) both.0 no
    ]

    pub each_passes : All (IsFound entries) entries → list_all entry_passes entries ≡ each_by test (members_view entries)
    each_passes found = elim (true_or_false (list_all entry_passes entries)) [
      | inl all ↦ all ∙ sym (among_all at_name resource_names (λ name among. passed_at name entries among all))
      | inr fails ↦ fails ∙ sym (failed_at entries found fails)
    ]

-- ---- what is asked

keys_among : (entries : List Entry) → list_all (λ (e : Entry). is_among resource_names (string_bytes e.0)) entries ≡ list_all (is_among resource_names) (keys_of (members_view entries))
keys_among [] = refl
keys_among (e ∷ entries) = ap (λ b. is_among resource_names (string_bytes e.0) && b) (keys_among entries)

number_right : (entries : List Entry) → list_all (λ (e : Entry). is_right Number (string_bytes e.0) (view e.1)) entries ≡ (list_all (λ (e : Entry). is_among resource_names (string_bytes e.0)) entries && list_all (entry_passes is_number) entries)
number_right [] = refl
number_right (e ∷ entries) = rw (number_right entries) (both_and (is_among resource_names (string_bytes e.0)) (is_number (view e.1)) _ _)

all_entries : (asked : Asked) (entries : List Entry) → list_all (λ (m : List ℕ × Json). is_right asked m.0 m.1) (entries_of (members_view entries)) ≡ list_all (λ (e : Entry). is_right asked (string_bytes e.0) (view e.1)) entries
all_entries asked entries = rw (entries_of_members entries) (all_map (λ (m : List ℕ × Json). is_right asked m.0 m.1) entry_of entries)

module _ (m : BTreeMap (String Global) Value) (json : Json) (is : as_object json ≡ Some (members_view m.entries)) (found : All (λ (e : Entry). map_get string_cmp m e.0 ≡ Some e.1) m.entries) where
  all_found : All (IsFound m.entries) m.entries
  all_found k d h = found_by m (get_or m.entries k d) (found k d h)

  pub numbers_right : list_all (λ (x : List ℕ × Json). is_right Number x.0 x.1) (entries_of (members_view m.entries)) ≡ is_amounts json
  numbers_right =
      let each : list_all (entry_passes is_number) m.entries ≡ each_resource is_number json = each_passes is_number m.entries all_found ∙ sym (each_of_object is_number json (members_view m.entries) is) in
      let whole : list_all (λ (x : List ℕ × Json). is_right Number x.0 x.1) (entries_of (members_view m.entries)) ≡ (list_all (is_among resource_names) (keys_of (members_view m.entries)) && each_resource is_number json) =
      all_entries Number m.entries ∙ number_right m.entries ∙ rw (keys_among m.entries, each) in
      whole ∙ rw is

  pub amounts_right : list_all (λ (x : List ℕ × Json). is_right Amount x.0 x.1) (entries_of (members_view m.entries)) ≡ has_amounts json
  amounts_right = all_entries Amount m.entries ∙ each_passes (is_in 0 past_amounts) m.entries all_found ∙ sym (each_of_object (is_in 0 past_amounts) json (members_view m.entries) is)
