-- What the keys of a file without faults say.
use Rattle.std.proofs.Common.{◌≡◌, ℕ, zero, suc, ◌+◌, ◌-◌, ◌*◌, ◌<◌, ◌≤◌, ◌==◌, List, [], ◌∷◌, length, true, false, Option, Some, None, option_and_then, unwrap_or, is_some, codes, slice_get, nat_le, nat_lt, ◌&&◌, refl, sym, ap, ◌∙◌, inl, inr, arith}
use Rattle.std.specs.List.{flat_map}
use Rattle.std.proofs.lemmas.Bool.Decides.{nat_tests}
use Rattle.std.proofs.lemmas.List.{length-map, length-replicate}
use Rattle.serde_json.specs.Data.{Data as Json}
use Rattle.serde_json.specs.Find.{get}
use Rattle.run_data.specs.Data.{items_at}
use Rattle.run_data.specs.Seen.{first}
use Rattle.plan_device.specs.Amounts.{amounts_of}
use Rattle.plan_device.specs.Contents.{borders, listed, slots_of, levels_of}
use Rattle.plan_device.specs.Faults.{faulty_at, faulty}
use Rattle.plan_device.specs.Json.{natural_in, natural_of, number_or}
use Rattle.plan_device.specs.Keys.{Names, key_name, keys_in}
use Rattle.plan_device.specs.Tests.{passes, is_there_in, is_for_borders}
use Rattle.plan_device.specs.declared.check.Check.{Check}
use Rattle.plan_device.specs.declared.check.Check.TheVariants.{Range}
use Rattle.plan_device.specs.declared.key.Format.{Format}
use Rattle.plan_device.specs.declared.key.Format.TheVariants.{One, Two, Neither}
use Rattle.plan_device.specs.declared.key.Key.{Key}
use Rattle.plan_device.specs.declared.key.Key.TheVariants as key
use Rattle.plan_device.proofs.Faults.{passes_faultless}
use Rattle.plan_device.specs.declared.grid.Grid.{Grid}
use Rattle.plan_device.proofs.Numbers.{is_same}
use Rattle.plan_device.proofs.Lists.{nothing_first, nothing_before, nothing_behind}
use Rattle.tapa_base.proofs.Tests.{bool_cases as true_or_false}

-- each key passes
pub each_passes : (check : Check) (names : Names) (file : Json) (keys : List Key) (i : ℕ) (key : Key) → flat_map (faulty_at check names file) keys ≡ [] → slice_get keys i ≡ Some key → passes check key (get (key_name key) file) ≡ true
each_passes check names file [] i key none at = cc
each_passes check names file (k ∷ keys) zero key none at =
    let is : k ≡ key = cc in
    ap (λ x. passes check x (get (key_name x) file)) (sym is) ∙ passes_faultless check names file k (nothing_before (faulty_at check names file k) _ none)
each_passes check names file (k ∷ keys) (suc i) key none at = each_passes check names file keys i key (nothing_behind (faulty_at check names file k) _ none) at

module _ (check : Check) (names : Names) (file : Json) (format : Format) (none : None ≡ first (faulty check names file format)) where
  pub passes_at : (i : ℕ) (key : Key) → slice_get (keys_in format) i ≡ Some key → passes check key (get (key_name key) file) ≡ true
  unfolding faulty
  passes_at i key at = each_passes check names file (keys_in format) i key (nothing_first (faulty check names file format) none) at

-- ---- numbers in a range

in_bounds : (low past n : ℕ) → (nat_le low n && nat_lt n past) ≡ true → (low ≤ n) × (n < past)
in_bounds low past n holds = (grind (arith, nat_tests), grind (arith, nat_tests))

natural_there : (low past other n : ℕ) → is_some (natural_in low past n) ≡ true → (low ≤ unwrap_or (natural_in low past n) other) × (unwrap_or (natural_in low past n) other < past)
natural_there low past other n there = elim (true_or_false (nat_le low n && nat_lt n past)) [
  | inl holds ↦ let bounds = in_bounds low past n holds in rw holds bounds
  | inr fails ↦ let never : false ≡ true = rw fails at there in cc
]

option_there : (low past other : ℕ) (found : Option ℕ) → is_some (option_and_then (natural_in low past) found) ≡ true → (low ≤ unwrap_or (option_and_then (natural_in low past) found) other) × (unwrap_or (option_and_then (natural_in low past) found) other < past)
option_there low past other None there = cc
option_there low past other (Some n) there = natural_there low past other n there

-- a number that is there is in its range
pub number_there : (low past other : ℕ) (found : Option Json) → is_there_in low past found ≡ true → (low ≤ number_or other low past found) × (number_or other low past found < past)
number_there low past other None there = cc
number_there low past other (Some json) there = option_there low past other (natural_of json) there

natural_below : (low past other n : ℕ) → other < past → unwrap_or (natural_in low past n) other < past
natural_below low past other n small = elim (true_or_false (nat_le low n && nat_lt n past)) [
  | inl holds ↦ let bounds = in_bounds low past n holds in rw holds (omega arith)
  | inr fails ↦ rw fails small
]

option_below : (low past other : ℕ) (found : Option ℕ) → other < past → unwrap_or (option_and_then (natural_in low past) found) other < past
option_below low past other None small = small
option_below low past other (Some n) small = natural_below low past other n small

-- a number is below the end of its range, where the other number is
pub number_below : (low past other : ℕ) (found : Option Json) → other < past → number_or other low past found < past
number_below low past other None small = small
number_below low past other (Some json) small = option_below low past other (natural_of json) small

borders_of_one : (k : Key) (count : ℕ) (file : Json) → 0 < count → length (borders One k count file) + 1 ≡ count
borders_of_one k count file some = rw (length-replicate (count - 1) (levels_of (get (codes "levels") file))) (omega arith)

each_border : (count : ℕ) (found : Option Json) → 0 < count → is_for_borders count found ≡ true → length (listed found count) + 1 ≡ count
each_border count None some right = let as_many = length-replicate {A = ℕ} (count - 1) 2 in rw as_many (omega arith)
each_border count (Some json) some right =
    let as_many = length-map (items_at (Some json)) (λ item. levels_of (Some item)) in
    let same = is_same (length (items_at (Some json))) (count - 1) right in
    omega arith

borders_of_two : (k : Key) (count : ℕ) (file : Json) → 0 < count → is_for_borders count (get (key_name k) file) ≡ true → length (borders Two k count file) + 1 ≡ count
borders_of_two k count file some right = each_border count (get (key_name k) file) some right

borders_of_neither : (k : Key) (count : ℕ) (file : Json) → 0 < count → is_for_borders count (get (key_name k) file) ≡ true → length (borders Neither k count file) + 1 ≡ count
borders_of_neither k count file some right = each_border count (get (key_name k) file) some right

-- ---- what the tests of ranges say

module _ (names : Names) (file : Json) (grid : Grid) where
  pub rows_right : (format : Format) → None ≡ first (faulty (Range grid) names file format) → is_there_in 1 9 (get (codes "rows") file) ≡ true
  rows_right One none = passes_at (Range grid) names file One none 1 key.Rows refl
  rows_right Two none = passes_at (Range grid) names file Two none 1 key.Rows refl
  rows_right Neither none = passes_at (Range grid) names file Neither none 1 key.Rows refl

  pub cols_right : (format : Format) → None ≡ first (faulty (Range grid) names file format) → is_there_in 1 5 (get (codes "cols") file) ≡ true
  cols_right One none = passes_at (Range grid) names file One none 2 key.Cols refl
  cols_right Two none = passes_at (Range grid) names file Two none 2 key.Cols refl
  cols_right Neither none = passes_at (Range grid) names file Neither none 2 key.Cols refl

  pub slots_right : (format : Format) → None ≡ first (faulty (Range grid) names file format) → (length (items_at (get (codes "slots") file)) == (grid.rows * grid.cols)) ≡ true
  slots_right One none = passes_at (Range grid) names file One none 3 key.Slots refl
  slots_right Two none = passes_at (Range grid) names file Two none 3 key.Slots refl
  slots_right Neither none = passes_at (Range grid) names file Neither none 3 key.Slots refl

  -- the length of the lists of borders
  pub row_borders : (format : Format) → None ≡ first (faulty (Range grid) names file format) → 0 < grid.rows → length (borders format key.LevelsRows grid.rows file) + 1 ≡ grid.rows
  row_borders One none some = borders_of_one key.LevelsRows grid.rows file some
  row_borders Two none some = borders_of_two key.LevelsRows grid.rows file some (passes_at (Range grid) names file Two none 4 key.LevelsRows refl)
  row_borders Neither none some = borders_of_neither key.LevelsRows grid.rows file some (passes_at (Range grid) names file Neither none 5 key.LevelsRows refl)

  pub col_borders : (format : Format) → None ≡ first (faulty (Range grid) names file format) → 0 < grid.cols → length (borders format key.LevelsCols grid.cols file) + 1 ≡ grid.cols
  col_borders One none some = borders_of_one key.LevelsCols grid.cols file some
  col_borders Two none some = borders_of_two key.LevelsCols grid.cols file some (passes_at (Range grid) names file Two none 5 key.LevelsCols refl)
  col_borders Neither none some = borders_of_neither key.LevelsCols grid.cols file some (passes_at (Range grid) names file Neither none 6 key.LevelsCols refl)

pub as_many_slots : (file : Json) (n : ℕ) → (length (items_at (get (codes "slots") file)) == n) ≡ true → length (slots_of file) ≡ n
unfolding slots_of
as_many_slots file n right = length-map (items_at (get (codes "slots") file)) amounts_of ∙ is_same (length (items_at (get (codes "slots") file))) n right
