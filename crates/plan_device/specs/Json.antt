-- What the values of a device file are: numbers in a range, amounts of resources, and places of a grid. A text's JSON value
-- (RFC 8259), its numbers and an object's members, each key once and in the order of its bytes, are those of `serde_json`.
use Rattle.std.specs.Prelude.{◌+◌, ◌*◌, ◌∷◌, ◌&&◌, if◌then◌else◌}
use Rattle.std.specs.Prelude.{ℕ, List, [], codes, Bool, false, nat_lt, nat_le, Option, Some, None, is_some, option_map, option_and_then, unwrap_or}
use Rattle.std.specs.List.{list_all}
use Rattle.serde_json.specs.Data.{Data as Json, Members, no_members, member}
use Rattle.serde_json.specs.Find.{get, as_number, as_array, as_integer, as_u64}
use Rattle.run_data.specs.Data.{list_of, items_at, keys_of, members_at, is_object, is_number, is_absent_or, is_among}
use Rattle.plan_device.specs.declared.grid.Grid.{Grid}

-- ---- numbers

-- a whole number of 64 bits, with or without a sign
abbrev pub is_whole : Json → Bool
is_whole json = is_some (option_and_then as_integer (as_number json))

abbrev pub natural_of : Json → Option ℕ
natural_of json = option_and_then as_u64 (as_number json)

abbrev pub natural_in : ℕ → ℕ → ℕ → Option ℕ
natural_in low past n = if nat_le low n && nat_lt n past then Some n else None

-- a whole number from `low` on and below `past`
abbrev pub number_in : ℕ → ℕ → Json → Option ℕ
number_in low past json = option_and_then (natural_in low past) (natural_of json)

abbrev pub is_in : ℕ → ℕ → Json → Bool
is_in low past json = is_some (number_in low past json)

-- a whole number from `low` on and below `past`, and `other` where there is none
abbrev pub number_or : ℕ → ℕ → ℕ → Option Json → ℕ
number_or other low past found = unwrap_or (option_and_then (number_in low past) found) other

-- ---- lists and objects

-- a list whose items all pass a test
abbrev pub is_list_of : (Json → Bool) → Json → Bool
is_list_of test json = unwrap_or (option_map (λ items. list_all test (list_of items)) (as_array json)) false

-- the members of an object, each with its key
abbrev pub entries_of : Members → List (List ℕ × Json)
entries_of no_members = []
entries_of (member key json members) = (key, json) ∷ entries_of members

-- ---- amounts of resources

abbrev pub resource_names : List (List ℕ)
resource_names = codes "LUT" ∷ codes "FF" ∷ codes "BRAM" ∷ codes "DSP" ∷ codes "URAM" ∷ []

-- each of the five is absent or passes a test
abbrev pub each_resource : (Json → Bool) → Json → Bool
each_resource test json = list_all (λ name. is_absent_or test (get name json)) resource_names

-- an object from names of resources to numbers
abbrev pub is_amounts : Json → Bool
is_amounts json = is_object json && (list_all (is_among resource_names) (keys_of (members_at (Some json))) && each_resource is_number json)

abbrev pub past_amounts : ℕ
past_amounts = 4294967296

abbrev pub has_amounts : Json → Bool
has_amounts json = each_resource (is_in 0 past_amounts) json

-- ---- places of a grid: `[row, column]`

abbrev pub is_pair : List Json → Bool
is_pair [] = false
is_pair (row ∷ []) = false
is_pair (row ∷ col ∷ []) = is_number row && is_number col
is_pair (row ∷ col ∷ x ∷ rest) = false

abbrev pub is_place : Json → Bool
is_place json = is_pair (items_at (Some json))

abbrev pub is_whole_place : Json → Bool
is_whole_place json = list_all is_whole (items_at (Some json))

-- slots are numbered row by row
abbrev pub slot_at : Grid → List Json → Option ℕ
slot_at grid [] = None
slot_at grid (row ∷ []) = None
slot_at grid (row ∷ col ∷ []) = option_and_then (λ r. option_map (λ c. r * grid.cols + c) (number_in 0 grid.cols col)) (number_in 0 grid.rows row)
slot_at grid (row ∷ col ∷ x ∷ rest) = None

-- the slot of a place: none where the place lies outside of the grid
abbrev pub slot_of : Grid → Json → Option ℕ
slot_of grid json = slot_at grid (items_at (Some json))

abbrev pub is_inside : Grid → Json → Bool
is_inside grid json = is_some (slot_of grid json)
