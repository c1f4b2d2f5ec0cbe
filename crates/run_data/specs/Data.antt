-- A data file: a JSON object (RFC 8259) whose groups `scalars`, `memories` and `waits` give the inputs that a design asks
-- for. Here are its faults, in the order in which they are reported, and what a file without faults gives. A text's JSON
-- value, its numbers and an object's members, each key once and in the order of its bytes, are those of `serde_json`.
use Rattle.std.specs.Prelude.{◌≡◌, ◌+◌, ◌-◌, ◌^◌, ◌==◌, ◌∷◌, ◌++◌, ◌&&◌}
use Rattle.std.specs.Prelude.{ℕ, ℤ, pos, negsuc, List, [], map, filter, length, codes, Bool, true, false, not, nat_lt}
use Rattle.std.specs.Prelude.{if◌then◌else◌, Option, Some, None, is_some, option_map, option_and_then, unwrap_or, bytes_eq, IsUtf8}
use Rattle.std.specs.List.{list_all, list_any}
use Rattle.serde_json.specs.Data.{Data as Json, Items, no_items, item, Members, no_members, member}
use Rattle.serde_json.specs.Find.{get, get_member, as_number, as_array, as_object, as_integer}
use Rattle.serde_json.specs.Read.{read}
use Rattle.tapa_base.specs.Kinds.{residue}
use Rattle.tapa_base.specs.declared.shape.Port.{Port}
use Rattle.tapa_base.specs.declared.shape.Shape.{Shape}
use Rattle.run_data.specs.declared.group.Group.{Group}
use Rattle.run_data.specs.declared.group.Group.TheVariants.{Scalars, Memories, Waits}

-- a text of JSON, and its value
abbrev pub IsJson : List ℕ → Json → Type 0
IsJson text file = IsUtf8 text × (read text ≡ Some file)

-- ---- numbers

-- at least -2^(n-1) and below 2^n; of 1 bit 0 or 1
abbrev pub is_within : ℕ → ℤ → Bool
is_within bits (pos n) = nat_lt n (2 ^ bits)
is_within bits (negsuc n) = nat_lt 1 bits && nat_lt n (2 ^ (bits - 1))

-- the bits of a whole number, modulo 2^n
abbrev pub bits_of_whole : ℕ → ℤ → Option ℕ
bits_of_whole bits z = if is_within bits z then Some (residue (2 ^ bits) z) else None

-- the bits of a number, if it is whole and fits this number of bits
abbrev pub bits_of : ℕ → Json → Option ℕ
bits_of bits json = option_and_then (bits_of_whole bits) (option_and_then as_integer (as_number json))

abbrev pub has_bits : ℕ → Json → Bool
has_bits bits json = is_some (bits_of bits json)

abbrev pub bits_or_zero : ℕ → Json → ℕ
bits_or_zero bits json = unwrap_or (bits_of bits json) 0

-- ---- lists and objects

abbrev pub list_of : Items → List Json
list_of no_items = []
list_of (item json items) = json ∷ list_of items

-- the items of a list: none where it is absent or no list
abbrev pub items_at : Option Json → List Json
items_at found = unwrap_or (option_map list_of (option_and_then as_array found)) []

abbrev pub keys_of : Members → List (List ℕ)
keys_of no_members = []
keys_of (member key json members) = key ∷ keys_of members

-- the members of an object: none where it is absent or no object
abbrev pub members_at : Option Json → Members
members_at found = unwrap_or (option_and_then as_object found) no_members

abbrev pub is_object : Json → Bool
is_object json = is_some (as_object json)

abbrev pub is_number : Json → Bool
is_number json = is_some (as_number json)

abbrev pub is_list_of_numbers : Json → Bool
is_list_of_numbers json = unwrap_or (option_map (λ items. list_all is_number (list_of items)) (as_array json)) false

abbrev pub is_absent_or : (Json → Bool) → Option Json → Bool
is_absent_or test found = unwrap_or (option_map test found) true

abbrev pub is_there_and : (Json → Bool) → Option Json → Bool
is_there_and test found = unwrap_or (option_map test found) false

-- ---- groups

abbrev pub group_key : Group → List ℕ
group_key Scalars = codes "scalars"
group_key Memories = codes "memories"
group_key Waits = codes "waits"

-- the inputs that have a member in the group
abbrev pub ports_of : Group → Shape → List Port
ports_of Scalars shape = shape.scalars.items
ports_of Memories shape = shape.memories.items
ports_of Waits shape = shape.memories.items

-- a scalar is a number, a memory a list of numbers, and the waits of a memory an optional list of numbers
abbrev pub is_shaped : Group → Option Json → Bool
is_shaped Scalars found = is_there_and is_number found
is_shaped Memories found = is_there_and is_list_of_numbers found
is_shaped Waits found = is_absent_or is_list_of_numbers found

-- a scalar and the cells of a memory have the bits of their input, the waits 1 bit
abbrev pub has_right_bits : Group → Port → Option Json → Bool
has_right_bits Scalars port found = is_absent_or (has_bits port.bits) found
has_right_bits Memories port found = list_all (has_bits port.bits) (items_at found)
has_right_bits Waits port found = list_all (has_bits 1) (items_at found)

-- what a file has at a group, and at an input in it
abbrev pub group_in : Group → Json → Option Json
group_in group file = get (group_key group) file

abbrev pub value_in : Group → Json → List ℕ → Option Json
value_in group file name = get_member name (members_at (group_in group file))

-- the key of a member of a group: `group.name`
abbrev pub key_in : Group → List ℕ → List ℕ
key_in group name = group_key group ++ (codes "." ++ name)

abbrev pub key_of : Group → Port → List ℕ
key_of group port = key_in group port.name

abbrev pub is_name_of : List ℕ → Port → Bool
is_name_of name port = bytes_eq name port.name

abbrev pub is_among : List (List ℕ) → List ℕ → Bool
is_among keys key = list_any (bytes_eq key) keys

-- ---- the keys of faults

-- a group that is no object; else the inputs whose value is absent or has another shape, in their order, and then the keys
-- that are no input's, in the order of their bytes
unfoldable pub misshapen_in : Group → Shape → Json → List (List ℕ)
misshapen_in group shape file =
    if is_absent_or is_object (group_in group file)
    then map (key_of group) (filter (λ port. not (is_shaped group (value_in group file port.name))) (ports_of group shape))
    ++ map (key_in group) (filter (λ name. not (list_any (is_name_of name) (ports_of group shape))) (keys_of (members_at (group_in group file))))
    else group_key group ∷ []

abbrev pub group_keys : List (List ℕ)
group_keys = codes "scalars" ∷ codes "memories" ∷ codes "waits" ∷ []

-- a file that is no object has the key `.`; the keys that are no group's come last, in the order of their bytes
unfoldable pub misshapen : Shape → Json → List (List ℕ)
misshapen shape file =
    if is_object file
    then misshapen_in Scalars shape file ++ (misshapen_in Memories shape file ++ (misshapen_in Waits shape file ++ filter (λ key. not (is_among group_keys key)) (keys_of (members_at (Some file)))))
    else codes "." ∷ []

-- the inputs with a number that is not whole, or not one of its bits
unfoldable pub misfits_in : Group → Shape → Json → List (List ℕ)
misfits_in group shape file =
    map (key_of group) (filter (λ port. not (has_right_bits group port (value_in group file port.name))) (ports_of group shape))

unfoldable pub misfits : Shape → Json → List (List ℕ)
misfits shape file = misfits_in Scalars shape file ++ (misfits_in Memories shape file ++ misfits_in Waits shape file)

abbrev pub most_cells_of_one : ℕ
most_cells_of_one = 65536

abbrev pub most_cells_of_all : ℕ
most_cells_of_all = 1048576

-- how many cells a file gives a memory
abbrev pub cells_in : Json → Port → ℕ
cells_in file port = length (items_at (value_in Memories file port.name))

-- the memories at which the cells so far are too many
abbrev pub passing_from : ℕ → Json → List Port → List Port
passing_from before file [] = []
passing_from before file (port ∷ ports) =
    if nat_lt most_cells_of_all (before + cells_in file port)
    then port ∷ passing_from (before + cells_in file port) file ports
    else passing_from (before + cells_in file port) file ports

-- the memories with too many cells of their own, and then those at which all cells so far are too many
unfoldable pub oversized : Shape → Json → List (List ℕ)
oversized shape file =
    map (key_of Memories) (filter (λ port. nat_lt most_cells_of_one (cells_in file port)) shape.memories.items)
    ++ map (key_of Memories) (passing_from 0 file shape.memories.items)

-- ---- faults

-- each with its key
pub data Fault : Type 0 where
  Misshapen : List ℕ → Fault
  Misfit : List ℕ → Fault
  Oversized : List ℕ → Fault

-- all faults of a file, in the order in which they are reported
unfoldable pub faults : Shape → Json → List Fault
faults shape file = map Misshapen (misshapen shape file) ++ (map Misfit (misfits shape file) ++ map Oversized (oversized shape file))

-- ---- the data of a file

-- one value for each scalar
unfoldable pub scalars_of : Shape → Json → List ℕ
scalars_of shape file = map (λ port. unwrap_or (option_and_then (bits_of port.bits) (value_in Scalars file port.name)) 0) shape.scalars.items

-- the first cells of each memory
unfoldable pub memories_of : Shape → Json → List (List ℕ)
memories_of shape file = map (λ port. map (bits_or_zero port.bits) (items_at (value_in Memories file port.name))) shape.memories.items

abbrev pub is_ready : Json → Bool
is_ready json = bits_or_zero 1 json == 1

-- in which cycles each memory is ready
unfoldable pub waits_of : Shape → Json → List (List Bool)
waits_of shape file = map (λ port. map is_ready (items_at (value_in Waits file port.name))) shape.memories.items
