-- The pins of instances, and the slots that are left empty.
use Rattle.std.specs.Prelude.{◌≡◌, ℕ, zero, suc, ◌==◌, List, [], ◌∷◌, ◌++◌, map, filter, length, codes, Bool, false, not, ◌&&◌, Option, Some, None, option_and_then}
use Rattle.std.specs.Prelude.{slice_get, slice_index, get_or, ◌<◌}
use Rattle.std.specs.List.{list_any}
use Rattle.std.specs.Option.{option_map_or}
use Rattle.serde_json.specs.Data.{Data as Json}
use Rattle.serde_json.specs.Find.{get, get_member}
use Rattle.tapa_syntax.specs.declared.program.Instance.{Instance}
use Rattle.tapa_syntax.specs.declared.program.Program.{Program}
use Rattle.task_graph.specs.declared.Graph.{Graph}
use Rattle.run_data.specs.Data.{items_at, members_at}
use Rattle.plan_device.specs.declared.grid.Grid.{Grid}
use Rattle.plan_device.specs.Json.{slot_of}

-- the numbers below n
abbrev pub numbers : ℕ → List ℕ
numbers zero = []
numbers (suc n) = numbers n ++ n ∷ []

-- the slot to which a file pins a label
abbrev pub pin_by : Grid → Option Json → List ℕ → Option ℕ
pin_by grid pins label = option_and_then (slot_of grid) (get_member label (members_at pins))

abbrev pub pin_of : Grid → Json → List ℕ → Option ℕ
pin_of grid file label = pin_by grid (get (codes "pins") file) label

-- the pin of each instance
unfoldable pub pins_of : Grid → Program → Json → List (Option ℕ)
pins_of grid program file = map (λ (x : Instance). pin_of grid file x.label) program.instances.items

abbrev pub pin_at : List (Option ℕ) → ℕ → Option ℕ
pin_at pins i = get_or pins i None

unfoldable pub label_at : Program → ℕ → List ℕ
label_at program i = option_map_or (λ (x : Instance). x.label) (slice_get program.instances.items i) []

-- two pins to two slots
abbrev pub differ : Option ℕ → Option ℕ → Bool
differ None b = false
differ (Some s) None = false
differ (Some s) (Some t) = not (s == t)

-- an earlier instance of the same group is pinned to another slot
unfoldable pub is_elsewhere : List (Option ℕ) → List ℕ → ℕ → Bool
is_elsewhere pins group i = list_any (λ j. (slice_index group j == slice_index group i) && differ (pin_at pins j) (pin_at pins i)) (numbers i)

unfoldable pub elsewhere : Grid → Program → Graph → Json → List (List ℕ)
elsewhere grid program graph file =
    map (label_at program) (filter (is_elsewhere (pins_of grid program file) graph.group.items) (numbers (length program.instances.items)))

abbrev pub is_place_of : Grid → ℕ → Json → Bool
is_place_of grid s json = option_map_or (λ t. t == s) (slot_of grid json) false

-- a slot that the file leaves empty
unfoldable pub is_forbidden : Grid → Json → ℕ → Bool
is_forbidden grid file s = list_any (is_place_of grid s) (items_at (get (codes "forbidden") file))

-- a pin to a slot of these
abbrev pub is_pinned_at : (ℕ → Bool) → Option ℕ → Bool
is_pinned_at test pin = option_map_or test pin false

unfoldable pub on_forbidden : Grid → Program → Json → List (List ℕ)
on_forbidden grid program file =
    map (label_at program) (filter (λ i. is_pinned_at (is_forbidden grid file) (pin_at (pins_of grid program file) i)) (numbers (length program.instances.items)))

-- a group is pinned to a slot where one of its instances is
abbrev pub IsPinned : List (Option ℕ) → List ℕ → ℕ → ℕ → Type 0
IsPinned pins group g s = (i : ℕ) × (i < length group) × (slice_index group i ≡ g) × (pin_at pins i ≡ Some s)
