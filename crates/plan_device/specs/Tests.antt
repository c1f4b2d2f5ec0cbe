-- What each key of a device file is tested for: the shape of its value, its numbers, their ranges, and its names.
use Rattle.std.specs.Prelude.{ℕ, ◌-◌, ◌*◌, ◌==◌, length, codes, Bool, true, Option, Some, ⊤, ◌≤◌}
use Rattle.std.specs.List.{list_all}
use Rattle.serde_json.specs.Data.{Data as Json}
use Rattle.serde_json.specs.Find.{get}
use Rattle.run_data.specs.Data.{items_at, is_object, is_number, is_absent_or, is_there_and}
use Rattle.plan_device.specs.declared.check.Check.{Check}
use Rattle.plan_device.specs.declared.check.Check.TheVariants.{Shape, Number, Range, Name}
use Rattle.plan_device.specs.declared.grid.Grid.{Grid}
use Rattle.plan_device.specs.declared.key.Group.{Group}
use Rattle.plan_device.specs.declared.key.Group.TheVariants.{Tasks, Pins}
use Rattle.plan_device.specs.declared.key.Key.{Key}
use Rattle.plan_device.specs.declared.key.Key.TheVariants as key
use Rattle.plan_device.specs.Json.{is_whole, is_in, number_or, is_list_of, is_amounts, has_amounts, is_place, is_whole_place, is_inside}

-- `rows`, `cols` and `slots` must be there
abbrev pub is_shaped : Key → Option Json → Bool
is_shaped key.Version found = is_absent_or is_number found
is_shaped key.Rows found = is_there_and is_number found
is_shaped key.Cols found = is_there_and is_number found
is_shaped key.Slots found = is_there_and (is_list_of is_amounts) found
is_shaped key.Levels found = is_absent_or is_number found
is_shaped key.LevelsRows found = is_absent_or (is_list_of is_number) found
is_shaped key.LevelsCols found = is_absent_or (is_list_of is_number) found
is_shaped key.Percent found = is_absent_or is_number found
is_shaped (key.Members group) found = is_absent_or is_object found
is_shaped key.Forbidden found = is_absent_or (is_list_of is_place) found

-- rows, columns and places are whole numbers of either sign
abbrev pub has_numbers : Key → Option Json → Bool
has_numbers key.Version found = is_absent_or (is_in 1 3) found
has_numbers key.Rows found = is_absent_or is_whole found
has_numbers key.Cols found = is_absent_or is_whole found
has_numbers key.Slots found = list_all has_amounts (items_at found)
has_numbers key.Levels found = is_absent_or (is_in 0 17) found
has_numbers key.LevelsRows found = list_all (is_in 0 17) (items_at found)
has_numbers key.LevelsCols found = list_all (is_in 0 17) (items_at found)
has_numbers key.Percent found = is_absent_or (is_in 1 101) found
has_numbers (key.Members group) found = true
has_numbers key.Forbidden found = list_all is_whole_place (items_at found)

abbrev pub is_there_in : ℕ → ℕ → Option Json → Bool
is_there_in low past found = is_there_and (is_in low past) found

-- a list with one number for each border between neighbours
abbrev pub is_for_borders : ℕ → Option Json → Bool
is_for_borders count found = is_absent_or (λ json. length (items_at (Some json)) == (count - 1)) found

abbrev pub has_ranges : Grid → Key → Option Json → Bool
has_ranges grid key.Version found = true
has_ranges grid key.Rows found = is_there_in 1 9 found
has_ranges grid key.Cols found = is_there_in 1 5 found
has_ranges grid key.Slots found = length (items_at found) == (grid.rows * grid.cols)
has_ranges grid key.Levels found = true
has_ranges grid key.LevelsRows found = is_for_borders grid.rows found
has_ranges grid key.LevelsCols found = is_for_borders grid.cols found
has_ranges grid key.Percent found = true
has_ranges grid (key.Members group) found = true
has_ranges grid key.Forbidden found = list_all (is_inside grid) (items_at found)

-- the grid of a check has at most 8 rows and 4 columns
abbrev pub IsSmall : Check → Type 0
IsSmall Shape = ⊤
IsSmall Number = ⊤
IsSmall (Range grid) = (grid.rows ≤ 8) × (grid.cols ≤ 4)
IsSmall Name = ⊤

abbrev pub passes : Check → Key → Option Json → Bool
passes Shape key found = is_shaped key found
passes Number key found = has_numbers key found
passes (Range grid) key found = has_ranges grid key found
passes Name key found = true

-- whether a member of a group passes, whose name is known or not
abbrev pub member_passes : Check → Group → Bool → Json → Bool
member_passes Shape Tasks known json = is_amounts json
member_passes Shape Pins known json = is_place json
member_passes Number Tasks known json = has_amounts json
member_passes Number Pins known json = is_whole_place json
member_passes (Range grid) Tasks known json = true
member_passes (Range grid) Pins known json = is_inside grid json
member_passes Name group known json = known

-- the rows and columns of a file, 0 where they are out of range
abbrev pub grid_of : Json → Grid
grid_of file = record { rows = number_or 0 1 9 (get (codes "rows") file); cols = number_or 0 1 5 (get (codes "cols") file) }
