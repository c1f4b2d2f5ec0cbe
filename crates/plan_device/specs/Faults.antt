-- The faults of a device file, in the order in which they are reported.
use Rattle.std.specs.Prelude.{ℕ, List, [], ◌∷◌, ◌++◌, map, filter, codes, Bool, true, false, not, ◌&&◌, if◌then◌else◌, Option, Some, None, bytes_eq}
use Rattle.std.specs.List.{list_any, flat_map}
use Rattle.serde_json.specs.Data.{Data as Json}
use Rattle.serde_json.specs.Find.{get, get_member}
use Rattle.tapa_syntax.specs.declared.program.Program.{Program}
use Rattle.task_graph.specs.declared.Graph.{Graph}
use Rattle.run_data.specs.Data.{keys_of, members_at, is_object, is_absent_or, is_among}
use Rattle.plan_device.specs.declared.check.Check.{Check}
use Rattle.plan_device.specs.declared.check.Check.TheVariants.{Shape, Number, Range, Name}
use Rattle.plan_device.specs.declared.key.Format.{Format}
use Rattle.plan_device.specs.declared.key.Group.{Group}
use Rattle.plan_device.specs.declared.key.Key.{Key}
use Rattle.plan_device.specs.Json.{entries_of}
use Rattle.plan_device.specs.Keys.{Names, names_of, names_in, group_name, group_of, key_name, keys_in, format_of}
use Rattle.plan_device.specs.Pins.{elsewhere, on_forbidden}
use Rattle.plan_device.specs.Tests.{passes, member_passes, grid_of}

-- how a member is reported: of shapes and numbers as `group.name`, else by its name alone
abbrev pub told_in : Check → Group → List ℕ → List ℕ
told_in Shape group name = group_name group ++ (codes "." ++ name)
told_in Number group name = group_name group ++ (codes "." ++ name)
told_in (Range grid) group name = name
told_in Name group name = name

-- the names of a group's members that don't pass: the known ones in the order of the program, then the others in the order
-- of their bytes
abbrev pub faulty_in : Check → Group → Names → Json → List (List ℕ)
faulty_in check group names file =
    filter (λ name. not (is_absent_or (member_passes check group true) (get_member name (members_at (get (group_name group) file))))) (names_in group names)
    ++ map (λ (m : List ℕ × Json). m.0) (filter (λ (m : List ℕ × Json). not (is_among (names_in group names) m.0) && not (member_passes check group false m.1))
    (entries_of (members_at (get (group_name group) file))))

abbrev pub faulty_members : Check → Option Group → Names → Json → List (List ℕ)
faulty_members check None names file = []
faulty_members check (Some group) names file = map (told_in check group) (faulty_in check group names file)

-- the key, or its faulty members as they are reported
unfoldable pub faulty_at : Check → Names → Json → Key → List (List ℕ)
faulty_at check names file key =
    if passes check key (get (key_name key) file) then faulty_members check (group_of key) names file else key_name key ∷ []

-- over the whole file
unfoldable pub faulty : Check → Names → Json → Format → List (List ℕ)
faulty check names file format = flat_map (faulty_at check names file) (keys_in format)

abbrev pub is_key_in : Format → List ℕ → Bool
is_key_in format name = list_any (λ key. bytes_eq (key_name key) name) (keys_in format)

-- a file that is no object has the key `.`; keys that the version has not come last, in the order of their bytes
unfoldable pub misshapen : Names → Json → List (List ℕ)
misshapen names file =
    if is_object file
    then faulty Shape names file (format_of file) ++ filter (λ name. not (is_key_in (format_of file) name)) (keys_of (members_at (Some file)))
    else codes "." ∷ []

-- each with its key, name or label
pub data Fault : Type 0 where
  Misshapen : List ℕ → Fault
  Misfit : List ℕ → Fault
  OutOfRange : List ℕ → Fault
  Unknown : List ℕ → Fault
  Elsewhere : List ℕ → Fault
  OnForbidden : List ℕ → Fault

-- all faults of a file
unfoldable pub faults : Program → Graph → Json → List Fault
faults program graph file =
    map Misshapen (misshapen (names_of program) file)
    ++ (map Misfit (faulty Number (names_of program) file (format_of file))
    ++ (map OutOfRange (faulty (Range (grid_of file)) (names_of program) file (format_of file))
    ++ (map Unknown (faulty Name (names_of program) file (format_of file))
    ++ (map Elsewhere (elsewhere (grid_of file) program graph file)
    ++ map OnForbidden (on_forbidden (grid_of file) program file)))))
