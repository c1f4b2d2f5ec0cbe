-- The keys of a device file by the version of its format, and the names that its groups know.
use Rattle.std.specs.Prelude.{ℕ, List, [], ◌∷◌, map, codes, ◌==◌, if◌then◌else◌, Option, Some, None}
use Rattle.std.specs.Option.{option_map_or}
use Rattle.serde_json.specs.Data.{Data as Json}
use Rattle.serde_json.specs.Find.{get}
use Rattle.tapa_syntax.specs.declared.program.Instance.{Instance}
use Rattle.tapa_syntax.specs.declared.program.Leaf.{Leaf}
use Rattle.tapa_syntax.specs.declared.program.Program.{Program}
use Rattle.plan_device.specs.declared.key.Format.{Format}
use Rattle.plan_device.specs.declared.key.Format.TheVariants.{One, Two, Neither}
use Rattle.plan_device.specs.declared.key.Group.{Group}
use Rattle.plan_device.specs.declared.key.Group.TheVariants.{Tasks, Pins}
use Rattle.plan_device.specs.declared.key.Key.{Key}
use Rattle.plan_device.specs.declared.key.Key.TheVariants as key
use Rattle.plan_device.specs.Json.{natural_of}

abbrev pub group_name : Group → List ℕ
group_name Tasks = codes "tasks"
group_name Pins = codes "pins"

abbrev pub key_name : Key → List ℕ
key_name key.Version = codes "version"
key_name key.Rows = codes "rows"
key_name key.Cols = codes "cols"
key_name key.Slots = codes "slots"
key_name key.Levels = codes "levels"
key_name key.LevelsRows = codes "levels_rows"
key_name key.LevelsCols = codes "levels_cols"
key_name key.Percent = codes "percent"
key_name (key.Members group) = group_name group
key_name key.Forbidden = codes "forbidden"

-- a group is an object with a member for each name
abbrev pub group_of : Key → Option Group
group_of key.Version = None
group_of key.Rows = None
group_of key.Cols = None
group_of key.Slots = None
group_of key.Levels = None
group_of key.LevelsRows = None
group_of key.LevelsCols = None
group_of key.Percent = None
group_of (key.Members group) = Some group
group_of key.Forbidden = None

-- the keys that a version of the format has, in the order in which they are looked at; a file of neither version may have
-- those of both
abbrev pub keys_in : Format → List Key
keys_in One = key.Version ∷ key.Rows ∷ key.Cols ∷ key.Slots ∷ key.Levels ∷ key.Percent ∷ key.Members Tasks ∷ key.Members Pins ∷ []
keys_in Two = key.Version ∷ key.Rows ∷ key.Cols ∷ key.Slots ∷ key.LevelsRows ∷ key.LevelsCols ∷ key.Percent ∷ key.Members Tasks ∷ key.Members Pins ∷ key.Forbidden ∷ []
keys_in Neither =
    key.Version ∷ key.Rows ∷ key.Cols ∷ key.Slots ∷ key.Levels ∷ key.LevelsRows ∷ key.LevelsCols ∷ key.Percent ∷ key.Members Tasks ∷ key.Members Pins ∷ key.Forbidden ∷ []

abbrev pub format_by : Option ℕ → Format
format_by None = Neither
format_by (Some n) = if n == 1 then One else (if n == 2 then Two else Neither)

-- a file without `version` is one of version 1
abbrev pub format_of : Json → Format
format_of file = option_map_or (λ json. format_by (natural_of json)) (get (codes "version") file) One

-- ---- names

-- what `tasks` and `pins` may name
pub record Names : Type 0 where
  pub tasks : List (List ℕ)
  pub labels : List (List ℕ)

-- the leaf tasks and the instances of a program, in their order
abbrev pub names_of : Program → Names
names_of program = record { tasks = map (λ (leaf : Leaf). leaf.name) program.bodies.items; labels = map (λ (x : Instance). x.label) program.instances.items }

abbrev pub names_in : Group → Names → List (List ℕ)
names_in Tasks names = names.tasks
names_in Pins names = names.labels
