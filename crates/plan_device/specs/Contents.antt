-- What a device file without faults gives.
use Rattle.std.specs.Prelude.{ℕ, ◌-◌, List, map, replicate, codes, Option, Some, None, option_and_then, slice_get}
use Rattle.std.specs.Option.{option_map_or}
use Rattle.serde_json.specs.Data.{Data as Json}
use Rattle.serde_json.specs.Find.{get, get_member}
use Rattle.tapa_syntax.specs.declared.program.Instance.{Instance}
use Rattle.tapa_syntax.specs.declared.program.Leaf.{Leaf}
use Rattle.tapa_syntax.specs.declared.program.Program.{Program}
use Rattle.task_graph.specs.declared.Use.{Use}
use Rattle.task_graph.specs.Uses.{use_of}
use Rattle.run_data.specs.Data.{items_at, members_at}
use Rattle.plan_device.specs.declared.key.Format.{Format}
use Rattle.plan_device.specs.declared.key.Format.TheVariants.{One, Two, Neither}
use Rattle.plan_device.specs.declared.key.Key.{Key}
use Rattle.plan_device.specs.Amounts.{amounts_of}
use Rattle.plan_device.specs.Json.{number_or}
use Rattle.plan_device.specs.Keys.{key_name}

-- 2 where the file says nothing
abbrev pub levels_of : Option Json → ℕ
levels_of found = number_or 2 0 17 found

-- the registers at each border between `count` neighbours, by a list of them
abbrev pub listed : Option Json → ℕ → List ℕ
listed None count = replicate (count - 1) 2
listed (Some json) count = map (λ item. levels_of (Some item)) (items_at (Some json))

-- in version 1 all borders have `levels`, in version 2 rows and columns have a list of their own
abbrev pub borders : Format → Key → ℕ → Json → List ℕ
borders One key count file = replicate (count - 1) (levels_of (get (codes "levels") file))
borders Two key count file = listed (get (key_name key) file) count
borders Neither key count file = listed (get (key_name key) file) count

abbrev pub percent_of : Json → ℕ
percent_of file = number_or 70 1 101 (get (codes "percent") file)

unfoldable pub slots_of : Json → List Use
slots_of file = map amounts_of (items_at (get (codes "slots") file))

-- what the file says of the instance's leaf task, and else what that is estimated to take
abbrev pub use_by : Option Json → List Leaf → Instance → Use → Use
use_by tasks leaves instance estimate = option_map_or amounts_of (option_and_then (λ (leaf : Leaf). get_member leaf.name (members_at tasks)) (slice_get leaves instance.body)) estimate

abbrev pub use_in : Program → Json → Instance → Use
use_in program file instance = use_by (get (codes "tasks") file) program.bodies.items instance (use_of program.bodies.items instance)

unfoldable pub uses_of : Program → Json → List Use
uses_of program file = map (use_in program file) program.instances.items
