-- What the code has computed from a file.
use Rattle.std.specs.Prelude.{◌≡◌, ℕ, ◌<◌, ◌*◌, ◌↔◌, length, false, Some, None, get_or}
use Rattle.serde_json.specs.Data.{Data as Json}
use Rattle.tapa_syntax.specs.declared.program.Program.{Program}
use Rattle.task_graph.specs.declared.Graph.{Graph}
use Rattle.run_data.specs.Seen.{first}
use Rattle.plan_device.specs.declared.check.Check.TheVariants.{Number, Range, Name}
use Rattle.plan_device.specs.declared.read.Placed.{Placed}
use Rattle.plan_device.specs.Faults.{misshapen, faulty}
use Rattle.plan_device.specs.Keys.{names_of, format_of}
use Rattle.plan_device.specs.Pins.{pins_of, elsewhere, on_forbidden, IsPinned, is_forbidden}
use Rattle.plan_device.specs.Tests.{grid_of}

-- no fault of shape, number, range or name
pub record AreKeysRight (program : Program) (file : Json) : Type 0 where
  pub shaped : None ≡ first (misshapen (names_of program) file)
  pub fit : None ≡ first (faulty Number (names_of program) file (format_of file))
  pub inside : None ≡ first (faulty (Range (grid_of file)) (names_of program) file (format_of file))
  pub known : None ≡ first (faulty Name (names_of program) file (format_of file))

-- no fault of pins, and what they say
pub record IsPlaced (program : Program) (graph : Graph) (file : Json) (placed : Placed) : Type 0 where
  pub together : None ≡ first (elsewhere (grid_of file) program graph file)
  pub free : None ≡ first (on_forbidden (grid_of file) program file)
  pub as_many : length placed.groups.items ≡ graph.groups
  pub pinned : (g s : ℕ) → g < graph.groups → (get_or placed.groups.items g None ≡ Some s) ↔ IsPinned (pins_of (grid_of file) program file) graph.group.items g s
  pub inside : (g s : ℕ) → get_or placed.groups.items g None ≡ Some s → s < (grid_of file).rows * (grid_of file).cols
  pub slots : length placed.forbidden.items ≡ (grid_of file).rows * (grid_of file).cols
  pub forbidden : (s : ℕ) → s < length placed.forbidden.items → get_or placed.forbidden.items s false ≡ is_forbidden (grid_of file) file s
