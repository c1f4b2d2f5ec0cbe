-- What the answers of `read_device` say.
use Rattle.std.specs.Prelude.{◌≡◌, ℕ, ◌<◌, List, [], length, false, Some, None, ⊤, ◌↔◌, get_or}
use Rattle.serde_json.specs.Data.{Data as Json}
use Rattle.tapa_syntax.specs.declared.program.Program.{Program}
use Rattle.task_graph.specs.declared.Graph.{Graph}
use Rattle.run_data.specs.Data.{IsJson}
use Rattle.run_data.specs.Seen.{first}
use Rattle.plan_device.specs.Contents.{borders, percent_of, slots_of, uses_of}
use Rattle.plan_device.specs.Faults.{Fault, Misshapen, Misfit, OutOfRange, Unknown, Elsewhere, OnForbidden, faults}
use Rattle.plan_device.specs.Keys.{format_of}
use Rattle.plan_device.specs.Pins.{IsPinned, pins_of, is_forbidden}
use Rattle.plan_device.specs.Tests.{grid_of}
use Rattle.plan_device.specs.declared.device.Device.{Device}
use Rattle.plan_device.specs.declared.fault.DeviceFault.{DeviceFault}
use Rattle.plan_device.specs.declared.fault.DeviceFault.TheVariants.{J1, J2, J3, K1, K2, K3, K4, OutOfMemory}
use Rattle.plan_device.specs.declared.key.Key.TheVariants.{LevelsRows, LevelsCols}

-- the device is what the JSON value gives, with a pin or none for each group and a mark for each slot
pub record IsMeaning (program : Program) (graph : Graph) (file : Json) (device : Device) : Type 0 where
  pub rows : device.rows ≡ (grid_of file).rows
  pub cols : device.cols ≡ (grid_of file).cols
  pub levels_rows : device.levels_rows.items ≡ borders (format_of file) LevelsRows (grid_of file).rows file
  pub levels_cols : device.levels_cols.items ≡ borders (format_of file) LevelsCols (grid_of file).cols file
  pub percent : device.percent ≡ percent_of file
  pub slots : device.slots.items ≡ slots_of file
  pub uses : device.uses.items ≡ uses_of program file
  pub each_group : length device.pins.items ≡ graph.groups
  pub pins : (g s : ℕ) → g < graph.groups → (get_or device.pins.items g None ≡ Some s) ↔ IsPinned (pins_of (grid_of file) program file) graph.group.items g s
  pub each_slot : length device.forbidden.items ≡ length device.slots.items
  pub forbidden : (s : ℕ) → s < length device.slots.items → get_or device.forbidden.items s false ≡ is_forbidden (grid_of file) file s

-- the text is JSON and has no fault, and the device is what it gives
pub record IsDeviceOf (text : List ℕ) (program : Program) (graph : Graph) (device : Device) : Type 0 where
  pub file : Json
  pub is_json : IsJson text file
  pub faultless : faults program graph file ≡ []
  pub meaning : IsMeaning program graph file device

-- the text is JSON, and this is its first fault
pub record IsFirstFault (text : List ℕ) (program : Program) (graph : Graph) (fault : Fault) : Type 0 where
  pub file : Json
  pub is_json : IsJson text file
  pub first : first (faults program graph file) ≡ Some fault

-- the first fault of a file is the one that is reported; want of memory says nothing
abbrev pub IsFirstOf : Program → Graph → Json → DeviceFault → Type 0
IsFirstOf program graph file J1 = ⊥
IsFirstOf program graph file (J2 key) = first (faults program graph file) ≡ Some (Misshapen key.items)
IsFirstOf program graph file (J3 key) = first (faults program graph file) ≡ Some (Misfit key.items)
IsFirstOf program graph file (K1 key) = first (faults program graph file) ≡ Some (OutOfRange key.items)
IsFirstOf program graph file (K2 name) = first (faults program graph file) ≡ Some (Unknown name.items)
IsFirstOf program graph file (K3 label) = first (faults program graph file) ≡ Some (Elsewhere label.items)
IsFirstOf program graph file (K4 label) = first (faults program graph file) ≡ Some (OnForbidden label.items)
IsFirstOf program graph file OutOfMemory = ⊤

-- what a refusal says; want of memory says nothing
abbrev pub IsDeviceCause : List ℕ → Program → Graph → DeviceFault → Type 0
IsDeviceCause text program graph J1 = (file : Json) → IsJson text file → ⊥
IsDeviceCause text program graph (J2 key) = IsFirstFault text program graph (Misshapen key.items)
IsDeviceCause text program graph (J3 key) = IsFirstFault text program graph (Misfit key.items)
IsDeviceCause text program graph (K1 key) = IsFirstFault text program graph (OutOfRange key.items)
IsDeviceCause text program graph (K2 name) = IsFirstFault text program graph (Unknown name.items)
IsDeviceCause text program graph (K3 label) = IsFirstFault text program graph (Elsewhere label.items)
IsDeviceCause text program graph (K4 label) = IsFirstFault text program graph (OnForbidden label.items)
IsDeviceCause text program graph OutOfMemory = ⊤
