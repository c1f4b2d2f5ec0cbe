-- A device file gives a source one device, or has one first fault for it.
use Rattle.std.specs.Prelude.{◌≡◌, List, ℕ}
use Rattle.tapa_syntax.specs.declared.program.Program.{Program}
use Rattle.task_graph.specs.declared.Graph.{Graph}
use Rattle.plan_device.specs.One.{AreAlike}
use Rattle.plan_device.specs.declared.device.Device.{Device}
use Rattle.command_answers.specs.Refusal.{DeviceFault}
use Rattle.task_graph.specs.Programs.{IsGraphOf}
use Rattle.command_source.specs.Source.{IsProgramOf}
use Rattle.command_plan.specs.Planned.{HasDeviceFault, IsAskedOn}

-- the device file has this fault for the program of the source
pub record HasBadDevice (text top bytes : List ℕ) (fault : DeviceFault) : Type 0 where
  pub program : Program
  pub graph : Graph
  pub means : IsProgramOf text top program
  pub is_graph : IsGraphOf program graph
  pub has : HasDeviceFault program graph bytes fault

-- the devices that a file gives for the program of a source and its graph are one
abbrev pub SourcesHaveOneDevice : Type 0
SourcesHaveOneDevice =
    (text top bytes : List ℕ) (p q : Program) (g h : Graph) (d e : Device) → IsAskedOn text top bytes p g d → IsAskedOn text top bytes q h e → AreAlike d e

-- a file has one fault for a source
abbrev pub SourcesHaveOneDeviceFault : Type 0
SourcesHaveOneDeviceFault = (text top bytes : List ℕ) (fault other : DeviceFault) → HasBadDevice text top bytes fault → HasBadDevice text top bytes other → fault ≡ other

-- a file that gives a source a device has no fault for it
abbrev pub DevicesHaveNoFault : Type 0
DevicesHaveNoFault = (text top bytes : List ℕ) (p : Program) (g : Graph) (d : Device) (fault : DeviceFault) → IsAskedOn text top bytes p g d → HasBadDevice text top bytes fault → ⊥
