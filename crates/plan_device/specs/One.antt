-- A device file gives one device.
use Rattle.std.specs.Prelude.{◌≡◌, ℕ, List}
use Rattle.tapa_syntax.specs.declared.program.Program.{Program}
use Rattle.task_graph.specs.declared.Graph.{Graph}
use Rattle.plan_device.specs.Answer.{IsDeviceOf}
use Rattle.plan_device.specs.declared.device.Device.{Device}

-- two devices are one as plain data: where their lists lie in memory is no matter
pub record AreAlike (one other : Device) : Type 0 where
  pub rows : one.rows ≡ other.rows
  pub cols : one.cols ≡ other.cols
  pub levels_rows : one.levels_rows.items ≡ other.levels_rows.items
  pub levels_cols : one.levels_cols.items ≡ other.levels_cols.items
  pub percent : one.percent ≡ other.percent
  pub slots : one.slots.items ≡ other.slots.items
  pub uses : one.uses.items ≡ other.uses.items
  pub pins : one.pins.items ≡ other.pins.items
  pub forbidden : one.forbidden.items ≡ other.forbidden.items

-- the devices that a file gives for a program and its graph are one
abbrev pub FilesGiveOneDevice : Type 0
FilesGiveOneDevice = (text : List ℕ) (program : Program) (graph : Graph) (one other : Device) → IsDeviceOf text program graph one → IsDeviceOf text program graph other → AreAlike one other
