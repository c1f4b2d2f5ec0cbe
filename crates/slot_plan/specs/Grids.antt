-- A grid of slots for the groups of a graph: a device, or the regions of one.
use Rattle.std.specs.Prelude.{◌≡◌, ℕ, ◌*◌, ◌^◌, ◌<◌, ◌≤◌, length, Some, slice_get}
use Rattle.task_graph.specs.declared.Graph.{Graph}
use Rattle.task_graph.specs.Streams.{amount_at}
use Rattle.plan_device.specs.declared.device.Device.{Device}

pub record IsGrid (g : Graph) (d : Device) : Type 0 where
  pub few_rows : d.rows ≤ 8
  pub some_cols : 0 < d.cols
  pub few_cols : d.cols ≤ 4
  pub percent : d.percent ≤ 100
  pub slots : length d.slots.items ≡ d.rows * d.cols
  pub forbidden : length d.forbidden.items ≡ length d.slots.items
  pub pins : length d.pins.items ≡ g.groups
  pub pins_inside : (v s : ℕ) → slice_get d.pins.items v ≡ Some (Some s) → s < length d.slots.items
  pub uses : length d.uses.items ≡ length g.group.items
  pub capacities : (s k : ℕ) → amount_at d.slots.items s k < 2 ^ 40
  pub amounts : (i k : ℕ) → amount_at d.uses.items i k < 2 ^ 40
