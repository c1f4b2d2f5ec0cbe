-- What a device keeps that was read for a graph.
use Rattle.std.specs.Prelude.{◌≡◌, ℕ, ◌+◌, ◌*◌, ◌^◌, ◌<◌, ◌≤◌, length, Some, slice_get, slice_index}
use Rattle.task_graph.specs.declared.Graph.{Graph}
use Rattle.task_graph.specs.Streams.{amount_at}
use Rattle.plan_device.specs.declared.device.Device.{Device}

pub record IsDevice (g : Graph) (d : Device) : Type 0 where
  pub some_rows : 0 < d.rows
  pub few_rows : d.rows ≤ 8
  pub some_cols : 0 < d.cols
  pub few_cols : d.cols ≤ 4
  pub row_borders : length d.levels_rows.items + 1 ≡ d.rows
  pub col_borders : length d.levels_cols.items + 1 ≡ d.cols
  pub few_row_levels : (b : ℕ) → b < length d.levels_rows.items → slice_index d.levels_rows.items b ≤ 16
  pub few_col_levels : (b : ℕ) → b < length d.levels_cols.items → slice_index d.levels_cols.items b ≤ 16
  pub some_percent : 0 < d.percent
  pub percent : d.percent ≤ 100
  pub slots : length d.slots.items ≡ d.rows * d.cols
  pub forbidden : length d.forbidden.items ≡ length d.slots.items
  pub pins : length d.pins.items ≡ g.groups
  pub pins_inside : (v s : ℕ) → slice_get d.pins.items v ≡ Some (Some s) → s < length d.slots.items
  pub uses : length d.uses.items ≡ length g.group.items
  pub capacities : (s k : ℕ) → amount_at d.slots.items s k < 2 ^ 32
  pub amounts : (i k : ℕ) → amount_at d.uses.items i k < 2 ^ 40
