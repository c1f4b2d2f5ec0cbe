-- Border latencies: a wire takes registers at each border between slots that it crosses (AutoBridge).
use Rattle.std.specs.Prelude.{◌≡◌, ℕ, ◌+◌, ◌/◌, ◌%◌, ◌<◌, ◌&&◌, max, min, nat_le, nat_lt, List, length, if◌then◌else◌, slice_index}
use Rattle.task_graph.specs.declared.Graph.{Graph}
use Rattle.task_graph.specs.Arcs.{streams, tail, head, total}
use Rattle.plan_device.specs.declared.device.Device.{Device}

-- the levels of the borders between two rows, or two columns; border n lies between n and n + 1
abbrev pub crossed : List ℕ → ℕ → ℕ → ℕ
crossed levels a b = total (length levels) (λ border. if nat_le (min a b) border && nat_lt border (max a b) then slice_index levels border else 0)

-- the latency of a wire from one slot to another; slots are numbered row by row
abbrev pub border_latency : Device → ℕ → ℕ → ℕ
border_latency d s t = crossed d.levels_rows.items (s / d.cols) (t / d.cols) + crossed d.levels_cols.items (s % d.cols) (t % d.cols)

-- the latencies of a graph's streams, where the groups are in these slots
pub record AreBorderLatencies (g : Graph) (d : Device) (slots lat : List ℕ) : Type 0 where
  pub long : length lat ≡ streams g
  pub value : (e : ℕ) → e < streams g → slice_index lat e ≡ border_latency d (slice_index slots (tail g e)) (slice_index slots (head g e))
