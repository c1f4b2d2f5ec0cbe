-- Plans: a slot for each group.
use Rattle.std.specs.Prelude.{◌≡◌, ◌+◌, ◌-◌, ◌*◌, ◌/◌, ◌%◌, ◌^◌, ◌<◌, ◌≤◌, ◌==◌, if◌then◌else◌}
use Rattle.std.specs.Prelude.{ℕ, false, List, length, Some, slice_get, slice_index, slice_index_or}
use Rattle.task_graph.specs.declared.Graph.{Graph}
use Rattle.task_graph.specs.declared.Use.{Use}
use Rattle.task_graph.specs.Streams.{amount_at}
use Rattle.task_graph.specs.Arcs.{streams, tail, head, width, total}
use Rattle.plan_device.specs.declared.device.Device.{Device}

-- what the members of a group use of a kind
abbrev pub need_of : Graph → Device → ℕ → ℕ → ℕ
need_of g d v k = total (length g.group.items) (λ i. if slice_index g.group.items i == v then amount_at d.uses.items i k else 0)

-- distance of two slots: of their rows, and of their columns
abbrev pub gap : ℕ → ℕ → ℕ
gap a b = (a - b) + (b - a)

abbrev pub distance : Device → ℕ → ℕ → ℕ
distance d a b = gap (a / d.cols) (b / d.cols) + gap (a % d.cols) (b % d.cols)

-- what a stream costs, and a plan
abbrev pub link_cost : Graph → Device → List ℕ → ℕ → ℕ
link_cost g d p e = width g e * distance d (slice_index p (tail g e)) (slice_index p (head g e))

abbrev pub cost : Graph → Device → List ℕ → ℕ
cost g d p = total (streams g) (link_cost g d p)

-- what a list's first groups use of a kind in a slot
abbrev pub load : List Use → List ℕ → ℕ → ℕ → ℕ
load needs p s k = total (length p) (λ v. if slice_index p v == s then amount_at needs v k else 0)

-- a group may be in a slot: one that is not forbidden, and its pin where it has one
pub record MayStand (d : Device) (v s : ℕ) : Type 0 where
  pub inside : s < length d.slots.items
  pub free : slice_index_or d.forbidden.items s false ≡ false
  pub pinned : (t : ℕ) → slice_get d.pins.items v ≡ Some (Some t) → s ≡ t

-- what the groups of a plan use of a kind in a slot
abbrev pub used_in : Graph → Device → List ℕ → ℕ → ℕ → ℕ
used_in g d p s k = total (length p) (λ v. if slice_index p v == s then need_of g d v k else 0)

-- a plan within capacity that keeps the pins, in no forbidden slot
pub record IsPlanOf (g : Graph) (d : Device) (p : List ℕ) : Type 0 where
  pub whole : length p ≡ g.groups
  pub each : (v : ℕ) → v < length p → MayStand d v (slice_index p v)
  pub within : (s k : ℕ) → s < length d.slots.items → used_in g d p s k * 100 ≤ amount_at d.slots.items s k * d.percent

-- a list has the needs of all groups
pub record AreNeeds (g : Graph) (d : Device) (needs : List Use) : Type 0 where
  pub long : length needs ≡ g.groups
  pub value : (v k : ℕ) → v < g.groups → amount_at needs v k ≡ need_of g d v k
  pub small : (v k : ℕ) → amount_at needs v k < 2 ^ 49
