-- The regions of a level as a grid of their own, in which a group's slot is its region's first slot.
use Rattle.std.specs.Prelude.{◌≡◌, ◌*◌, ◌^◌, ◌<◌, ◌≤◌, ◌↔◌, ◌==◌, ◌&&◌, if◌then◌else◌}
use Rattle.std.specs.Prelude.{ℕ, zero, suc, Bool, true, false, List, length, replicate, Some, slice_get, slice_index, slice_index_or}
use Rattle.task_graph.specs.declared.Graph.{Graph}
use Rattle.task_graph.specs.declared.Use.{Use}
use Rattle.task_graph.specs.Streams.{amount_at}
use Rattle.task_graph.specs.Arcs.{total}
use Rattle.plan_device.specs.declared.device.Device.{Device}
use Rattle.slot_plan.specs.Merging.{is_open}
use Rattle.slot_split.specs.Halving.{corner, capacity_in, IsOpenIn, IsLevel}

-- the first slots of the regions in which the slots are
pub record AreCorners (d : Device) (R K : ℕ) (corners : List ℕ) : Type 0 where
  pub long : length corners ≡ length d.slots.items
  pub value : (s : ℕ) → s < length d.slots.items → slice_index corners s ≡ corner d R K s
  pub inside : (s : ℕ) → s < length corners → slice_index corners s < length corners

-- what the first n slots have that are not forbidden, by their regions
pub record AreSums (d : Device) (corners : List ℕ) (n : ℕ) (sums : List Use) : Type 0 where
  pub long : length sums ≡ length d.slots.items
  pub value : (c k : ℕ) → amount_at sums c k ≡ total n (λ s. if (slice_index corners s == c) && is_open d s then amount_at d.slots.items s k else 0)
  pub low : (c k : ℕ) → amount_at sums c k ≤ n * 2 ^ 32

-- a slot below n that is not forbidden, in a region
pub record HasOpen (d : Device) (corners : List ℕ) (n c : ℕ) : Type 0 where
  pub slot : ℕ
  pub below : slot < n
  pub region : slice_index corners slot ≡ c
  pub free : is_open d slot ≡ true

-- marks of all slots but those in whose region one of the first n slots is not forbidden
pub record AreClosed (d : Device) (corners : List ℕ) (n : ℕ) (closed : List Bool) : Type 0 where
  pub long : length closed ≡ length d.slots.items
  pub usable : (c : ℕ) → c < length closed → (slice_index_or closed c false ≡ false) ↔ HasOpen d corners n c

-- a grid whose slots have what the regions have that begin with them; of slots that begin none, and of regions whose slots are all
-- forbidden, it is said that they are forbidden; groups are pinned to the regions of their pins
pub record IsRegions (g : Graph) (d : Device) (R K : ℕ) (r : Device) : Type 0 where
  pub rows : r.rows ≡ d.rows
  pub cols : r.cols ≡ d.cols
  pub percent : r.percent ≡ d.percent
  pub uses : r.uses.items ≡ d.uses.items
  pub long : length r.slots.items ≡ length d.slots.items
  pub capacity : (c k : ℕ) → c < length d.slots.items → amount_at r.slots.items c k ≡ capacity_in d R K c k
  pub marks : length r.forbidden.items ≡ length d.slots.items
  pub usable : (c : ℕ) → c < length d.slots.items → (slice_index_or r.forbidden.items c false ≡ false) ↔ ((s : ℕ) × IsOpenIn d R K c s)
  pub pins : length r.pins.items ≡ g.groups
  pub pinned : (v u : ℕ) → (slice_get r.pins.items v ≡ Some (Some u)) ↔ ((t : ℕ) × (slice_get d.pins.items v ≡ Some (Some t)) × (u ≡ corner d R K t))

-- where the groups are before a level: at level 0 all in one region, and then in those of the level before
abbrev pub IsBehind : Graph → Device → ℕ → ℕ → List ℕ → Type 0
IsBehind g d R zero homes = homes ≡ replicate g.groups 0
IsBehind g d R (suc K) homes = IsLevel g d R K homes
