-- Halving: a plan level by level. At each level the regions of the one before are cut in two, rows first and then columns, and
-- the groups of each region are divided among its parts (AutoBridge's partitioning, level by level).
use Rattle.std.specs.Prelude.{◌≡◌, ◌≢◌, ◌+◌, ◌-◌, ◌*◌, ◌/◌, ◌%◌, ◌<◌, ◌≤◌, ◌==◌, ◌&&◌, if◌then◌else◌}
use Rattle.std.specs.Prelude.{ℕ, zero, suc, nat_lt, nat_le, true, List, length, Some, slice_get, slice_index}
use Rattle.task_graph.specs.declared.Graph.{Graph}
use Rattle.task_graph.specs.Streams.{amount_at}
use Rattle.task_graph.specs.Arcs.{total}
use Rattle.plan_device.specs.declared.device.Device.{Device}
use Rattle.plan_device.specs.Devices.{IsDevice}
use Rattle.slot_plan.specs.Causes.{free_groups}
use Rattle.slot_plan.specs.Least.{Beats}
use Rattle.slot_plan.specs.Merging.{is_open}
use Rattle.slot_plan.specs.Plan.{used_in, IsPlanOf}

-- how many of n rows or columns are in the first part
abbrev pub half : ℕ → ℕ
half n = (n + 1) / 2

-- where the part begins in which row or column x of n is after k cuts; a part of one is cut no more
abbrev pub part_start : ℕ → ℕ → ℕ → ℕ
part_start zero n x = 0
part_start (suc k) n x = if nat_lt x (half n) then part_start k (half n) x else half n + part_start k (n - half n) (x - half n)

-- after k cuts of n each is alone, and not after fewer
pub record AreCuts (n k : ℕ) : Type 0 where
  pub alone : (x : ℕ) → x < n → part_start k n x ≡ x
  pub before : (j : ℕ) → j < k → (x : ℕ) × (x < n) × (part_start j n x ≢ x)

-- how many of the first K cuts are cuts of rows, where R cuts part all rows; the others are of columns
abbrev pub row_cuts : ℕ → ℕ → ℕ
row_cuts R K = if nat_le K R then K else R

-- The first slot of the region in which a slot is at level K, where R cuts part all rows. It identifies the region: the first part of
-- a region has the region's own first slot, the second part a later one.
abbrev pub corner : Device → ℕ → ℕ → ℕ → ℕ
corner d R K s = part_start (row_cuts R K) d.rows (s / d.cols) * d.cols + part_start (K - R) d.cols (s % d.cols)

-- what a region has of a kind: the sum over its slots that are not forbidden
abbrev pub capacity_in : Device → ℕ → ℕ → ℕ → ℕ → ℕ
capacity_in d R K c k = total (length d.slots.items) (λ s. if (corner d R K s == c) && is_open d s then amount_at d.slots.items s k else 0)

-- a slot of a region that is not forbidden
pub record IsOpenIn (d : Device) (R K c s : ℕ) : Type 0 where
  pub inside : s < length d.slots.items
  pub region : corner d R K s ≡ c
  pub free : is_open d s ≡ true

-- a region of level K for each group, given by its first slot: it has a slot that is not forbidden, and that of the group's pin
pub record IsIn (d : Device) (R K v c : ℕ) : Type 0 where
  pub inside : c < length d.slots.items
  pub region : corner d R K c ≡ c
  pub usable : (s : ℕ) × IsOpenIn d R K c s
  pub pinned : (t : ℕ) → slice_get d.pins.items v ≡ Some (Some t) → corner d R K t ≡ c

-- the groups of each region use of no kind more than the part `percent` of what it has
pub record FitsLevel (g : Graph) (d : Device) (R K : ℕ) (p : List ℕ) : Type 0 where
  pub whole : length p ≡ g.groups
  pub each : (v : ℕ) → v < length p → IsIn d R K v (slice_index p v)
  pub within : (c k : ℕ) → c < length d.slots.items → used_in g d p c k * 100 ≤ capacity_in d R K c k * d.percent

-- each group stays in its region of level K
abbrev pub StaysIn : Device → ℕ → ℕ → List ℕ → List ℕ → Type 0
StaysIn d R K p q = (v : ℕ) → v < length q → corner d R K (slice_index q v) ≡ slice_index p v

-- Level K + 1 after p: of the lists that fit, one that costs least, and of several the first in order. The cost of a list of
-- regions is that of their first slots: width times the rows and the columns between them.
pub record IsNextLevel (g : Graph) (d : Device) (R K : ℕ) (p q : List ℕ) : Type 0 where
  pub fits : FitsLevel g d R (suc K) q
  pub stays : StaysIn d R K p q
  pub beats : (r : List ℕ) → FitsLevel g d R (suc K) r → StaysIn d R K p r → Beats g d q r

-- the regions of the groups after K levels; at level 0 the whole grid is one region
abbrev pub IsLevel : Graph → Device → ℕ → ℕ → List ℕ → Type 0
IsLevel g d R zero p = FitsLevel g d R 0 p
IsLevel g d R (suc K) q = (p : List ℕ) × IsLevel g d R K p × IsNextLevel g d R K p q

-- no list fits at level K after those before it
abbrev pub HasNone : Graph → Device → ℕ → ℕ → Type 0
HasNone g d R zero = (p : List ℕ) → FitsLevel g d R 0 p → ⊥
HasNone g d R (suc K) = (p : List ℕ) × IsLevel g d R K p × ((q : List ℕ) → FitsLevel g d R (suc K) q → StaysIn d R K p q → ⊥)

-- the plan of all levels: after the last each region is one slot
pub record IsHalvingPlan (g : Graph) (d : Device) (p : List ℕ) : Type 0 where
  pub rows : ℕ
  pub cols : ℕ
  pub row_levels : AreCuts d.rows rows
  pub col_levels : AreCuts d.cols cols
  pub few : free_groups d ≤ 22
  pub last : IsLevel g d rows (rows + cols) p

-- no list fits at a level
pub record HasNoHalving (g : Graph) (d : Device) (level : ℕ) : Type 0 where
  pub rows : ℕ
  pub cols : ℕ
  pub row_levels : AreCuts d.rows rows
  pub col_levels : AreCuts d.cols cols
  pub few : free_groups d ≤ 22
  pub within : level ≤ rows + cols
  pub none : HasNone g d rows level

-- a device and a graph have one plan by levels at most
abbrev pub HasOneHalvingPlan : Type 0
HasOneHalvingPlan = (g : Graph) (d : Device) (p q : List ℕ) → IsHalvingPlan g d p → IsHalvingPlan g d q → p ≡ q

-- it is a plan within capacity that keeps the pins, in no forbidden slot
abbrev pub HalvingGivesPlans : Type 0
HalvingGivesPlans = (g : Graph) (d : Device) (p : List ℕ) → IsDevice g d → IsHalvingPlan g d p → IsPlanOf g d p

-- a graph that has a plan by levels has a list at each level
abbrev pub HalvesOrFails : Type 0
HalvesOrFails = (g : Graph) (d : Device) (p : List ℕ) (level : ℕ) → IsHalvingPlan g d p → HasNoHalving g d level → ⊥

-- and one that has none is without a list at one level
abbrev pub FailsAtOneLevel : Type 0
FailsAtOneLevel = (g : Graph) (d : Device) (level other : ℕ) → HasNoHalving g d level → HasNoHalving g d other → level ≡ other
