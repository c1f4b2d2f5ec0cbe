-- The state of first fit.
use Rattle.std.specs.Prelude.{◌≡◌, ℕ, ◌+◌, ◌*◌, ◌^◌, ◌<◌, ◌≤◌, ◌==◌, ◌&&◌, nat_lt, not, Bool, true, false, List, length, if◌then◌else◌, slice_index}
use Rattle.task_graph.specs.declared.Use.{Use}
use Rattle.task_graph.specs.Streams.{amount, amount_at}
use Rattle.task_graph.specs.Arcs.{total}
use Rattle.plan_device.specs.declared.device.Device.{Device}
use Rattle.slot_plan.specs.declared.fit.Placing.{Placing}
use Rattle.slot_plan.specs.Plan.{MayStand}
use Rattle.slot_plan.specs.FirstFit.{is_pinned, StandsFirst, FindsNone}

-- whether u was placed, where pinned groups below v were, or all pinned groups and free groups below v
abbrev pub is_placed : Device → Bool → ℕ → ℕ → Bool
is_placed d free v u = if is_pinned d u then (if free then true else nat_lt u v) else (if free then nat_lt u v else false)

-- what the placed groups use of a kind in a slot
abbrev pub placed_in : Device → List Use → Bool → ℕ → List ℕ → ℕ → ℕ → ℕ
placed_in d needs free v p s k = total (length needs) (λ u. if is_placed d free v u && (slice_index p u == s) then amount_at needs u k else 0)

-- a device and the needs of its groups, within the limits of both
pub record CanPlace (d : Device) (needs : List Use) : Type 0 where
  pub few : length needs ≤ 512
  pub pins : length d.pins.items ≡ length needs
  pub forbidden : length d.forbidden.items ≡ length d.slots.items
  pub few_slots : length d.slots.items ≤ 32
  pub percent : d.percent ≤ 100
  pub capacities : (s k : ℕ) → amount_at d.slots.items s k < 2 ^ 40
  pub small : (v k : ℕ) → amount_at needs v k < 2 ^ 49

-- what slots hold, within capacity
pub record AreLoads (d : Device) (needs used : List Use) : Type 0 where
  pub can : CanPlace d needs
  pub long : length used ≡ length d.slots.items
  pub within : (s k : ℕ) → s < length d.slots.items → amount_at used s k * 100 ≤ amount_at d.slots.items s k * d.percent

-- group v may be in a slot, which has room for it
pub record HasSpace (d : Device) (needs used : List Use) (v s : ℕ) : Type 0 where
  pub may : MayStand d v s
  pub room : (k : ℕ) → (amount_at used s k + amount_at needs v k) * 100 ≤ amount_at d.slots.items s k * d.percent

-- the first such slot, and what it holds then
pub record IsFirstSpace (d : Device) (needs used : List Use) (v s : ℕ) (after : Use) : Type 0 where
  pub space : HasSpace d needs used v s
  pub first : (t : ℕ) → t < s → HasSpace d needs used v t → ⊥
  pub sum : (k : ℕ) → amount after k ≡ amount_at used s k + amount_at needs v k

-- the placed groups are where first fit places them
pub record ArePlaced (d : Device) (needs : List Use) (free : Bool) (v : ℕ) (b : Placing) : Type 0 where
  pub long : length b.slots.items ≡ length needs
  pub loads : AreLoads d needs b.used.items
  pub used_is : (s k : ℕ) → s < length d.slots.items → amount_at b.used.items s k ≡ placed_in d needs free v b.slots.items s k
  pub each : (u : ℕ) → u < length needs → is_placed d free v u ≡ true → StandsFirst (length needs) (amount_at needs) d b.slots.items u

-- group v is of the kind that is being placed, and finds no slot
pub record IsStuck (d : Device) (needs : List Use) (free : Bool) (p : List ℕ) (v : ℕ) : Type 0 where
  pub kind : is_pinned d v ≡ not free
  pub none : FindsNone (length needs) (amount_at needs) d p v
