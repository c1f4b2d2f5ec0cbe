-- First fit: pinned groups in order, then free groups in order, each in the first slot that still has room for it (bin packing's
-- first fit, with pins).
use Rattle.std.specs.Prelude.{◌≡◌, ◌+◌, ◌*◌, ◌<◌, ◌≤◌, ◌==◌, ◌&&◌, if◌then◌else◌}
use Rattle.std.specs.Prelude.{ℕ, nat_lt, Bool, true, false, List, length, Option, None, Some, slice_get, slice_index}
use Rattle.task_graph.specs.declared.Graph.{Graph}
use Rattle.task_graph.specs.Streams.{amount_at}
use Rattle.task_graph.specs.Arcs.{total}
use Rattle.plan_device.specs.declared.device.Device.{Device}
use Rattle.slot_plan.specs.Plan.{need_of, MayStand}

-- whether a group is pinned
abbrev pub is_pin : Option (Option ℕ) → Bool
is_pin None = false
is_pin (Some None) = false
is_pin (Some (Some s)) = true

abbrev pub is_pinned : Device → ℕ → Bool
is_pinned d v = is_pin (slice_get d.pins.items v)

-- pinned groups come before free ones, and of one kind the group with the smaller number
abbrev pub comes_before : Device → ℕ → ℕ → Bool
comes_before d u v =
    if is_pinned d u then (if is_pinned d v then nat_lt u v else true) else (if is_pinned d v then false else nat_lt u v)

-- what the groups before v use of a kind in a slot, of n groups with their needs
abbrev pub used_before : ℕ → (ℕ → ℕ → ℕ) → Device → List ℕ → ℕ → ℕ → ℕ → ℕ
used_before n need d p v s k = total n (λ u. if comes_before d u v && (slice_index p u == s) then need u k else 0)

-- v may be in a slot, which keeps it within capacity beside the groups before v
pub record HasRoom (n : ℕ) (need : ℕ → ℕ → ℕ) (d : Device) (p : List ℕ) (v s : ℕ) : Type 0 where
  pub may : MayStand d v s
  pub room : (k : ℕ) → (used_before n need d p v s k + need v k) * 100 ≤ amount_at d.slots.items s k * d.percent

-- v is in the first slot that has room for it
pub record StandsFirst (n : ℕ) (need : ℕ → ℕ → ℕ) (d : Device) (p : List ℕ) (v : ℕ) : Type 0 where
  pub room : HasRoom n need d p v (slice_index p v)
  pub first : (s : ℕ) → s < slice_index p v → HasRoom n need d p v s → ⊥

-- so do the groups before v, and no slot has room for v
pub record FindsNone (n : ℕ) (need : ℕ → ℕ → ℕ) (d : Device) (p : List ℕ) (v : ℕ) : Type 0 where
  pub inside : v < n
  pub before : (u : ℕ) → u < n → comes_before d u v ≡ true → StandsFirst n need d p u
  pub none : (s : ℕ) → HasRoom n need d p v s → ⊥

-- the plan of first fit
pub record IsFirstFit (g : Graph) (d : Device) (p : List ℕ) : Type 0 where
  pub whole : length p ≡ g.groups
  pub each : (v : ℕ) → v < g.groups → StandsFirst g.groups (need_of g d) d p v
