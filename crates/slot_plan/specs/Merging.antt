-- How a layout of the free groups is a plan, and what the tables of the search are made of.
use Rattle.std.specs.Prelude.{◌≡◌, ℕ, ◌+◌, ◌*◌, ◌^◌, ◌<◌, ◌==◌, not, Bool, true, false, List, length, map, if◌then◌else◌, slice_index, slice_index_or}
use Rattle.std.specs.List.{flat_map}
use Rattle.task_graph.specs.declared.Graph.{Graph}
use Rattle.task_graph.specs.declared.Use.{Use}
use Rattle.task_graph.specs.Streams.{amount_at}
use Rattle.task_graph.specs.Arcs.{streams, tail, head, width, total}
use Rattle.plan_device.specs.declared.device.Device.{Device}
use Rattle.slot_plan.specs.declared.fit.Placing.{Placing}
use Rattle.slot_plan.specs.declared.tables.Tables.{Tables}
use Rattle.slot_plan.specs.declared.tables.Choice.{Choice}
use Rattle.slot_plan.specs.declared.tables.Regions.{Regions}
use Rattle.slot_plan.specs.FirstFit.{is_pinned}
use Rattle.slot_plan.specs.Plan.{distance}

-- the numbers below n that pass a test, in order
pub record AreThose (n : ℕ) (test : ℕ → Bool) (xs : List ℕ) : Type 0 where
  pub inside : (i : ℕ) → i < length xs → slice_index xs i < n
  pub pass : (i : ℕ) → i < length xs → test (slice_index xs i) ≡ true
  pub rising : (i j : ℕ) → i < j → j < length xs → slice_index xs i < slice_index xs j
  pub all : (x : ℕ) → x < n → test x ≡ true → (i : ℕ) × (i < length xs) × (slice_index xs i ≡ x)

abbrev pub is_open : Device → ℕ → Bool
is_open d s = not (slice_index_or d.forbidden.items s false)

abbrev pub is_unpinned : Device → ℕ → Bool
is_unpinned d v = not (is_pinned d v)

-- 1 where two numbers are the same, where a group is pinned, and else 0
abbrev pub one : ℕ → ℕ → ℕ
one v x = if v == x then 1 else 0

abbrev pub pin : Device → ℕ → ℕ
pin d x = if is_pinned d x then 1 else 0

-- the widths of the streams between two groups
abbrev pub between : Graph → ℕ → ℕ → ℕ
between g v u = total (streams g) (λ e. (one v (tail g e) * one u (head g e) + one u (tail g e) * one v (head g e)) * width g e)

-- what the streams between group v in slot s and the pinned groups cost, where b has the slots of these
abbrev pub beside_pins : Graph → Device → List ℕ → ℕ → ℕ → ℕ
beside_pins g d b v s =
    total (streams g) (λ e.
    (one v (tail g e) * pin d (head g e) * distance d s (slice_index b (head g e))
    + one v (head g e) * pin d (tail g e) * distance d s (slice_index b (tail g e)))
    * width g e)

-- a table with a row for each x and a column for each y, row by row
abbrev pub table_of : (ℕ → ℕ → ℕ) → List ℕ → List ℕ → List ℕ
table_of F xs ys = flat_map (λ x. map (F x) ys) xs

-- each group has a slot, a pinned one below 32
pub record AreFixed (g : Graph) (d : Device) (b : Placing) : Type 0 where
  pub long : length b.slots.items ≡ g.groups
  pub low : (v : ℕ) → v < g.groups → is_pinned d v ≡ true → slice_index b.slots.items v < 32

-- the free groups and the open slots, in order
pub record AreChoices (g : Graph) (d : Device) (c : Choice) : Type 0 where
  pub items : AreThose g.groups (is_unpinned d) c.items.items
  pub places : AreThose (length d.slots.items) (is_open d) c.places.items

-- a region for each group and each slot
pub record AreRegions (g : Graph) (d : Device) (r : Regions) : Type 0 where
  pub homes : length r.homes.items ≡ g.groups
  pub slots : length r.slots.items ≡ length d.slots.items

-- the tables of a choice beside pinned groups in their slots: what items need, what room places have, what a layout of them costs, and
-- where items are at home and of which regions places are
pub record AreTablesOf (g : Graph) (d : Device) (needs : List Use) (b : Placing) (c : Choice) (r : Regions) (t : Tables) : Type 0 where
  pub needs_long : length t.needs.items ≡ length c.items.items
  pub needs_are : (j k : ℕ) → j < length c.items.items → amount_at t.needs.items j k ≡ amount_at needs (slice_index c.items.items j) k * 100
  pub small : (j k : ℕ) → amount_at t.needs.items j k < 2 ^ 56
  pub room_long : length t.room.items ≡ length c.places.items
  pub room : (y k : ℕ) → y < length c.places.items
      → amount_at t.room.items y k + amount_at b.used.items (slice_index c.places.items y) k * 100 ≡ amount_at d.slots.items (slice_index c.places.items y) k * d.percent
  pub alone : t.alone.items ≡ table_of (beside_pins g d b.slots.items) c.items.items c.places.items
  pub joint : t.joint.items ≡ table_of (between g) c.items.items c.items.items
  pub distance : t.distance.items ≡ table_of (distance d) c.places.items c.places.items
  pub homes : t.homes.items ≡ map (slice_index r.homes.items) c.items.items
  pub regions : t.regions.items ≡ map (slice_index r.slots.items) c.places.items

-- each group that is not pinned is in a slot of the region where it is at home
abbrev pub StayAtHome : Device → List ℕ → List ℕ → List ℕ → Type 0
StayAtHome d homes regions p = (v : ℕ) → v < length p → is_pinned d v ≡ false → slice_index homes v ≡ slice_index regions (slice_index p v)

-- the plan of a layout: pinned groups in their slots, free groups at the places of their items
pub record IsMerged (g : Graph) (d : Device) (b : Placing) (c : Choice) (places p : List ℕ) : Type 0 where
  pub long : length p ≡ g.groups
  pub pinned : (v : ℕ) → v < g.groups → is_pinned d v ≡ true → slice_index p v ≡ slice_index b.slots.items v
  pub items : (j : ℕ) → j < length c.items.items → slice_index p (slice_index c.items.items j) ≡ slice_index c.places.items (slice_index places j)
