-- What the search for the least plan looks up: items are free groups in order, places are slots that are not forbidden.
use Rattle.std.specs.Prelude.{◌≡◌, ℕ, ◌+◌, ◌*◌, ◌^◌, ◌<◌, ◌≤◌, List, length, slice_index}
use Rattle.task_graph.specs.Streams.{amount_at}
use Rattle.task_graph.specs.Arcs.{total}
use Rattle.slot_plan.specs.declared.tables.Tables.{Tables}
use Rattle.slot_plan.specs.Plan.{load}

abbrev pub items : Tables → ℕ
items t = length t.needs.items

abbrev pub places : Tables → ℕ
places t = length t.room.items

-- a cell of a table, row by row
abbrev pub cell : List ℕ → ℕ → ℕ → ℕ → ℕ
cell cells width i j = slice_index cells (i * width + j)

-- what item j costs at place y beside pinned groups, the width between two items, and the distance of two places
abbrev pub alone_at : Tables → ℕ → ℕ → ℕ
alone_at t j y = cell t.alone.items (places t) j y

abbrev pub joint_at : Tables → ℕ → ℕ → ℕ
joint_at t i j = cell t.joint.items (items t) i j

abbrev pub distance_at : Tables → ℕ → ℕ → ℕ
distance_at t x y = cell t.distance.items (places t) x y

-- an item may be at a place that is of the region where it is at home
abbrev pub Suits : Tables → ℕ → ℕ → Type 0
Suits t j y = slice_index t.homes.items j ≡ slice_index t.regions.items y

-- within the limits of graphs and devices
pub record AreTables (t : Tables) : Type 0 where
  pub few_items : items t ≤ 512
  pub few_places : places t ≤ 32
  pub homes : length t.homes.items ≡ items t
  pub regions : length t.regions.items ≡ places t
  pub alone : length t.alone.items ≡ items t * places t
  pub joint : length t.joint.items ≡ items t * items t
  pub distance : length t.distance.items ≡ places t * places t
  pub low_alone : (c : ℕ) → slice_index t.alone.items c ≤ 5324800
  pub low_joint : (c : ℕ) → slice_index t.joint.items c ≤ 133120
  pub low_distance : (c : ℕ) → slice_index t.distance.items c ≤ 40
  pub low_needs : (j k : ℕ) → amount_at t.needs.items j k < 2 ^ 56

-- what item j costs at place y beside pinned groups and the items that a list has placed
abbrev pub beside : Tables → List ℕ → ℕ → ℕ → ℕ
beside t p j y = alone_at t j y + total (length p) (λ i. joint_at t i j * distance_at t (slice_index p i) y)

-- what an item of a list costs beside pinned groups and the items before it, and what the list costs
abbrev pub step_cost : Tables → List ℕ → ℕ → ℕ
step_cost t p j = alone_at t j (slice_index p j) + total j (λ i. joint_at t i j * distance_at t (slice_index p i) (slice_index p j))

abbrev pub cost_of : Tables → List ℕ → ℕ
cost_of t p = total (length p) (step_cost t p)

-- a list of places that suit their items and have room for them
pub record HasRooms (t : Tables) (p : List ℕ) : Type 0 where
  pub inside : (j : ℕ) → j < length p → slice_index p j < places t
  pub home : (j : ℕ) → j < length p → Suits t j (slice_index p j)
  pub within : (s k : ℕ) → s < places t → load t.needs.items p s k ≤ amount_at t.room.items s k

-- a place for each item
pub record IsLayout (t : Tables) (p : List ℕ) : Type 0 where
  pub whole : length p ≡ items t
  pub rooms : HasRooms t p
