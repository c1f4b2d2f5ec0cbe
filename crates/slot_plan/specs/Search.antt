-- The search for the least layout, by branch and bound over beginnings of lists of places (Land and Doig 1960).
use Rattle.std.specs.Prelude.{◌≡◌, ℕ, ◌+◌, ◌<◌, ◌≤◌, ◌⊎◌, nat_lt, List, [], ◌∷◌, ◌++◌, length, Option, None, Some, if◌then◌else◌, ◌*◌, ⊤}
use Rattle.task_graph.specs.declared.Use.{Use}
use Rattle.task_graph.specs.Arcs.{total}
use Rattle.task_graph.specs.Streams.{amount_at}
use Rattle.slot_plan.specs.declared.search.Best.{Best}
use Rattle.slot_plan.specs.declared.tables.Tables.{Tables}
use Rattle.slot_plan.specs.Least.{NotAfter}
use Rattle.slot_plan.specs.Plan.{load}
use Rattle.slot_plan.specs.Tables.{items, places, cell, beside, cost_of, Suits, HasRooms, IsLayout}

-- p costs no more than q, and comes no later where it costs the same
pub record IsNoWorse (t : Tables) (p q : List ℕ) : Type 0 where
  pub cheap : cost_of t p ≤ cost_of t q
  pub first : cost_of t p ≡ cost_of t q → NotAfter p q

-- a layout that is no worse than any
pub record IsLeastLayout (t : Tables) (p : List ℕ) : Type 0 where
  pub layout : IsLayout t p
  pub least : (q : List ℕ) → IsLayout t q → IsNoWorse t p q

-- the least layout with its cost, or none where there is none
abbrev pub IsAnswer : Tables → Option Best → Type 0
IsAnswer t None = (q : List ℕ) → IsLayout t q → ⊥
IsAnswer t (Some b) = IsLeastLayout t b.places.items

abbrev pub Begins : List ℕ → List ℕ → Type 0
Begins p q = (rest : List ℕ) × (q ≡ p ++ rest)

-- the best layout so far is one, with its cost
abbrev pub IsSound : Tables → Option Best → Type 0
IsSound t None = ⊤
IsSound t (Some b) = IsLayout t b.places.items × (b.cost ≡ cost_of t b.places.items)

abbrev pub Covers : Tables → Option Best → List ℕ → Type 0
Covers t None q = ⊥
Covers t (Some b) q = IsNoWorse t b.places.items q

abbrev pub IsEarlier : Option Best → List ℕ → Type 0
IsEarlier None q = ⊤
IsEarlier (Some b) q = NotAfter b.places.items q

abbrev pub IsFrom : Option Best → List ℕ → Type 0
IsFrom None p = ⊥
IsFrom (Some b) p = Begins p b.places.items

-- after all layouts that begin with p were looked at
pub record Explored (t : Tables) (p : List ℕ) (old new : Option Best) : Type 0 where
  pub sound : IsSound t new
  pub kept : (q : List ℕ) → Covers t old q → Covers t new q
  pub covered : (q : List ℕ) → IsLayout t q → Begins p q → Covers t new q
  pub from : (new ≡ old) ⊎ IsFrom new p

-- after those were looked at that go on from p with a place below s
pub record ExploredBelow (t : Tables) (p : List ℕ) (s : ℕ) (old new : Option Best) : Type 0 where
  pub sound : IsSound t new
  pub kept : (q : List ℕ) → Covers t old q → Covers t new q
  pub covered : (q : List ℕ) (y : ℕ) → y < s → IsLayout t q → Begins (p ++ y ∷ []) q → Covers t new q
  pub from : (new ≡ old) ⊎ ((y : ℕ) × (y < s) × IsFrom new (p ++ y ∷ []))

-- the rooms that are left beside the items of p
pub record AreLeft (t : Tables) (p : List ℕ) (left : List Use) : Type 0 where
  pub long : length left ≡ places t
  pub value : (s k : ℕ) → s < places t → amount_at left s k + load t.needs.items p s k ≡ amount_at t.room.items s k

-- what the items that are still to be placed cost, each at each place
pub record AreRows (t : Tables) (p rows : List ℕ) : Type 0 where
  pub long : length rows ≡ items t * places t
  pub value : (j y : ℕ) → length p ≤ j → j < items t → y < places t → cell rows (places t) j y ≡ beside t p j y

-- a number that those items cost at least, wherever they are placed where they suit
abbrev pub IsBelowRest : Tables → List ℕ → ℕ → Type 0
IsBelowRest t p low =
    (at : ℕ → ℕ) → ((j : ℕ) → j < items t → (at j < places t) × Suits t j (at j)) →
    low ≤ total (items t) (λ j. if nat_lt j (length p) then 0 else beside t p j (at j))

-- the state of the search at a beginning p
pub record IsAt (t : Tables) (p : List ℕ) (left : List Use) (spent : ℕ) (best : Option Best) : Type 0 where
  pub short : length p ≤ items t
  pub rooms : HasRooms t p
  pub left_is : AreLeft t p left
  pub spent_is : spent ≡ cost_of t p
  pub bounded : spent ≤ length p * 2731622400
  pub sound : IsSound t best
  pub earlier : (q : List ℕ) → Begins p q → IsEarlier best q

-- the state of the search at a beginning p whose next item is tried at place s
pub record IsAtPlace (t : Tables) (p : List ℕ) (left : List Use) (spent : ℕ) (best : Option Best) (s : ℕ) : Type 0 where
  pub more : length p < items t
  pub place : s < places t
  pub rooms : HasRooms t p
  pub left_is : AreLeft t p left
  pub spent_is : spent ≡ cost_of t p
  pub bounded : spent ≤ length p * 2731622400
  pub sound : IsSound t best
  pub earlier : (q : List ℕ) → Begins (p ++ s ∷ []) q → IsEarlier best q
