-- What the code finds of the pins of groups.
use Rattle.std.specs.Prelude.{◌≡◌, ℕ, ◌<◌, ◌↔◌, ◌⊎◌, List, length, filter, Option, Some, None, get_or}
use Rattle.run_data.specs.Seen.{first}
use Rattle.plan_device.specs.Pins.{IsPinned, is_elsewhere, numbers}
use Rattle.plan_device.specs.declared.pins.GroupPins.{GroupPins}
use Rattle.plan_device.specs.declared.pins.GroupPins.TheVariants.{Slots, Elsewhere}

-- no instance is pinned elsewhere than an earlier one of its group, and each group is pinned where its instances are
pub record ArePins (groups : ℕ) (group : List ℕ) (pins : List (Option ℕ)) (slots : List (Option ℕ)) : Type 0 where
  pub as_many : length slots ≡ groups
  pub pinned : (g s : ℕ) → g < groups → (get_or slots g None ≡ Some s) ↔ IsPinned pins group g s

abbrev pub first_elsewhere : List ℕ → List (Option ℕ) → Option ℕ
first_elsewhere group pins = first (filter (is_elsewhere pins group) (numbers (length group)))

abbrev pub IsPinning : ℕ → List ℕ → List (Option ℕ) → GroupPins → Type 0
IsPinning groups group pins (Slots slots) = (first_elsewhere group pins ≡ None) × ArePins groups group pins slots.items
IsPinning groups group pins (Elsewhere i) = first_elsewhere group pins ≡ Some i

-- a group that is pinned nowhere yet, or to this slot
abbrev pub IsFreeFor : ℕ → Option ℕ → Type 0
IsFreeFor slot pin = (pin ≡ None) ⊎ (pin ≡ Some slot)

abbrev pub IsTakenFrom : ℕ → Option ℕ → Type 0
IsTakenFrom slot pin = (taken : ℕ) × (pin ≡ Some taken) × (taken ≡ slot → ⊥)
