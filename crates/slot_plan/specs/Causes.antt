-- What a plan is by the mode in which it is looked for, and why there is none.
use Rattle.std.specs.Prelude.{◌≡◌, ℕ, ◌^◌, ◌<◌, ◌≤◌, Bool, true, false, not, List, length, Option, None, Some, count_by, ⊤}
use Rattle.task_graph.specs.declared.Graph.{Graph}
use Rattle.task_graph.specs.declared.Use.{Use}
use Rattle.task_graph.specs.Streams.{amount_at}
use Rattle.plan_device.specs.declared.device.Device.{Device}
use Rattle.slot_plan.specs.declared.floorplan.Mode.{Mode}
use Rattle.slot_plan.specs.declared.floorplan.Mode.TheVariants.{Exact, Fit}
use Rattle.slot_plan.specs.declared.floorplan.PlanFault.{PlanFault}
use Rattle.slot_plan.specs.declared.floorplan.PlanFault.TheVariants.{NoFit, TooMany, OutOfMemory}
use Rattle.slot_plan.specs.Plan.{need_of, used_in, IsPlanOf}
use Rattle.slot_plan.specs.Least.{IsLeastPlanOf}
use Rattle.slot_plan.specs.FirstFit.{IsFirstFit, FindsNone}

-- how many slots are not forbidden, and how many groups are not pinned
abbrev pub open_slots : Device → ℕ
open_slots d = count_by not d.forbidden.items

abbrev pub has_no_pin : Option ℕ → Bool
has_no_pin None = true
has_no_pin (Some s) = false

abbrev pub free_groups : Device → ℕ
free_groups d = count_by has_no_pin d.pins.items

-- few enough ways to place the free groups, so that all of them are looked at
abbrev pub HasFewWays : Device → Type 0
HasFewWays d = open_slots d ^ free_groups d ≤ 4194304

-- what the groups of each slot use
pub record AreUsed (g : Graph) (d : Device) (p : List ℕ) (used : List Use) : Type 0 where
  pub long : length used ≡ length d.slots.items
  pub value : (s k : ℕ) → s < length d.slots.items → amount_at used s k ≡ used_in g d p s k

-- the least plan of all, or first fit's
abbrev pub IsPlanBy : Graph → Device → Mode → List ℕ → Type 0
IsPlanBy g d Exact p = HasFewWays d × IsLeastPlanOf g d p
IsPlanBy g d Fit p = IsFirstFit g d p

-- exact mode: there are too many ways, or no plan; first fit: the group finds no slot
abbrev pub IsPlanCause : Graph → Device → Mode → PlanFault → Type 0
IsPlanCause g d Exact (TooMany slots free) = (slots ≡ open_slots d) × (free ≡ free_groups d) × (4194304 < slots ^ free)
IsPlanCause g d Exact (NoFit None) = HasFewWays d × ((q : List ℕ) → IsPlanOf g d q → ⊥)
IsPlanCause g d Exact (NoFit (Some v)) = ⊥
IsPlanCause g d Exact OutOfMemory = ⊤
IsPlanCause g d Fit (TooMany slots free) = ⊥
IsPlanCause g d Fit (NoFit None) = ⊥
IsPlanCause g d Fit (NoFit (Some v)) = (p : List ℕ) × FindsNone g.groups (need_of g d) d p v
IsPlanCause g d Fit OutOfMemory = ⊤
