-- Graphs and devices are small.
use Rattle.std.proofs.Common.{ℕ, zero, suc, ◌<◌, ◌≤◌, length, arith, ⊎_elim}
use Rattle.std.proofs.lemmas.Bool.{cases_lt}
use Rattle.std.proofs.lemmas.Nat.{mul-le}
use Rattle.task_graph.specs.declared.Graph.{Graph}
use Rattle.task_graph.specs.declared.Use.{Use}
use Rattle.task_graph.specs.Streams.{least_of}
use Rattle.plan_device.specs.declared.device.Device.{Device}
use Rattle.plan_device.specs.Devices.{IsDevice}
use Rattle.slot_plan.specs.Grids.{IsGrid}
use Rattle.slot_plan.specs.Placing.{CanPlace}
use Rattle.slot_plan.specs.Plan.{AreNeeds}
use Rattle.std.specs.Prelude.{List}

first_late : (g : Graph) (v : ℕ) → v < g.groups → v ≤ least_of g.group.items v
first_late g zero l = omega arith
first_late g (suc v) l =
    let a = first_late g v (omega arith) in
    let b = g.numbered.in_order v (suc v) (omega arith) l in omega arith

-- as many groups as instances at most
pub few_groups : (g : Graph) → g.groups ≤ 512
few_groups g =
    ⊎_elim
    (λ (over : 512 < g.groups).
    let a = first_late g 512 over in
    let b = g.numbered.used 512 over in
    let d = g.few_instances in
    let impossible : ⊥ = omega arith in absurd impossible)
    (λ (few : g.groups ≤ 512). few)
    (cases_lt 512 g.groups)

pub few_slots : (g : Graph) (d : Device) → IsGrid g d → length d.slots.items ≤ 32
few_slots g d h = let a = mul-le d.rows d.cols 8 4 h.few_rows h.few_cols in let b = h.slots in omega arith

pub can_place : (g : Graph) (d : Device) (needs : List Use) → IsGrid g d → AreNeeds g d needs → CanPlace d needs
can_place g d needs h needed = record {
  few = (let a = few_groups g in let b = needed.long in omega arith);
  pins = (let a = h.pins in let b = needed.long in omega arith);
  forbidden = h.forbidden;
  few_slots = few_slots g d h;
  percent = h.percent;
  capacities = h.capacities;
  small = needed.small;
}

pub grid_of : (g : Graph) (d : Device) → IsDevice g d → IsGrid g d
grid_of g d h = record {
  few_rows = h.few_rows;
  some_cols = h.some_cols;
  few_cols = h.few_cols;
  percent = h.percent;
  slots = h.slots;
  forbidden = h.forbidden;
  pins = h.pins;
  pins_inside = h.pins_inside;
  uses = h.uses;
  capacities = λ s k. (let a = h.capacities s k in omega arith);
  amounts = h.amounts;
}
