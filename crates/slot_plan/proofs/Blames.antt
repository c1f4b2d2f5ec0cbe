-- Why there is no plan.
use Rattle.std.proofs.Common.{◌≡◌, ℕ, Bool, List, sym, subst, Some}
use Rattle.task_graph.specs.declared.Graph.{Graph}
use Rattle.task_graph.specs.declared.Use.{Use}
use Rattle.plan_device.specs.declared.device.Device.{Device}
use Rattle.slot_plan.specs.declared.floorplan.Mode.TheVariants.{Fit}
use Rattle.slot_plan.specs.declared.floorplan.PlanFault.{PlanFault}
use Rattle.slot_plan.specs.declared.floorplan.PlanFault.TheVariants.{NoFit}
use Rattle.slot_plan.specs.Causes.{IsPlanCause}
use Rattle.slot_plan.specs.Placing.{IsStuck}
use Rattle.slot_plan.specs.Plan.{AreNeeds}
use Rattle.slot_plan.proofs.Placings.{fit_none}

pub fit_cause : (g : Graph) (d : Device) (needs : List Use) (free : Bool) (p : List ℕ) (fault : PlanFault) → AreNeeds g d needs → (v : ℕ) × (fault ≡ NoFit (Some v)) × IsStuck d needs free p v → IsPlanCause g d Fit fault
fit_cause g d needs free p fault needed h = subst (IsPlanCause g d Fit) (sym h.1) (p, fit_none g d needs p h.0 needed h.2.none)
