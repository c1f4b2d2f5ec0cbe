-- Plans by a mode, and the reasons for none, go over to a graph and a device that are one with theirs as plain data.
use Rattle.std.proofs.Common.{◌≡◌, ℕ, List, [], Some, None, ap, ◌∙◌}
use Rattle.std.specs.Prelude.{slice_get, unwrap_or}
use Rattle.tapa_words.specs.declared.command.PlanMode.{PlanMode}
use Rattle.tapa_words.specs.declared.command.PlanMode.TheVariants.{Exact, Fit, Split}
use Rattle.task_graph.specs.declared.Graph.{Graph}
use Rattle.task_graph.specs.Streams.{least_of}
use Rattle.plan_device.specs.declared.device.Device.{Device}
use Rattle.plan_device.specs.One.{AreAlike}
use Rattle.slot_plan.specs.declared.floorplan.Mode.TheVariants as floorplan_mode
use Rattle.slot_plan.specs.declared.floorplan.Plan.{Plan}
use Rattle.slot_plan.specs.declared.floorplan.PlanFault.{PlanFault}
use Rattle.slot_plan.specs.declared.floorplan.PlanFault.TheVariants.{NoFit, TooMany, OutOfMemory}
use Rattle.slot_split.specs.declared.planning.SplitFault.TheVariants as split_fault
use Rattle.command_answers.specs.Refusal.{Refusal, TooManyPlans, NoPlan, NoRoom, NoHalving}
use Rattle.command_plan.specs.Planned.{IsFaultOf, IsFound, IsPlanFor, IsUnhalved, IsUnplanned, first_label}
use Rattle.tapa_laws.specs.plans.OneGraph.{AreAlikeGraphs}
use Rattle.tapa_laws.proofs.plans.Over.{plan_over, used_over, cost_over, by_over, cause_over, halving_over, split_cause_over}

module _ (g h : Graph) (d e : Device) (a : AreAlikeGraphs g h) (b : AreAlike d e) where
  plan_for_over : (mode : PlanMode) (slots : List ℕ) → IsPlanFor g d mode slots → IsPlanFor h e mode slots
  plan_for_over Exact slots is = by_over g h d e a b floorplan_mode.Exact slots is
  plan_for_over Fit slots is = by_over g h d e a b floorplan_mode.Fit slots is
  plan_for_over Split slots is = halving_over g h d e a b slots is

  pub found_over : (mode : PlanMode) (plan : Plan) → IsFound g d mode plan → IsFound h e mode plan
  found_over mode plan is = record {
    fits = plan_over g h d e a b plan.slot.items is.fits;
    by = plan_for_over mode plan.slot.items is.by;
    used = used_over g h d e a b plan.slot.items plan.used.items is.used;
    cost = is.cost ∙ cost_over g h d e a b plan.slot.items;
  }

  fault_of_over : (mode : PlanMode) (fault : PlanFault) → IsFaultOf g d mode fault → IsFaultOf h e mode fault
  fault_of_over Exact fault is = cause_over g h d e a b floorplan_mode.Exact fault is
  fault_of_over Fit fault is = cause_over g h d e a b floorplan_mode.Fit fault is
  fault_of_over Split (TooMany slots free) is = (is.0, split_cause_over g h d e a b (split_fault.TooMany free) is.1)
  fault_of_over Split (NoFit group) is = is
  fault_of_over Split OutOfMemory is = is

  unhalved_over : (mode : PlanMode) (level : ℕ) → IsUnhalved g d mode level → IsUnhalved h e mode level
  unhalved_over Split level is = split_cause_over g h d e a b (split_fault.NoSplit level) is
  unhalved_over Exact level is = is
  unhalved_over Fit level is = is

  same_first_label : (group : ℕ) → first_label g group ≡ first_label h group
  same_first_label group =
      ap (λ (labels : List (List ℕ)). unwrap_or (slice_get labels (least_of g.group.items group)) []) a.labels
      ∙ ap (λ (groups : List ℕ). unwrap_or (slice_get h.labels.items (least_of groups group)) []) a.group

  pub unplanned_over : (mode : PlanMode) (why : Refusal) → IsUnplanned g d mode why → IsUnplanned h e mode why
  unplanned_over mode (TooManyPlans slots free) is = fault_of_over mode (TooMany slots free) is
  unplanned_over mode NoPlan is = fault_of_over mode (NoFit None) is
  unplanned_over mode (NoRoom label) is = (is.0, is.1 ∙ same_first_label is.0, fault_of_over mode (NoFit (Some is.0)) is.2)
  unplanned_over mode (NoHalving level) is = unhalved_over mode level is
  unplanned_over mode why is = is
