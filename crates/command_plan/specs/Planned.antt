-- What the plan of a source's program on a device is, and why there is none.
use Rattle.std.specs.Prelude.{◌≡◌, ℕ, Bool, List, [], slice_get, unwrap_or, Option, None, Some}
use Rattle.tapa_syntax.specs.declared.program.Program.{Program}
use Rattle.tapa_words.specs.declared.command.PlanAim.{PlanAim}
use Rattle.tapa_words.specs.declared.command.PlanAim.TheVariants.{Lines, Circuit}
use Rattle.tapa_words.specs.declared.command.PlanMode.{PlanMode}
use Rattle.tapa_words.specs.declared.command.PlanMode.TheVariants.{Exact, Fit, Split}
use Rattle.task_graph.specs.declared.Graph.{Graph}
use Rattle.task_graph.specs.Programs.{IsGraphOf}
use Rattle.task_graph.specs.Streams.{least_of}
use Rattle.latency_balance.specs.declared.balance.Balance.{Balance}
use Rattle.latency_balance.specs.Result.{IsBalance}
use Rattle.plan_device.specs.declared.device.Device.{Device}
use Rattle.plan_device.specs.Answer.{IsDeviceOf, IsFirstFault}
use Rattle.run_data.specs.Data.{IsJson}
use Rattle.serde_json.specs.Data.{Data as Json}
use Rattle.slot_plan.specs.declared.floorplan.Mode.TheVariants as floorplan_mode
use Rattle.slot_plan.specs.declared.floorplan.Plan.{Plan}
use Rattle.slot_plan.specs.declared.floorplan.PlanFault.{PlanFault}
use Rattle.slot_plan.specs.declared.floorplan.PlanFault.TheVariants.{NoFit, TooMany}
use Rattle.slot_plan.specs.Causes.{IsPlanBy, IsPlanCause, AreUsed}
use Rattle.slot_plan.specs.Plan.{IsPlanOf, cost}
use Rattle.slot_split.specs.declared.planning.SplitFault.TheVariants as split_fault
use Rattle.slot_split.specs.Causes.{IsSplitCause}
use Rattle.slot_split.specs.Halving.{IsHalvingPlan}
use Rattle.plan_report.specs.Added.{AreAdded}
use Rattle.plan_report.specs.Borders.{AreBorderLatencies}
use Rattle.plan_report.specs.Lines.{plan_lines}
use Rattle.run_data.specs.Lines.{joined}
use Rattle.command_answers.specs.Refusal.{Refusal, DeviceFault, NoJson, HasFault, TooManyPlans, NoPlan, NoRoom, NoHalving}
use Rattle.command_source.specs.Source.{IsProgramOf}
use Rattle.command_build.specs.Built.{IsCircuitText}

-- the least plan of all, first fit's, or the plan by halving
abbrev pub IsPlanFor : Graph → Device → PlanMode → List ℕ → Type 0
IsPlanFor graph device Exact slots = IsPlanBy graph device floorplan_mode.Exact slots
IsPlanFor graph device Fit slots = IsPlanBy graph device floorplan_mode.Fit slots
IsPlanFor graph device Split slots = IsHalvingPlan graph device slots

-- why a mode finds none; halving has two parts for each free group to be in
abbrev pub IsFaultOf : Graph → Device → PlanMode → PlanFault → Type 0
IsFaultOf graph device Exact fault = IsPlanCause graph device floorplan_mode.Exact fault
IsFaultOf graph device Fit fault = IsPlanCause graph device floorplan_mode.Fit fault
IsFaultOf graph device Split (TooMany slots free) = (slots ≡ 2) × IsSplitCause graph device (split_fault.TooMany free)
IsFaultOf graph device Split _ = ⊥

-- no list of regions fits at a level of halving
abbrev pub IsUnhalved : Graph → Device → PlanMode → ℕ → Type 0
IsUnhalved graph device Split level = IsSplitCause graph device (split_fault.NoSplit level)
IsUnhalved graph device mode level = ⊥

-- these are the lines of a plan, of its border latencies, and of a balance that takes the fewest registers, with a flow that
-- shows it
pub record AreLinesOf (graph : Graph) (device : Device) (plan : Plan) (lines : List (List ℕ)) : Type 0 where
  pub latencies : List ℕ
  pub borders : AreBorderLatencies graph device plan.slot.items latencies
  pub balance : Balance
  pub best : IsBalance graph latencies balance
  pub told : lines ≡ plan_lines graph device plan latencies balance

-- the plan keeps the pins and the capacities and is one by a mode, with what its slots use and what it costs
pub record IsFound (graph : Graph) (device : Device) (mode : PlanMode) (plan : Plan) : Type 0 where
  pub fits : IsPlanOf graph device plan.slot.items
  pub by : IsPlanFor graph device mode plan.slot.items
  pub used : AreUsed graph device plan.slot.items plan.used.items
  pub cost : plan.cost ≡ cost graph device plan.slot.items

-- the text of the circuit of a program with the latencies that a plan adds to its streams, balanced or not
pub record IsCircuitBy (program : Program) (graph : Graph) (device : Device) (plan : Plan) (balanced : Bool) (told : List ℕ) : Type 0 where
  pub added : List ℕ
  pub are : AreAdded graph device plan.slot.items balanced added
  pub is : IsCircuitText program added told

-- the text of the lines of a plan
abbrev pub IsPlanText : Graph → Device → Plan → List ℕ → Type 0
IsPlanText graph device plan told = (lines : List (List ℕ)) × AreLinesOf graph device plan lines × (told ≡ joined lines)

-- the output of a plan: its lines, or a circuit
abbrev pub IsToldBy : PlanAim → Program → Graph → Device → Plan → List ℕ → Type 0
IsToldBy Lines program graph device plan told = IsPlanText graph device plan told
IsToldBy (Circuit balanced) program graph device plan told = IsCircuitBy program graph device plan balanced told

-- the label of a group's first instance
abbrev pub first_label : Graph → ℕ → List ℕ
first_label graph group = unwrap_or (slice_get graph.labels.items (least_of graph.group.items group)) []

-- why a graph has no plan on a device by a mode
abbrev pub IsUnplanned : Graph → Device → PlanMode → Refusal → Type 0
IsUnplanned graph device mode (TooManyPlans slots free) = IsFaultOf graph device mode (TooMany slots free)
IsUnplanned graph device mode NoPlan = IsFaultOf graph device mode (NoFit None)
IsUnplanned graph device mode (NoRoom label) = (group : ℕ) × (label ≡ first_label graph group) × IsFaultOf graph device mode (NoFit (Some group))
IsUnplanned graph device mode (NoHalving level) = IsUnhalved graph device mode level
IsUnplanned graph device mode _ = ⊥

-- a device file has this fault for a program and its graph
abbrev pub HasDeviceFault : Program → Graph → List ℕ → DeviceFault → Type 0
HasDeviceFault program graph text NoJson = (file : Json) → IsJson text file → ⊥
HasDeviceFault program graph text (HasFault fault) = IsFirstFault text program graph fault

-- the program of a source, its graph, and the device that a file gives for them
pub record IsAskedOn (text top bytes : List ℕ) (program : Program) (graph : Graph) (device : Device) : Type 0 where
  pub means : IsProgramOf text top program
  pub is_graph : IsGraphOf program graph
  pub is_device : IsDeviceOf bytes program graph device

-- the output of a plan of the source's program on the device
pub record HasPlan (text top bytes : List ℕ) (mode : PlanMode) (aim : PlanAim) (told : List ℕ) : Type 0 where
  pub program : Program
  pub graph : Graph
  pub device : Device
  pub asked : IsAskedOn text top bytes program graph device
  pub plan : Plan
  pub found : IsFound graph device mode plan
  pub is : IsToldBy aim program graph device plan told
