-- A graph has one plan on a device by a mode, or one reason for none.
use Rattle.std.specs.Prelude.{◌≡◌, ◌+◌, ◌<◌, ℕ, true, List, slice_index}
use Rattle.tapa_syntax.specs.declared.program.Program.{Program}
use Rattle.tapa_words.specs.declared.command.PlanMode.{PlanMode}
use Rattle.task_graph.specs.declared.Graph.{Graph}
use Rattle.task_graph.specs.Arcs.{streams}
use Rattle.flow_cert.specs.Verdicts.{balance_of}
use Rattle.plan_device.specs.declared.device.Device.{Device}
use Rattle.slot_plan.specs.declared.floorplan.Plan.{Plan}
use Rattle.command_answers.specs.Refusal.{Refusal}
use Rattle.command_plan.specs.Planned.{AreLinesOf, IsCircuitBy, IsFound, IsUnplanned}

-- two plans by a mode have the same slots, what these use, and cost
abbrev pub PlansAreOne : Type 0
PlansAreOne =
    (g : Graph) (d : Device) (mode : PlanMode) (p q : Plan) → IsFound g d mode p → IsFound g d mode q
    → (p.slot.items ≡ q.slot.items) × (p.used.items ≡ q.used.items) × (p.cost ≡ q.cost)

-- two reasons for none are one
abbrev pub RefusalsAreOne : Type 0
RefusalsAreOne = (g : Graph) (d : Device) (mode : PlanMode) (why other : Refusal) → IsUnplanned g d mode why → IsUnplanned g d mode other → why ≡ other

-- where there is a plan there is no reason for none
abbrev pub PlannedOrRefused : Type 0
PlannedOrRefused = (g : Graph) (d : Device) (mode : PlanMode) (p : Plan) (why : Refusal) → IsFound g d mode p → IsUnplanned g d mode why → ⊥

-- what a circuit adds to a stream by the plan of a mode, balanced, is the latency and the balance that the lines of the plan show
abbrev pub BuildAddsWhatPlanPrints : Type 0
BuildAddsWhatPlanPrints =
    (program : Program) (g : Graph) (d : Device) (mode : PlanMode) (p q : Plan) (lines : List (List ℕ)) (told : List ℕ) → IsFound g d mode p → IsFound g d mode q
    → (printed : AreLinesOf g d p lines) (built : IsCircuitBy program g d q true told) (e : ℕ) → e < streams g
    → slice_index built.added e ≡ slice_index printed.latencies e + balance_of g printed.latencies printed.balance.s.items e
