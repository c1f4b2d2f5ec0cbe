-- A source has one plan with a device file by a mode, or one reason for none.
use Rattle.std.specs.Prelude.{◌≡◌, ◌+◌, ◌<◌, ⊤, true, List, ℕ, slice_index}
use Rattle.tapa_words.specs.declared.command.PlanAim.{PlanAim}
use Rattle.tapa_words.specs.declared.command.PlanAim.TheVariants.{Lines, Circuit}
use Rattle.tapa_words.specs.declared.command.PlanMode.{PlanMode}
use Rattle.task_graph.specs.Arcs.{streams}
use Rattle.flow_cert.specs.Verdicts.{balance_of}
use Rattle.command_plan.specs.Planned.{HasPlan}
use Rattle.command_answers.specs.Answer.{Answer, Puts, Writes}
use Rattle.command_answers.specs.Files.{Given}
use Rattle.command_answers.specs.declared.file.File.{File}
use Rattle.command_plan.specs.Means.{MeansPlan}

-- two answers are one; of two texts the bytes may differ, as lines name one of the flows that show a balance, and a circuit is one
-- of those of its program
abbrev pub IsSamePlan : Answer → Answer → Type 0
IsSamePlan (Puts told) (Puts other) = ⊤
IsSamePlan (Writes told why) (Writes other cause) = why ≡ cause
IsSamePlan answer other = answer ≡ other

-- with a device file, by a mode and for an aim, a source has at most one meaning
abbrev pub PlansMeanOneThing : Type 0
PlansMeanOneThing =
    (top : List ℕ) (mode : PlanMode) (aim : PlanAim) (gives : File → Given) (a b : Answer) → MeansPlan top mode aim gives a → MeansPlan top mode aim gives b → IsSamePlan a b

-- the plans that are reported, as lines or as a circuit, are one: their slots, what these use, and their cost
abbrev pub SourcesHaveOnePlan : Type 0
SourcesHaveOnePlan =
    (text top bytes : List ℕ) (mode : PlanMode) (aim other : PlanAim) (told more : List ℕ) (one : HasPlan text top bytes mode aim told) (two : HasPlan text top bytes mode other more)
    → (one.plan.slot.items ≡ two.plan.slot.items) × (one.plan.used.items ≡ two.plan.used.items) × (one.plan.cost ≡ two.plan.cost)

-- two texts of the lines of a source's plan have the same latencies and the same balance
abbrev pub SourcesPrintOneBalance : Type 0
SourcesPrintOneBalance =
    (text top bytes : List ℕ) (mode : PlanMode) (told more : List ℕ) (one : HasPlan text top bytes mode Lines told) (two : HasPlan text top bytes mode Lines more)
    → (one.is.1.latencies ≡ two.is.1.latencies) × ((e : ℕ) → e < streams one.graph → balance_of one.graph one.is.1.latencies one.is.1.balance.s.items e
    ≡ balance_of two.graph two.is.1.latencies two.is.1.balance.s.items e)

-- what the circuit by the plan of a source adds to a stream, balanced, is the latency and the balance that the lines of the plan show
abbrev pub SourcesBuildWhatPlanPrints : Type 0
SourcesBuildWhatPlanPrints =
    (text top bytes : List ℕ) (mode : PlanMode) (told more : List ℕ) (printed : HasPlan text top bytes mode Lines told) (built : HasPlan text top bytes mode (Circuit true) more) (e : ℕ)
    → e < streams printed.graph → slice_index built.is.added e ≡ slice_index printed.is.1.latencies e + balance_of printed.graph printed.is.1.latencies printed.is.1.balance.s.items e
