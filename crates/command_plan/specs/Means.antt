-- What the commands `plan` and `build` by a plan mean.
use Rattle.std.specs.Prelude.{◌≡◌, ◌⊎◌, ℕ, List, None}
use Rattle.tapa_syntax.specs.declared.program.Program.{Program}
use Rattle.tapa_words.specs.declared.command.PlanAim.{PlanAim}
use Rattle.tapa_words.specs.declared.command.PlanAim.TheVariants.{Lines, Circuit}
use Rattle.tapa_words.specs.declared.command.PlanMode.{PlanMode}
use Rattle.task_graph.specs.declared.Graph.{Graph}
use Rattle.task_graph.specs.Programs.{IsGraphOf}
use Rattle.plan_device.specs.declared.device.Device.{Device}
use Rattle.plan_device.specs.Answer.{IsDeviceOf}
use Rattle.slot_plan.specs.declared.floorplan.Plan.{Plan}
use Rattle.command_answers.specs.Answer.{Answer, Puts, Writes, Refuses, Reads}
use Rattle.command_answers.specs.Ends.{End, Meaning}
use Rattle.command_answers.specs.Files.{Held, Named, Absent, Given}
use Rattle.command_answers.specs.Outside.{Written}
use Rattle.command_answers.specs.Refusal as refusal
use Rattle.command_answers.specs.Refusal.{Refusal, DeviceFault}
use Rattle.command_answers.specs.Steps.{Wrote, WroteWhole}
use Rattle.command_answers.specs.declared.file.File.{File}
use Rattle.command_answers.specs.declared.file.File.TheVariants as role
use Rattle.command_source.specs.Means.{ReadsSource}
use Rattle.command_plan.specs.Planned.{IsFound, IsToldBy, IsUnplanned, HasDeviceFault, IsPlanText, IsCircuitBy}

abbrev pub files_of_plan : List ℕ → List ℕ → File → Held
files_of_plan source device role.Source = Named source
files_of_plan source device role.Device = Named device
files_of_plan source device _ = Absent

-- a device file is refused for its first fault
abbrev pub IsBadDevice : Program → Graph → List ℕ → Refusal → Type 0
IsBadDevice program graph bytes why = (fault : DeviceFault) × HasDeviceFault program graph bytes fault × (why ≡ refusal.Device fault)

-- a step that reads a device file
abbrev pub ReadsDevice : Program → Graph → Given → (Device → Answer → Type 0) → Answer → Type 0
ReadsDevice program graph given Then = Reads role.Device given (IsBadDevice program graph) (λ bytes device. IsDeviceOf bytes program graph device) Then

-- the text of a plan: its lines are written once they are made, and a circuit while it is made
abbrev pub planned_text : PlanAim → List ℕ → Answer
planned_text Lines told = Puts told
planned_text (Circuit balanced) told = Writes told None

-- there is no plan, or this is the text of one
abbrev pub ComesToPlan : PlanMode → PlanAim → Program → Graph → Device → Answer → Type 0
ComesToPlan mode aim program graph device answer =
    ((why : Refusal) × IsUnplanned graph device mode why × (answer ≡ Refuses why))
    ⊎ ((plan : Plan) × (told : List ℕ) × IsFound graph device mode plan × IsToldBy aim program graph device plan told × (answer ≡ planned_text aim told))

-- read the source, read the device, plan, write
abbrev pub MeansPlan : List ℕ → PlanMode → PlanAim → Meaning
MeansPlan top mode aim gives =
    ReadsSource top (gives role.Source)
    (λ program answer. (graph : Graph) × IsGraphOf program graph × ReadsDevice program graph (gives role.Device) (ComesToPlan mode aim program graph) answer)

-- what a plan is for was written
abbrev pub WroteBy : PlanAim → Program → Graph → Device → Plan → Written → Written → End → Type 0
WroteBy Lines program graph device plan old new end = WroteWhole (IsPlanText graph device plan) old new end
WroteBy (Circuit balanced) program graph device plan old new end = Wrote (IsCircuitBy program graph device plan balanced) old new end
