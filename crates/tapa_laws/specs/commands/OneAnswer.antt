-- A command comes to one answer by what its files give.
use Rattle.std.specs.Prelude.{◌≡◌, ℕ, List, Option}
use Rattle.tapa_words.specs.Words.{Command, Run, Build, Plan, Cosim, Vcd}
use Rattle.tapa_words.specs.declared.command.CosimAim.{CosimAim}
use Rattle.tapa_words.specs.declared.command.PlanAim.{PlanAim}
use Rattle.tapa_words.specs.declared.command.PlanMode.{PlanMode}
use Rattle.command_answers.specs.Answer.{Answer}
use Rattle.command_answers.specs.Files.{Given}
use Rattle.command_answers.specs.declared.file.File.{File}
use Rattle.tapa_drive.specs.Means.{Means}
use Rattle.tapa_laws.specs.plans.OnePlan.{IsSamePlan}

abbrev pub MeansOneThing : Command → Type 0
MeansOneThing c = (gives : File → Given) (a b : Answer) → Means c gives a → Means c gives b → a ≡ b

abbrev pub MeansOnePlan : Command → Type 0
MeansOnePlan c = (gives : File → Given) (a b : Answer) → Means c gives a → Means c gives b → IsSamePlan a b

abbrev pub RunsMeanOneThing : Type 0
RunsMeanOneThing = (source top : List ℕ) (input : Option (List ℕ)) (workers limit : ℕ) → MeansOneThing (Run source top input workers limit)

abbrev pub SimulationsMeanOneThing : Type 0
SimulationsMeanOneThing = (text : List ℕ) (input : Option (List ℕ)) (limit : ℕ) (aim : CosimAim) → MeansOneThing (Cosim text input limit aim)

abbrev pub NetsMeanOneThing : Type 0
NetsMeanOneThing = (file net : List ℕ) → MeansOneThing (Vcd file net)

abbrev pub PlansMeanOneThing : Type 0
PlansMeanOneThing = (source top device : List ℕ) (mode : PlanMode) (aim : PlanAim) → MeansOnePlan (Plan source top device mode aim)

abbrev pub CircuitsMeanOneThing : Type 0
CircuitsMeanOneThing = (source top : List ℕ) → MeansOnePlan (Build source top)
