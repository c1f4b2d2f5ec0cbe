-- What each command reads and means.
use Rattle.tapa_words.specs.Words.{Command, Run, Build, Plan, Cosim, Vcd, Gen}
use Rattle.command_answers.specs.Ends.{Meaning}
use Rattle.command_answers.specs.Files.{Held}
use Rattle.command_answers.specs.declared.file.File.{File}
use Rattle.command_run.specs.Means.{files_of_run, MeansRun}
use Rattle.command_build.specs.Means.{files_of_build, MeansBuild}
use Rattle.command_plan.specs.Means.{files_of_plan, MeansPlan}
use Rattle.command_cosim.specs.Means.{files_of_cosim, MeansCosim}
use Rattle.command_vcd.specs.Means.{files_of_vcd, MeansVcd}
use Rattle.command_gen.specs.Means.{files_of_gen, MeansGen}

-- where it has its files from
abbrev pub held_of : Command → File → Held
held_of (Run source top input workers limit) = files_of_run source input
held_of (Build source top) = files_of_build source
held_of (Plan source top device mode aim) = files_of_plan source device
held_of (Cosim text input limit aim) = files_of_cosim text input
held_of (Vcd file net) = files_of_vcd file
held_of (Gen layers workers) = files_of_gen layers

-- the answers that it may come to, by what its files give
abbrev pub Means : Command → Meaning
Means (Run source top input workers limit) = MeansRun top limit
Means (Build source top) = MeansBuild top
Means (Plan source top device mode aim) = MeansPlan top mode aim
Means (Cosim text input limit aim) = MeansCosim limit aim
Means (Vcd file net) = MeansVcd net
Means (Gen layers workers) = MeansGen
