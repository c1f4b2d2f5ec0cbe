-- What the command `cosim` means: the simulation of a Verilog text in the environment that data give.
use Rattle.std.specs.Prelude.{◌≡◌, ℕ, List, Option, Some, None}
use Rattle.vlog_tree.specs.Environment.{Environment}
use Rattle.vlog_design.specs.Designs.{DesignTree}
use Rattle.tapa_words.specs.declared.command.CosimAim.{CosimAim}
use Rattle.command_answers.specs.Answer.{Answer, Writes, Reads}
use Rattle.command_answers.specs.Ends.{Meaning}
use Rattle.command_answers.specs.Files.{Held, Named, Absent, data_held}
use Rattle.command_answers.specs.Refusal as refusal
use Rattle.command_answers.specs.Refusal.{Refusal, VerilogFault, Undone}
use Rattle.command_answers.specs.declared.file.File.{File}
use Rattle.command_answers.specs.declared.file.File.TheVariants as role
use Rattle.command_source.specs.Means.{ReadsData}
use Rattle.command_cosim.specs.Designs.{IsDesignOf, IsShapeIn, IsRefusedText, GivesEnvironment, IsToldFor}

abbrev pub files_of_cosim : List ℕ → Option (List ℕ) → File → Held
files_of_cosim text input role.Text = Named text
files_of_cosim text input role.Data = data_held input
files_of_cosim text input _ = Absent

-- a text is refused for its fault
abbrev pub IsTextFault : List ℕ → Refusal → Type 0
IsTextFault text why = (fault : VerilogFault) × IsRefusedText text fault × (why ≡ refusal.Verilog fault)

-- the refusal of a design that is done in no cycle
abbrev pub unless_done : ℕ → Option ℕ → Option Refusal
unless_done limit None = Some (Undone limit)
unless_done limit (Some at) = None

-- the report or the dump of the design's run is written
abbrev pub ComesToRun : ℕ → CosimAim → DesignTree → Environment → Answer → Type 0
ComesToRun limit aim design env answer = (at : Option ℕ) × (told : List ℕ) × IsToldFor aim design env limit at told × (answer ≡ Writes told (unless_done limit at))

-- read the text, read the data, simulate, report or dump
abbrev pub MeansCosim : ℕ → CosimAim → Meaning
MeansCosim limit aim gives =
    Reads role.Text (gives role.Text) IsTextFault (λ text design. IsDesignOf text design)
    (λ design. ReadsData (IsShapeIn design) (gives role.Data) (λ bytes env. GivesEnvironment design bytes env) (ComesToRun limit aim design))
