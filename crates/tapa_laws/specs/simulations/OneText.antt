-- A Verilog text and its data have one meaning.
use Rattle.std.specs.Prelude.{◌≡◌, ℕ, List, Option}
use Rattle.vlog_design.specs.Designs.{DesignTree}
use Rattle.vlog_tree.specs.Environment.{Environment}
use Rattle.tapa_words.specs.declared.command.CosimAim.{CosimAim}
use Rattle.command_answers.specs.Answer.{Answer}
use Rattle.command_answers.specs.Files.{Given}
use Rattle.command_answers.specs.Refusal.{VerilogFault}
use Rattle.command_answers.specs.declared.file.File.{File}
use Rattle.command_cosim.specs.Designs.{IsDesignOf, GivesEnvironment, HasSimulated, IsRefusedText}
use Rattle.command_cosim.specs.Means.{MeansCosim}

-- a text with data, with a limit on cycles, means at most one thing
abbrev pub TextsMeanOneThing : Type 0
TextsMeanOneThing = (limit : ℕ) (aim : CosimAim) (gives : File → Given) (a b : Answer) → MeansCosim limit aim gives a → MeansCosim limit aim gives b → a ≡ b

-- a design to which data give an environment has a report, and a dump
abbrev pub TextsMeanSomething : Type 0
TextsMeanSomething =
    (aim : CosimAim) (text bytes : List ℕ) (limit : ℕ) (design : DesignTree) (env : Environment) → IsDesignOf text design → GivesEnvironment design bytes env
    → (at : Option ℕ) × (report : List ℕ) × HasSimulated aim text bytes limit at report

-- a text that is refused has no design, and is refused with one fault
abbrev pub RefusedTextsHaveNoDesign : Type 0
RefusedTextsHaveNoDesign = (text : List ℕ) (fault : VerilogFault) (design : DesignTree) → IsRefusedText text fault → IsDesignOf text design → ⊥
