-- A source has one meaning: where its program lies in memory is no matter.
use Rattle.std.specs.Prelude.{◌≡◌, ℕ, List}
use Rattle.tapa_base.specs.declared.text.Place.{Place}
use Rattle.tapa_syntax.specs.declared.program.Program.{Program}
use Rattle.tapa_syntax.specs.Flat.{flat_program}
use Rattle.net_core.specs.Bounded.{Values}
use Rattle.command_answers.specs.Answer.{Answer}
use Rattle.command_answers.specs.Files.{Given, Bytes}
use Rattle.command_answers.specs.Refusal.{DataFault}
use Rattle.command_answers.specs.declared.file.File.{File}
use Rattle.command_answers.specs.declared.file.File.TheVariants as role
use Rattle.command_answers.specs.declared.source.SourceCode.{SourceCode}
use Rattle.command_source.specs.Inputs.{GivesValues, HasDataFault}
use Rattle.command_source.specs.Source.{IsProgramOf, IsRefusedSource, MeansNothing}
use Rattle.command_run.specs.Means.{MeansRun}

-- the program of a source, and the values that the data give it
pub record IsAsked (text top bytes : List ℕ) (program : Program) (values : Values) : Type 0 where
  pub means : IsProgramOf text top program
  pub gives : GivesValues program bytes values

-- the programs of a source are one as plain data
abbrev pub SourcesHaveOneProgram : Type 0
SourcesHaveOneProgram = (text top : List ℕ) (p q : Program) → IsProgramOf text top p → IsProgramOf text top q → flat_program p ≡ flat_program q

-- data give the programs of a source the same values
abbrev pub SourcesHaveOneInput : Type 0
SourcesHaveOneInput = (text top bytes : List ℕ) (p q : Program) (v w : Values) → IsAsked text top bytes p v → IsAsked text top bytes q w → v ≡ w

-- and have one fault for them, if they have any
abbrev pub SourcesHaveOneDataFault : Type 0
SourcesHaveOneDataFault =
    (text top bytes : List ℕ) (p q : Program) (fault other : DataFault) → IsProgramOf text top p → IsProgramOf text top q → HasDataFault p bytes fault → HasDataFault q bytes other
    → fault ≡ other

-- with data and under a limit on ticks a source has at most one meaning
abbrev pub SourcesMeanOneThing : Type 0
SourcesMeanOneThing = (top : List ℕ) (limit : ℕ) (gives : File → Given) (a b : Answer) → MeansRun top limit gives a → MeansRun top limit gives b → a ≡ b

-- and where it has a program to which the data give values it runs in some way
abbrev pub SourcesMeanSomething : Type 0
SourcesMeanSomething =
    (text top bytes : List ℕ) (limit : ℕ) (p : Program) (v : Values) → IsAsked text top bytes p v → (gives : File → Given) → gives role.Source ≡ Bytes text
    → gives role.Data ≡ Bytes bytes → (a : Answer) × MeansRun top limit gives a

-- where a rule refuses it it has no program
abbrev pub RefusedSourcesMeanNothing : Type 0
RefusedSourcesMeanNothing = (text top : List ℕ) (place : Place) (code : SourceCode) → IsRefusedSource text top place code → MeansNothing text top

-- and it is refused at one place, by one rule
abbrev pub SourcesHaveOneRefusal : Type 0
SourcesHaveOneRefusal =
    (text top : List ℕ) (place there : Place) (code other : SourceCode) → IsRefusedSource text top place code → IsRefusedSource text top there other → (place ≡ there) × (code ≡ other)
