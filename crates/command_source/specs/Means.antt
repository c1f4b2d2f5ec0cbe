-- How commands read a source, and data for a program or a design.
use Rattle.std.specs.Prelude.{◌≡◌, ℕ, List}
use Rattle.serde_json.specs.Data.{Data as Json}
use Rattle.tapa_base.specs.declared.shape.Shape.{Shape}
use Rattle.tapa_base.specs.declared.text.Place.{Place}
use Rattle.tapa_syntax.specs.declared.program.Program.{Program}
use Rattle.run_data.specs.Answer.{IsFirstFault}
use Rattle.run_data.specs.Data.{IsJson}
use Rattle.command_answers.specs.Answer.{Answer, Reads}
use Rattle.command_answers.specs.Files.{Given}
use Rattle.command_answers.specs.Refusal as refusal
use Rattle.command_answers.specs.Refusal.{Refusal, DataFault, NotJson, Faulty}
use Rattle.command_answers.specs.declared.file.File.TheVariants as role
use Rattle.command_answers.specs.declared.source.SourceCode.{SourceCode}
use Rattle.command_source.specs.Source.{IsProgramOf, IsRefusedSource}

-- a source is refused where and by the rule that it breaks
abbrev pub IsSourceFault : List ℕ → List ℕ → Refusal → Type 0
IsSourceFault top text why = (place : Place) × (code : SourceCode) × IsRefusedSource text top place code × (why ≡ refusal.Source place code)

-- a step that reads a source
abbrev pub ReadsSource : List ℕ → Given → (Program → Answer → Type 0) → Answer → Type 0
ReadsSource top given Then = Reads role.Source given (IsSourceFault top) (λ text program. IsProgramOf text top program) Then

-- a text has this fault, and none before it, as data for a shape of which this holds
abbrev pub HasFault : (Shape → Type 0) → List ℕ → DataFault → Type 0
HasFault Of bytes NotJson = (file : Json) → IsJson bytes file → ⊥
HasFault Of bytes (Faulty fault) = (shape : Shape) × Of shape × IsFirstFault bytes shape fault

-- data are refused for their first fault
abbrev pub IsDataFault : (Shape → Type 0) → List ℕ → Refusal → Type 0
IsDataFault Of bytes why = (fault : DataFault) × HasFault Of bytes fault × (why ≡ refusal.Data fault)

-- a step that reads data
abbrev pub ReadsData : {A : Type 0} → (Shape → Type 0) → Given → (List ℕ → A → Type 0) → (A → Answer → Type 0) → Answer → Type 0
ReadsData Of given Gives Then = Reads role.Data given (IsDataFault Of) Gives Then
