-- What a text of data gives a program: values for its top task's parameters, or a fault.
use Rattle.std.specs.Prelude.{◌≡◌, ℕ, List, [], ⊤}
use Rattle.serde_json.specs.Data.{Data as Json}
use Rattle.tapa_base.specs.declared.shape.Shape.{Shape}
use Rattle.tapa_syntax.specs.declared.program.Program.{Program}
use Rattle.tapa_syntax.specs.Shapes.{IsShapeOf}
use Rattle.run_data.specs.Data.{IsJson, Misshapen, Misfit, Oversized, faults, scalars_of, memories_of}
use Rattle.run_data.specs.declared.data.DataFault.{DataFault as FaultOfData}
use Rattle.run_data.specs.declared.data.DataFault.TheVariants.{J1, J2, J3, J4, OutOfMemory}
use Rattle.net_core.specs.Bounded.{Values}
use Rattle.command_answers.specs.Refusal.{DataFault, NotJson, Faulty}
use Rattle.command_source.specs.Means.{HasFault}

-- the text is JSON without a fault for the program, and gives these values
pub record GivesValues (program : Program) (text : List ℕ) (values : Values) : Type 0 where
  pub shape : Shape
  pub is_shape : IsShapeOf program shape
  pub file : Json
  pub is_json : IsJson text file
  pub faultless : faults shape file ≡ []
  pub scalars : values.scalars ≡ scalars_of shape file
  pub memories : values.memories ≡ memories_of shape file

-- the text has this fault for the program, and no fault before it
abbrev pub HasDataFault : Program → List ℕ → DataFault → Type 0
HasDataFault program text fault = HasFault (IsShapeOf program) text fault

-- why a text gives a program no values; want of memory says nothing of it
abbrev pub IsUnfitBy : Program → List ℕ → FaultOfData → Type 0
IsUnfitBy program text J1 = HasDataFault program text NotJson
IsUnfitBy program text (J2 key) = HasDataFault program text (Faulty (Misshapen key.items))
IsUnfitBy program text (J3 key) = HasDataFault program text (Faulty (Misfit key.items))
IsUnfitBy program text (J4 key) = HasDataFault program text (Faulty (Oversized key.items))
IsUnfitBy program text OutOfMemory = ⊤
