-- What the answers of `read_data` say.
use Rattle.std.specs.Prelude.{◌≡◌, ℕ, List, [], map, Some, ⊤}
use Rattle.serde_json.specs.Data.{Data as Json}
use Rattle.tapa_base.specs.declared.shape.Port.{Port}
use Rattle.tapa_base.specs.declared.shape.Shape.{Shape}
use Rattle.run_data.specs.Data.{IsJson, Fault, Misshapen, Misfit, Oversized, faults, scalars_of, memories_of, waits_of}
use Rattle.run_data.specs.Seen.{first}
use Rattle.run_data.specs.declared.data.Data.{Data}
use Rattle.run_data.specs.declared.data.DataFault.{DataFault}
use Rattle.run_data.specs.declared.data.DataFault.TheVariants.{J1, J2, J3, J4, OutOfMemory}

-- the text is JSON and has no fault, and the data are what it gives
pub record IsDataOf (text : List ℕ) (shape : Shape) (given : Data) : Type 0 where
  pub file : Json
  pub is_json : IsJson text file
  pub faultless : faults shape file ≡ []
  pub scalars : given.scalars.items ≡ scalars_of shape file
  pub memories : map (λ cells. cells.items) given.memories.items ≡ memories_of shape file
  pub waits : map (λ ready. ready.items) given.waits.items ≡ waits_of shape file

-- the text is JSON, and this is its first fault
pub record IsFirstFault (text : List ℕ) (shape : Shape) (fault : Fault) : Type 0 where
  pub file : Json
  pub is_json : IsJson text file
  pub first : first (faults shape file) ≡ Some fault

-- what a refusal says; want of memory says nothing
abbrev pub IsDataCause : List ℕ → Shape → DataFault → Type 0
IsDataCause text shape J1 = (file : Json) → IsJson text file → ⊥
IsDataCause text shape (J2 key) = IsFirstFault text shape (Misshapen key.items)
IsDataCause text shape (J3 key) = IsFirstFault text shape (Misfit key.items)
IsDataCause text shape (J4 key) = IsFirstFault text shape (Oversized key.items)
IsDataCause text shape OutOfMemory = ⊤

-- how many bits each input has
abbrev pub bits_of_ports : List Port → List ℕ
bits_of_ports ports = map (λ (port : Port). port.bits) ports
