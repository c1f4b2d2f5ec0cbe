-- The shape of a program, and the inputs that fit it.
use Rattle.std.proofs.Common.{◌≡◌, ℕ, List, length, map, Some, refl, ap, ◌∙◌}
use Rattle.std.specs.Prelude.{slice_get, option_map, Vec}
use Rattle.std.specs.declared.alloc.Global.{Global}
use Rattle.std.proofs.lemmas.List.{length-map}
use Rattle.tapa_base.specs.Kinds.{bits_of}
use Rattle.tapa_base.specs.declared.shape.Port.{Port}
use Rattle.tapa_base.specs.declared.shape.Shape.{Shape}
use Rattle.tapa_syntax.specs.declared.program.Memory.{Memory}
use Rattle.tapa_syntax.specs.declared.program.Program.{Program}
use Rattle.tapa_syntax.specs.declared.program.Scalar.{Scalar}
use Rattle.kahn_model.specs.Fits.{FitsInput}
use Rattle.tapa_base.specs.Fits.{Fits}
use Rattle.run_data.specs.Answer.{bits_of_ports, IsDataOf, IsDataCause}
use Rattle.run_data.specs.declared.data.Data.{Data}
use Rattle.run_data.specs.declared.data.DataFault.{DataFault}
use Rattle.run_data.specs.declared.data.DataFault.TheVariants.{J1, J2, J3, J4, OutOfMemory}
use Rattle.run_data.specs.Data.{Misshapen, Misfit, Oversized}
use Rattle.command_answers.specs.Meaning.{data_end}
use Rattle.command_answers.specs.Refusal.{NotJson, Faulty}
use Rattle.command_answers.specs.Steps.{Fails}
use Rattle.command_source.specs.Inputs.{GivesValues, IsUnfitBy}
use Rattle.command_source.specs.Means.{IsDataFault}
use Rattle.tapa_syntax.specs.Shapes.{port_of, IsShapeOf}
use Rattle.tapa_base.proofs.Got.{got_map as get_map}

module _ (program : Program) (shape : Shape) (is : IsShapeOf program shape) (given : Data) (fits : Fits (bits_of_ports shape.scalars.items) (bits_of_ports shape.memories.items) given.scalars.items (map (λ (v : Vec ℕ Global). v.items) given.memories.items)) where
  abbrev width : Port → ℕ
  width port = port.bits

  scalar_bits : (x : ℕ) (c : Scalar) → slice_get program.scalars.items x ≡ Some c → slice_get (bits_of_ports shape.scalars.items) x ≡ Some (bits_of c.kind)
  scalar_bits x c at =
      get_map width shape.scalars.items x (port_of c.name c.kind)
      (ap (λ (l : List Port). slice_get l x) is.scalars ∙ get_map (λ (s : Scalar). port_of s.name s.kind) program.scalars.items x c at)

  memory_bits : (m : ℕ) (c : Memory) → slice_get program.memories.items m ≡ Some c → slice_get (bits_of_ports shape.memories.items) m ≡ Some (bits_of c.kind)
  memory_bits m c at =
      get_map width shape.memories.items m (port_of c.name c.kind)
      (ap (λ (l : List Port). slice_get l m) is.memories ∙ get_map (λ (s : Memory). port_of s.name s.kind) program.memories.items m c at)

  -- data that fit the shape of a program fit the program
  pub fits_program : FitsInput program given.scalars.items (map (λ (v : Vec ℕ Global). v.items) given.memories.items)
  fits_program = record {
    as_many_scalars = fits.as_many_scalars ∙ length-map shape.scalars.items width ∙ ap length is.scalars ∙ length-map program.scalars.items (λ (c : Scalar). port_of c.name c.kind);
    as_many_memories = fits.as_many_memories ∙ length-map shape.memories.items width ∙ ap length is.memories ∙ length-map program.memories.items (λ (c : Memory). port_of c.name c.kind);
    scalars_fit = λ x c at. fits.scalars_fit x (bits_of c.kind) (scalar_bits x c at);
    cells_fit = λ m c at. fits.cells_fit m (bits_of c.kind) (memory_bits m c at);
  }

pub gives_values : (program : Program) (shape : Shape) → IsShapeOf program shape → (text : List ℕ) (given : Data) → IsDataOf text shape given → GivesValues program text (record { scalars = given.scalars.items; memories = map (λ (v : Vec ℕ Global). v.items) given.memories.items })
gives_values program shape is text given d = record {
  shape = shape;
  is_shape = is;
  file = d.file;
  is_json = d.is_json;
  faultless = d.faultless;
  scalars = d.scalars;
  memories = d.memories;
}

-- the fault of a text for the shape of a program is one for the program
pub unfit : (program : Program) (shape : Shape) → IsShapeOf program shape → (text : List ℕ) (fault : DataFault) → IsDataCause text shape fault → IsUnfitBy program text fault
unfit program shape is text J1 h = h
unfit program shape is text (J2 key) h = (shape, is, h)
unfit program shape is text (J3 key) h = (shape, is, h)
unfit program shape is text (J4 key) h = (shape, is, h)
unfit program shape is text OutOfMemory h = tt

-- and so of its text, as data are refused for it
pub unfit_data : (shape : Shape) (text : List ℕ) (fault : DataFault) → IsDataCause text shape fault → Fails (IsDataFault (λ (s : Shape). s ≡ shape) text) (data_end fault)
unfit_data shape text J1 h = (NotJson, h, refl)
unfit_data shape text (J2 key) h = (Faulty (Misshapen key.items), (shape, refl, h), refl)
unfit_data shape text (J3 key) h = (Faulty (Misfit key.items), (shape, refl, h), refl)
unfit_data shape text (J4 key) h = (Faulty (Oversized key.items), (shape, refl, h), refl)
unfit_data shape text OutOfMemory h = tt
