-- What the parameters of a program's top task ask of data.
use Rattle.std.specs.Prelude.{◌≡◌, ℕ, List, map}
use Rattle.tapa_base.specs.declared.kind.Kind.{Kind}
use Rattle.tapa_base.specs.declared.shape.Port.{Port}
use Rattle.tapa_base.specs.declared.shape.Shape.{Shape}
use Rattle.tapa_base.specs.Kinds.{bits_of}
use Rattle.tapa_syntax.specs.declared.program.Memory.{Memory}
use Rattle.tapa_syntax.specs.declared.program.Program.{Program}
use Rattle.tapa_syntax.specs.declared.program.Scalar.{Scalar}

abbrev pub port_of : List ℕ → Kind → Port
port_of name kind = record { name = name; bits = bits_of kind }

-- a name and a number of bits for each scalar and for each memory
pub record IsShapeOf (program : Program) (shape : Shape) : Type 0 where
  pub scalars : shape.scalars.items ≡ map (λ (c : Scalar). port_of c.name c.kind) program.scalars.items
  pub memories : shape.memories.items ≡ map (λ (c : Memory). port_of c.name c.kind) program.memories.items
