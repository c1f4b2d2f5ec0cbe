-- The values of a program, and the faults of its data, by its shape.
use Rattle.std.proofs.Common.{◌≡◌, ℕ, List, sym, subst}
use Rattle.tapa_base.specs.declared.shape.Shape.{Shape}
use Rattle.tapa_syntax.specs.declared.program.Program.{Program}
use Rattle.tapa_syntax.specs.Shapes.{IsShapeOf}
use Rattle.command_answers.specs.Refusal.{Refusal, NotJson, Faulty}
use Rattle.command_source.specs.Means.{IsDataFault}

-- a fault for the shape of a program is one for the program
pub fault_for : (program : Program) (shape : Shape) → IsShapeOf program shape → (bytes : List ℕ) (why : Refusal) → IsDataFault (λ (s : Shape). s ≡ shape) bytes why → IsDataFault (IsShapeOf program) bytes why
fault_for program shape is bytes why (NotJson, h, e) = (NotJson, h, e)
fault_for program shape is bytes why (Faulty fault, (s, same, first), e) = (Faulty fault, (s, subst (IsShapeOf program) (sym same) is, first), e)
