use Rattle.std.proofs.Common.{◌≡◌, map, take}
use Rattle.tapa_syntax.specs.declared.program.Scalar.{Scalar}
use Rattle.tapa_syntax.specs.Shapes.{port_of}
use Rattle.tapa_syntax.proofs.shape.scalar_ports.Given as goal

abbrev pub invariant-loop-scalar : goal.invariant-loop-scalar
invariant-loop-scalar l = l.ports.items ≡ map (λ (c : Scalar). port_of c.name c.kind) (take l.scalar-index l.scalars)
