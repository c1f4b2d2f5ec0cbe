-- No port of a program's shape has more than 64 bits.
use Rattle.std.proofs.Common.{◌≡◌, ◌≤◌, ℕ, zero, suc, List, [], ◌∷◌, map, sym, subst, arith}
use Rattle.std.specs.Prelude.{All}
use Rattle.tapa_base.specs.declared.kind.Kind.{Kind}
use Rattle.tapa_base.specs.declared.kind.Kind.TheVariants as kind
use Rattle.tapa_base.specs.Kinds.{bits_of}
use Rattle.tapa_base.specs.declared.shape.Port.{Port}
use Rattle.tapa_syntax.specs.declared.program.Memory.{Memory}
use Rattle.tapa_syntax.specs.declared.program.Scalar.{Scalar}
use Rattle.tapa_syntax.specs.Shapes.{port_of}
use Rattle.tapa_base.proofs.Tests.{few_bits}

abbrev FewBits : Port → Type 0
FewBits port = port.bits ≤ 64

few_scalars : (xs : List Scalar) → All FewBits (map (λ (c : Scalar). port_of c.name c.kind) xs)
few_scalars [] k d h = absurd (omega arith)
few_scalars (c ∷ xs) zero d h = few_bits c.kind
few_scalars (c ∷ xs) (suc k) d h = few_scalars xs k d (omega arith)

few_memories : (xs : List Memory) → All FewBits (map (λ (c : Memory). port_of c.name c.kind) xs)
few_memories [] k d h = absurd (omega arith)
few_memories (c ∷ xs) zero d h = few_bits c.kind
few_memories (c ∷ xs) (suc k) d h = few_memories xs k d (omega arith)

pub scalars_few : (xs : List Scalar) (ports : List Port) → ports ≡ map (λ (c : Scalar). port_of c.name c.kind) xs → All FewBits ports
scalars_few xs ports is = subst (λ (l : List Port). All FewBits l) (sym is) (few_scalars xs)

pub memories_few : (xs : List Memory) (ports : List Port) → ports ≡ map (λ (c : Memory). port_of c.name c.kind) xs → All FewBits ports
memories_few xs ports is = subst (λ (l : List Port). All FewBits l) (sym is) (few_memories xs)
