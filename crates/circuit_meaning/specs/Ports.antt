-- The ports of the top of a program's circuit: its scalars, memories and streams in order, each by its label and its bits.
use Rattle.std.specs.Prelude.{ℕ, ◌+◌, List, map}
use Rattle.tapa_base.specs.declared.kind.Kind.{Kind}
use Rattle.tapa_base.specs.declared.shape.Port.{Port}
use Rattle.tapa_base.specs.Kinds.{bits_of}
use Rattle.tapa_syntax.specs.declared.program.Memory.{Memory}
use Rattle.tapa_syntax.specs.declared.program.Program.{Program}
use Rattle.tapa_syntax.specs.declared.program.Scalar.{Scalar}
use Rattle.tapa_syntax.specs.declared.program.Stream.{Stream}

-- the bits of a token: those of its datum, and one above them that marks the end of a transaction
abbrev pub token_bits : Kind → ℕ
token_bits k = bits_of k + 1

-- the ports of a program's scalars
abbrev pub scalar_ports : Program → List Port
scalar_ports program = map (λ (c : Scalar). record { name = c.name; bits = bits_of c.kind }) program.scalars.items

-- the ports of a program's memories
abbrev pub memory_ports : Program → List Port
memory_ports program = map (λ (m : Memory). record { name = m.name; bits = bits_of m.kind }) program.memories.items

-- the ports of a program's streams
abbrev pub stream_ports : Program → List Port
stream_ports program = map (λ (r : Stream). record { name = r.label; bits = token_bits r.kind }) program.streams.items
