use Rattle.std.proofs.Common.{◌≡◌, map, take}
use Rattle.tapa_syntax.specs.declared.program.Memory.{Memory}
use Rattle.tapa_syntax.specs.Shapes.{port_of}
use Rattle.tapa_syntax.proofs.shape.memory_ports.Given as goal

abbrev pub invariant-loop-memory : goal.invariant-loop-memory
invariant-loop-memory l = l.ports.items ≡ map (λ (c : Memory). port_of c.name c.kind) (take l.memory-index l.memories)
