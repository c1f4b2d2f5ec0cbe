use Rattle.std.proofs.Common.{List, map, ap, ◌∙◌}
use Rattle.tapa_syntax.specs.declared.program.Memory.{Memory}
use Rattle.tapa_syntax.specs.declared.program.Scalar.{Scalar}
use Rattle.tapa_syntax.specs.Shapes.{port_of}
use Rattle.tapa_syntax.proofs.Shapes.{scalars_few, memories_few}
use Rattle.tapa_syntax.proofs.program.Program.shape.Goals as goal

pub returns-clause-scalars : goal.returns-clause-scalars
returns-clause-scalars c =
    scalars_few c.args.self.now.scalars.items c.in_ok-scalars.scalars.items (c.in_ok-scalars.ensures ∙ ap (λ (l : List Scalar). map (λ (s : Scalar). port_of s.name s.kind) l) c.deref.ensures.value)

pub returns-clause-memories : goal.returns-clause-memories
returns-clause-memories c =
    memories_few c.args.self.now.memories.items c.in_ok-memories.memories.items (c.in_ok-memories.ensures ∙ ap (λ (l : List Memory). map (λ (s : Memory). port_of s.name s.kind) l) c.deref-2.ensures.value)
