use Rattle.std.proofs.Common.{◌≡◌, ◌≤◌}
use Rattle.std.specs.Prelude.{All}
use Rattle.tapa_base.specs.declared.shape.Port.{Port}
use Rattle.tapa_base.specs.declared.shape.Shape.{Shape}
use Rattle.vlog_tree.specs.Environment.{shape_of}
use Rattle.vlog_tree.specs.Form.{ModuleTree}
use Rattle.vlog_design.specs.Designs.{TopOf}
use Rattle.command_cosim.proofs.DesignShapes.{map_if_ok, scalars_few, memories_few}
use Rattle.command_cosim.proofs.cosim.shape.Goals as goal

pub returns-clause-scalars : goal.returns-clause-scalars
returns-clause-scalars c =
    let design = c.args.design.now in
    let top = c.valid.ensures.0 in
    map_if_ok (λ (s : Shape). (m : ModuleTree) → TopOf design m → (s.scalars.items ≡ (shape_of m).scalars) × (s.memories.items ≡ (shape_of m).memories)) (λ (s : Shape). All (λ (port : Port). port.bits ≤ 64) s.scalars.items) c.shape.result
    (λ s h. scalars_few design.modules design.top top c.modules-modules.ensures.design c.valid.ensures.1 s.scalars.items (h top c.valid.ensures.1).0) c.shape.ensures

pub returns-clause-memories : goal.returns-clause-memories
returns-clause-memories c =
    let design = c.args.design.now in
    let top = c.valid.ensures.0 in
    map_if_ok (λ (s : Shape). (m : ModuleTree) → TopOf design m → (s.scalars.items ≡ (shape_of m).scalars) × (s.memories.items ≡ (shape_of m).memories)) (λ (s : Shape). All (λ (port : Port). port.bits ≤ 64) s.memories.items) c.shape.result
    (λ s h. memories_few design.modules design.top top c.modules-modules.ensures.design c.valid.ensures.1 s.memories.items (h top c.valid.ensures.1).1) c.shape.ensures
