use Rattle.std.proofs.Common.{List, [], ◌∷◌, refl, ap, ◌∙◌}
use Rattle.tapa_base.specs.declared.kind.Kind.TheVariants.{U64}
use Rattle.vlog_tree.specs.declared.tree.Atom.{Atom}
use Rattle.vlog_tree.specs.declared.tree.Atom.TheVariants.{Literal}
use Rattle.vlog_tree.specs.declared.tree.BinaryOp.TheVariants.{And, Less}
use Rattle.vlog_tree.specs.declared.tree.Value.TheVariants.{Binary}
use Rattle.hw_build.specs.Elements.{Element, Wire, with_all}
use Rattle.task_fsm.specs.Machine.{expression_of}
use Rattle.hw_lines.specs.declared.nets.Net.TheVariants.{At, ReadInside, ReadOn}
use Rattle.hw_lines.specs.Nets.{name}
use Rattle.hw_lines.specs.Shape.{array_cells}
use Rattle.hw_lines.specs.States.{net}
use Rattle.hw_lines.specs.Wires.{Compiled}
use Rattle.hw_lines.specs.Texts.{read_index}
use Rattle.hw_nets.proofs.Grows.{both}
use Rattle.hw_expressions.specs.Grown.{Grows}
use Rattle.hw_expressions.specs.Reads.{read_form}
use Rattle.hw_expressions.proofs.Grown.{same_start}
use Rattle.hw_nets.specs.Shapes.{form}
use Rattle.hw_task.proofs.reads.add_read.Goals as goal

pub returns-clause-draft : goal.returns-clause-draft
returns-clause-draft c =
    let r = c.args.read.now in
    let p = c.args.p in
    let k = c.args.k in
    let C : Compiled = read_index p k (read_form r) in
    let at = c.from_zero-at in
    let g : Grows c.args.draft.now c.compile.new.draft c.in_ok-wires.wires C =
    same_start _ _ c.in_ok-wires.wires _ _ U64 U64 (expression_of r.index.now) _ _ _ _ (at.ensures.front ∙ c.in_ok-front.ensures) refl refl at.ensures.first c.in_ok-wires.ensures in
    let wires : Atom → List Element =
    λ (a : Atom). Wire 1 (name (ReadInside k p)) (Binary a Less (Literal 64 (array_cells (form c.args.shape.now) r.array))) ∷ Wire 1 (name (ReadOn k p)) (Binary (net (At k)) And (net (ReadInside k p))) ∷ [] in
    both c.args.draft.now c.compile.new.draft c.add_inside.new.draft C.elements (wires C.atom) g.elements (c.in_ok-add_inside.ensures ∙ ap (λ a. with_all c.compile.new.draft (wires a)) g.atom)
