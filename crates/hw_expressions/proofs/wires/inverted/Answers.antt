use Rattle.std.proofs.lemmas.Result.{IfOk-weaker}
use Rattle.tapa_base.specs.Kinds.{bits_of}
use Rattle.vlog_tree.specs.declared.tree.Value.TheVariants.{Invert}
use Rattle.hw_lines.specs.Drivers.{one}
use Rattle.hw_expressions.proofs.Grown.{one_operand}
use Rattle.hw_expressions.proofs.wires.inverted.Goals as goal

pub returns : goal.returns
returns c =
    IfOk-weaker c.with_drivers.result _ _
    (λ r h old C g.
    one_operand old c.args.draft.now c.with_drivers.new.draft c.args.at.now c.in_ok-next.next c.args.operand r c.in_ok-drivers.drivers.items (one (bits_of c.args.kind) (Invert C.atom)) C h c.in_ok-next.ensures.front c.in_ok-next.ensures.first g
    (cc (c.in_ok-drivers.ensures, c.bits.ensures.value, c.in_ok-copy.ensures, g.atom)))
    c.with_drivers.ensures
