use Rattle.std.proofs.Common.{arith}
use Rattle.std.proofs.lemmas.Result.{IfOk-weaker}
use Rattle.tapa_base.specs.Kinds.{bits_of}
use Rattle.vlog_tree.specs.declared.tree.Value.TheVariants.{Choose}
use Rattle.hw_lines.specs.Drivers.{one}
use Rattle.hw_expressions.proofs.Grown.{three_operands}
use Rattle.hw_expressions.proofs.wires.chosen.Goals as goal

pub returns : goal.returns
returns c =
    IfOk-weaker c.with_drivers.result _ _
    (λ r h old second third C D E g f l.
    three_operands old second third c.args.draft.now c.with_drivers.new.draft c.args.at.now c.in_ok-next.next c.in_ok-count.count c.args.test c.args.yes c.args.no r c.in_ok-drivers.drivers.items
    (one (bits_of c.args.kind) (Choose C.atom D.atom E.atom)) C D E h (omega (arith, c.in_ok-count.ensures, c.in_ok-branches.ensures)) c.in_ok-next.ensures.front c.in_ok-next.ensures.first g f l
    (cc (c.in_ok-drivers.ensures, c.bits.ensures.value, c.choose-value.ensures, c.in_ok-copy.ensures, g.atom, f.atom, l.atom)))
    c.with_drivers.ensures
