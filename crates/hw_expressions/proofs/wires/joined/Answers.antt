use Rattle.std.proofs.lemmas.Result.{IfOk-weaker}
use Rattle.vlog_tree.specs.declared.tree.Value.TheVariants.{Binary}
use Rattle.hw_lines.specs.Drivers.{one}
use Rattle.hw_expressions.proofs.Grown.{two_operands}
use Rattle.hw_expressions.proofs.wires.joined.Goals as goal

pub returns : goal.returns
returns c =
    IfOk-weaker c.with_drivers.result _ _
    (λ r h old second C D g f.
    two_operands old second c.args.draft.now c.with_drivers.new.draft c.args.at.now c.in_ok-next.next c.in_ok-count.count c.args.left c.args.right r c.in_ok-drivers.drivers.items
    (one 1 (Binary C.atom c.args.op D.atom)) C D h c.in_ok-count.ensures c.in_ok-next.ensures.front c.in_ok-next.ensures.first g f
    (cc (c.in_ok-drivers.ensures, c.binary-value.ensures, c.in_ok-copy.ensures, g.atom, f.atom)))
    c.with_drivers.ensures
