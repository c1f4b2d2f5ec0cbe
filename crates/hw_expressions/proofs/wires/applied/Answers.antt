use Rattle.std.proofs.Common.{◌≡◌, ◌+◌, ap, ◌∙◌, arith}
use Rattle.std.proofs.lemmas.Result.{IfOk-weaker}
use Rattle.hw_lines.specs.Drivers.{operation}
use Rattle.hw_expressions.proofs.Grown.{two_operands}
use Rattle.hw_expressions.proofs.wires.applied.Goals as goal

pub returns : goal.returns
returns c =
    IfOk-weaker c.with_drivers.result _ _
    (λ r h old second C D g f.
    let at = c.args.at.now in
    let next = c.in_ok-next.next in
    let o = c.args.operator in
    let n : next.first ≡ at.first + (C.count + D.count) = omega (arith, g.count, f.count, c.in_ok-next.ensures.first, c.in_ok-count.ensures) in
    two_operands old second c.args.draft.now c.with_drivers.new.draft at next c.in_ok-count.count c.args.left c.args.right r c.in_ok-drivers.drivers.items
    (operation at.front.now (at.first + (C.count + D.count)) o.op o.kind o.asked C.atom D.atom) C D h c.in_ok-count.ensures c.in_ok-next.ensures.front c.in_ok-next.ensures.first g f
    (c.in_ok-drivers.ensures ∙ ap (λ x. operation x next.first o.op o.kind o.asked c.args.left.atom c.args.right.atom) c.in_ok-next.ensures.front
    ∙ ap (λ i. operation at.front.now i o.op o.kind o.asked c.args.left.atom c.args.right.atom) n
    ∙ ap (λ a. operation at.front.now (at.first + (C.count + D.count)) o.op o.kind o.asked a c.args.right.atom) g.atom
    ∙ ap (λ b. operation at.front.now (at.first + (C.count + D.count)) o.op o.kind o.asked C.atom b) f.atom))
    c.with_drivers.ensures
