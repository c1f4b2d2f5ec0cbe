use Rattle.std.proofs.Common.{◌+◌, ap, ◌∙◌}
use Rattle.std.proofs.lemmas.Result.{IfOk-weaker}
use Rattle.hw_lines.specs.Drivers.{conversion}
use Rattle.hw_expressions.proofs.Grown.{one_operand}
use Rattle.hw_expressions.proofs.wires.converted.Goals as goal

pub returns : goal.returns
returns c =
    IfOk-weaker c.with_drivers.result _ _
    (λ r h old C g.
    let at = c.args.at.now in
    let next = c.in_ok-next.next in
    one_operand old c.args.draft.now c.with_drivers.new.draft at next c.args.operand r c.in_ok-drivers.drivers.items
    (conversion at.front.now (at.first + C.count) c.args.source c.args.target C.atom) C h c.in_ok-next.ensures.front c.in_ok-next.ensures.first g
    (c.in_ok-drivers.ensures ∙ ap (λ x. conversion x next.first c.args.source c.args.target c.args.operand.atom) c.in_ok-next.ensures.front
    ∙ ap (λ i. conversion at.front.now i c.args.source c.args.target c.args.operand.atom) (c.in_ok-next.ensures.first ∙ ap (λ i. at.first + i) g.count)
    ∙ ap (λ a. conversion at.front.now (at.first + C.count) c.args.source c.args.target a) g.atom))
    c.with_drivers.ensures
