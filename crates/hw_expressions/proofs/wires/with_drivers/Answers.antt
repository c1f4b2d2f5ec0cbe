use Rattle.std.proofs.Common.{ap, ◌∙◌, arith}
use Rattle.hw_lines.specs.Drivers.{last_of}
use Rattle.hw_expressions.proofs.Grown.{behind_grows}
use Rattle.hw_expressions.proofs.wires.with_drivers.Goals as goal

pub returns : goal.returns
returns c =
    λ old elements k p e. behind_grows old c.args.draft.now c.add_wires.new.draft _ c.args.at.now.front.now k c.args.at.now.first elements c.args.count c.args.drivers.items c.args.before.now p c.in_ok-add_wires.ensures e
    (c.in_ok-atom.ensures ∙ ap (λ xs. last_of c.args.at.now.front.now c.args.at.now.first xs c.args.before.now) c.deref.ensures.value)
    (omega (arith, c.args.drivers.ok.0))
