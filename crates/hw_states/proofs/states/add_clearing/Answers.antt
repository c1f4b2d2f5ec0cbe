use Rattle.std.proofs.Common.{ap, ◌∙◌}
use Rattle.hw_build.specs.Elements.{with_all}
use Rattle.hw_lines.specs.States.{net, into_of, counting}
use Rattle.hw_lines.specs.declared.nets.Net.TheVariants.{Variable}
use Rattle.hw_nets.proofs.Grows.{both}
use Rattle.hw_nets.specs.Shapes.{form}
use Rattle.hw_states.proofs.states.add_clearing.Goals as goal

pub returns : goal.returns
returns c =
    let S = form c.args.shape.now in
    both c.args.draft.now c.add_into.new.draft c.add_counting.new.draft (into_of S c.args.k c.args.array (net (Variable c.args.counter)) 32) (counting S c.args.k c.args.array c.args.counter)
    (c.in_ok-add_into.ensures ∙ ap (λ a. with_all c.args.draft.now (into_of S c.args.k c.args.array a 32)) c.in_ok-index.ensures) c.in_ok-add_counting.ensures
