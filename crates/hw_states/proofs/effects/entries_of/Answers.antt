use Rattle.std.proofs.Common.{◌≡◌, ◌++◌, sym, ap, ◌∙◌, arith}
use Rattle.hw_build.specs.Scope.{each}
use Rattle.hw_lines.specs.Shape.{state_count}
use Rattle.hw_lines.specs.Effects.{effect}
use Rattle.hw_nets.proofs.Grows.{each_next}
use Rattle.hw_nets.specs.Shapes.{form}
use Rattle.hw_states.proofs.effects.entries_of.Goals as goal

pub loop-k-preserved : goal.loop-k-preserved
loop-k-preserved c =
    let f = effect (form c.args.machine.now.shape) c.args.choice in
    (c.in_ok-add_effect.ensures ∙ ap (λ xs. xs ++ f c.loop-k.k) c.loop-k.invariant.0 ∙ sym (each_next f c.loop-k.k), c.loop-k.invariant.1)

pub returns : goal.returns
returns c =
    let S = form c.args.machine.now.shape in
    let all : c.loop-k.k ≡ state_count S = omega (arith, c.in_ok-count.ensures) in
    c.loop-k.invariant.0 ∙ ap (each (effect S c.args.choice)) all

pub add_effect-requires-clause-first : goal.add_effect-requires-clause-first
add_effect-requires-clause-first c = c.loop-k.invariant.1
