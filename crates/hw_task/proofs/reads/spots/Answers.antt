use Rattle.std.proofs.Common.{◌≡◌, ◌++◌, sym, ap, ◌∙◌, arith}
use Rattle.hw_build.specs.Scope.{each}
use Rattle.hw_lines.specs.Shape.{state_count}
use Rattle.hw_lines.specs.Effects.{effect}
use Rattle.hw_nets.proofs.Grows.{each_next}
use Rattle.hw_nets.specs.Entries.{entries_in}
use Rattle.hw_nets.specs.Shapes.{form}
use Rattle.hw_task.proofs.reads.spots.Goals as goal

pub loop-k-preserved : goal.loop-k-preserved
loop-k-preserved c =
    let f = effect (form c.args.shape.now) c.args.choice in
    c.in_ok-add_found.ensures ∙ ap (λ xs. xs ++ entries_in c.in_ok-entry.entry) c.loop-k.invariant ∙ ap (λ ys. each f c.loop-k.k ++ ys) c.in_ok-entry.ensures ∙ sym (each_next f c.loop-k.k)

pub returns : goal.returns
returns c =
    let S = form c.args.shape.now in
    let all : c.loop-k.k ≡ state_count S = omega (arith, c.in_ok-count.ensures) in
    c.loop-k.invariant ∙ ap (each (effect S c.args.choice)) all
