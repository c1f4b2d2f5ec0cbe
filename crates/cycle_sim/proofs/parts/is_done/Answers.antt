use Rattle.std.proofs.Common.{ap, ◌∙◌}
use Rattle.cycle_sim.specs.Steps.{is_one}
use Rattle.cycle_sim.proofs.Asked.{done_is}
use Rattle.cycle_sim.proofs.parts.is_done.Goals as goal

pub returns-then-state-gt0 : goal.returns-then-state-gt0
returns-then-state-gt0 c =
    let p = c.args.parts.now in
    done_is p c.args.state.now c.requires c.is_one.result c.if-state-gt0.true (c.is_one.ensures ∙ ap (λ l. is_one l p.around.done) c.deref.ensures.value)
