use Rattle.std.proofs.Common.{◌≡◌, ◌≤◌, Some, length, ap, subst, ◌∙◌, arith}
use Rattle.std.specs.Prelude.{slice_get}
use Rattle.tapa_base.proofs.Lists.{got_index}
use Rattle.cycle_sim.specs.Wholes.{token_on}
use Rattle.cycle_sim.proofs.Asked.{carried_one, no_stream, stream_bits}
use Rattle.cycle_sim.proofs.parts.carried.Goals as goal
use Rattle.cycle_sim.proofs.parts.carried.Goals.{In-Some}

got : (c : In-Some) → slice_get c.args.parts.now.around.streams.items c.args.place ≡ Some c.in-Some.s.now
got c = subst (λ l. slice_get l c.args.place ≡ Some c.in-Some.s.now) c.deref.ensures.value (got_index c.deref.result.now c.args.place c.in-Some.s.now c.in-Some.ensures.lookup.3.0 c.in-Some.ensures.lookup.1)

pub carries-requires-clause-low : goal.carries-requires-clause-low
carries-requires-clause-low c = (stream_bits c.args.parts.now c.args.state.now c.requires c.args.place c.in-Some.s.now (got (goal.at.carries-requires-clause-low c).In-Some)).0

pub carries-requires-clause-high : goal.carries-requires-clause-high
carries-requires-clause-high c = (stream_bits c.args.parts.now c.args.state.now c.requires c.args.place c.in-Some.s.now (got (goal.at.carries-requires-clause-high c).In-Some)).1

pub returns-else-state-eq0 : goal.returns-else-state-eq0
returns-else-state-eq0 c =
    carried_one c.args.parts.now c.args.state.now c.requires c.args.place c.carries.result c.in-Some.s.now (got (goal.at.returns-else-state-eq0 c).In-Some)
    (c.carries.ensures ∙ ap (λ l. token_on l c.in-Some.s.now) c.deref-else-state-eq0.ensures.value) (let ne = c.if-state-eq0.false in omega arith)

pub returns-in-None : goal.returns-in-None
returns-in-None c = no_stream c.args.parts.now c.args.state.now c.requires c.args.place (subst (λ l. length l ≤ c.args.place) c.deref.ensures.value c.in-None.ensures.lookup.3)
