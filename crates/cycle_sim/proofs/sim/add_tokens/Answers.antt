use Rattle.std.proofs.Common.{◌≡◌, ◌<◌, length, sym, ◌∙◌, arith, subst}
use Rattle.cycle_sim.specs.Simulators.{sim_of}
use Rattle.cycle_sim.proofs.Adding.{added_more, behind_more, lists_long}
use Rattle.cycle_sim.proofs.sim.add_tokens.Goals as goal

pub loop-i-preserved : goal.loop-i-preserved
loop-i-preserved c = (
  added_more (sim_of c.args.sim.now) c.args.tokens.now c.loop-i.tokens c.loop-i.i (omega arith) c.index-tokens-i.result c.add_token.new.tokens c.in_ok-add_token.ensures c.loop-i.invariant.0 c.loop-i.invariant.1,
  behind_more (sim_of c.args.sim.now) c.args.tokens.now c.loop-i.tokens c.loop-i.i (omega arith) c.index-tokens-i.result c.add_token.new.tokens c.in_ok-add_token.ensures c.loop-i.invariant.0 c.loop-i.invariant.1,
)

pub returns : goal.returns
returns c =
    let a : length c.loop-i.tokens ≡ length c.args.tokens.now = c.loop-i.auto.tokens in
    (lists_long c.loop-i.tokens ∙ a ∙ sym (lists_long c.args.tokens.now), λ i low. c.loop-i.invariant.0 i (let b = subst (λ n. i < n) (lists_long c.args.tokens.now) low in omega arith))
