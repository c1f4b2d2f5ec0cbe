use Rattle.std.proofs.Common.{rules, arith}
use Rattle.std.proofs.lemmas.Grind.{common_steps}
use Rattle.tapa_parse_expression.proofs.Turns.{one_more}
use Rattle.stream_arrays.specs.Forms as spec
use Rattle.stream_arrays.proofs.declaration.names.Goals as goal

pub returns-in_default : goal.returns-in_default
returns-in_default c =
    let e = one_more (λ n. spec.names_from c.args.text.now n c.loop-turn.names.items c.loop-turn.rest.now) _ c.loop-turn.turn c.loop-turn-test.true c.loop-turn.invariant in
    first_of (search rules, grind (arith, common_steps))

pub returns-then-not-is_named : goal.returns-then-not-is_named
returns-then-not-is_named c =
    let e = one_more (λ n. spec.names_from c.args.text.now n c.loop-turn.names.items c.loop-turn.rest.now) _ c.loop-turn.turn c.loop-turn-test.true c.loop-turn.invariant in
    first_of (search rules, grind (arith, common_steps))

pub returns-in_default-behind_label : goal.returns-in_default-behind_label
returns-in_default-behind_label c =
    let e = one_more (λ n. spec.names_from c.args.text.now n c.loop-turn.names.items c.loop-turn.rest.now) _ c.loop-turn.turn c.loop-turn-test.true c.loop-turn.invariant in
    first_of (search rules, grind (arith, common_steps))

pub returns-then-is : goal.returns-then-is
returns-then-is c =
    let e = one_more (λ n. spec.names_from c.args.text.now n c.loop-turn.names.items c.loop-turn.rest.now) _ c.loop-turn.turn c.loop-turn-test.true c.loop-turn.invariant in
    first_of (search rules, grind (arith, common_steps))

pub returns-then-not-is : goal.returns-then-not-is
returns-then-not-is c =
    let e = one_more (λ n. spec.names_from c.args.text.now n c.loop-turn.names.items c.loop-turn.rest.now) _ c.loop-turn.turn c.loop-turn-test.true c.loop-turn.invariant in
    first_of (search rules, grind (arith, common_steps))

pub loop-turn-preserved : goal.loop-turn-preserved
loop-turn-preserved c =
    let e = one_more (λ n. spec.names_from c.args.text.now n c.loop-turn.names.items c.loop-turn.rest.now) _ c.loop-turn.turn c.loop-turn-test.true c.loop-turn.invariant in
    first_of (search rules, grind (arith, common_steps))
