use Rattle.std.proofs.Common.{map, rules, arith}
use Rattle.std.proofs.lemmas.Grind.{common_steps}
use Rattle.tapa_syntax.specs.Trees as view
use Rattle.tapa_parse_expression.specs.Reading as spec
use Rattle.tapa_parse_expression.specs.Reading.{chain, more_arguments, named}
use Rattle.tapa_parse_expression.proofs.Turns.{one_more}
use Rattle.tapa_parse_expression.proofs.Rows.{expression-Call}
use Rattle.tapa_base.proofs.Got.{map-push}
use Rattle.tapa_parse_expression.proofs.parser.Parser.+expression.Goals as goal

pub chain-loop-turn-preserved : goal.chain-loop-turn-preserved
unfolding chain
chain-loop-turn-preserved t c =
    let e = one_more (λ n. spec.chain (spec.level (spec.at c.args.levels).unary c.args.level) c.args.level n (view.expression c.loop-turn.left) c.loop-turn.operators c.loop-turn.self) _ c.loop-turn._turn c.loop-turn-test.true c.loop-turn.invariant in
    let counted = c.count.ensures c.loop-turn.self in
    first_of (search rules, grind (arith, common_steps))

pub named-returns-in_ok-arguments-in-Dot : goal.named-returns-in_ok-arguments-in-Dot
unfolding named
named-returns-in_ok-arguments-in-Dot t c = rw (expression-Call c.in_ok-name.name c.in_ok-method-in-Dot.method c.in_ok-arguments-in-Dot.arguments) (first_of (search rules, grind (arith, common_steps)))

pub some_arguments-loop-turn-preserved : goal.some_arguments-loop-turn-preserved
unfolding more_arguments
some_arguments-loop-turn-preserved t c =
    let e = one_more (λ n. spec.more_arguments (spec.at c.args.levels) n (map view.expression c.loop-turn.found.items) c.loop-turn.operators c.loop-turn.self) _ c.loop-turn._turn c.loop-turn-test.true c.loop-turn.invariant in
    let p = map-push view.expression c.loop-turn.found.items in
    first_of (search rules, grind (arith, common_steps))
