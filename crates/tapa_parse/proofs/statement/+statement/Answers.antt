use Rattle.std.proofs.Common.{map, not, rules, arith}
use Rattle.std.proofs.lemmas.Grind.{common_steps}
use Rattle.tapa_syntax.specs.Limits.{most_operators}
use Rattle.tapa_syntax.specs.Trees as view
use Rattle.tapa_syntax.specs.declared.terminal.Terminal.TheVariants as terminal
use Rattle.tapa_parse_expression.specs.Readers.{sees, repeat_from}
use Rattle.tapa_parse_expression.specs.Reading as spec
use Rattle.tapa_parse_expression.specs.Reading.{braces}
use Rattle.tapa_parse_expression.proofs.Turns.{one_more}
use Rattle.tapa_parse.proofs.Rows.{statement-Block}
use Rattle.tapa_base.proofs.Got.{map-push}
use Rattle.tapa_parse.proofs.statement.+statement.Goals as goal

pub braces-returns : goal.braces-returns
unfolding braces
braces-returns t c = rw (statement-Block c.in_ok-inner.inner) (first_of (search rules, grind (arith, common_steps)))

pub statements-loop-turn-preserved : goal.statements-loop-turn-preserved
unfolding repeat_from
statements-loop-turn-preserved t c =
    let e = one_more (λ n. repeat_from (λ i. not (sees terminal.RightBrace i)) (spec.statement_with most_operators (spec.below c.args.levels)) n (map view.statement c.loop-turn.found.items) c.loop-turn.parser) _ c.loop-turn._turn c.loop-turn-test.true c.loop-turn.invariant in
    let p = map-push view.statement c.loop-turn.found.items in
    first_of (search rules, grind (arith, common_steps))
