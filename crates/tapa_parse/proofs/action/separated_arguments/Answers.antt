use Rattle.std.proofs.Common.{map, rules, arith}
use Rattle.std.proofs.lemmas.Grind.{common_steps}
use Rattle.tapa_syntax.specs.Limits.{most_operators}
use Rattle.tapa_syntax.specs.Trees as view
use Rattle.tapa_syntax.specs.declared.terminal.Terminal.TheVariants as terminal
use Rattle.tapa_parse_expression.specs.Readers.{◌>>◌, sees, skip, repeat_from}
use Rattle.tapa_parse_expression.specs.Reading as spec
use Rattle.tapa_parse_expression.proofs.Turns.{one_more}
use Rattle.tapa_base.proofs.Got.{map-push}
use Rattle.tapa_parse.proofs.action.separated_arguments.Goals as goal

pub loop-turn-preserved : goal.loop-turn-preserved
unfolding repeat_from
loop-turn-preserved c =
    let e = one_more (λ n. repeat_from (sees terminal.Comma) (skip >> spec.whole (spec.argument (spec.at c.args.levels)) most_operators) n (map view.expression c.loop-turn.found.items) c.loop-turn.parser) _ c.loop-turn._turn c.loop-turn-test.true c.loop-turn.invariant in
    let p = map-push view.expression c.loop-turn.found.items in
    first_of (search rules, grind (arith, common_steps))
