use Rattle.std.proofs.Common.{◌≡◌, ◌-◌, map}
use Rattle.tapa_syntax.specs.Limits.{most_operators}
use Rattle.tapa_syntax.specs.Trees as view
use Rattle.tapa_syntax.specs.declared.terminal.Terminal.TheVariants as terminal
use Rattle.tapa_parse_expression.specs.Readers.{◌>>◌, sees, skip, separated, repeat_from}
use Rattle.tapa_parse_expression.specs.Reading as spec
use Rattle.tapa_parse.proofs.action.separated_arguments.Given as goal

abbrev pub invariant-loop-turn : goal.invariant-loop-turn
invariant-loop-turn l = separated terminal.Comma (spec.whole (spec.argument (spec.at l.levels)) most_operators) l.fn.parser ≡ repeat_from (sees terminal.Comma) (skip >> spec.whole (spec.argument (spec.at l.levels)) most_operators) (l._turn-end - l._turn) (map view.expression l.found.items) l.parser
