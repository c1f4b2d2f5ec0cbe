use Rattle.std.proofs.Common.{◌≡◌, ◌-◌, map}
use Rattle.tapa_syntax.specs.Limits.{most_operators}
use Rattle.tapa_syntax.specs.Trees as view
use Rattle.tapa_syntax.specs.declared.terminal.Terminal.TheVariants as terminal
use Rattle.tapa_parse_expression.specs.Readers.{◌>>◌, sees, skip, repeat_from}
use Rattle.tapa_parse_expression.specs.Reading as spec
use Rattle.tapa_parse.proofs.action.targets.Given as goal

abbrev pub invariant-loop-turn : goal.invariant-loop-turn
invariant-loop-turn l = spec.targets most_operators (spec.below l.levels) l.fn.parser ≡ repeat_from (sees terminal.ShiftRight) (skip >> spec.place_with most_operators (spec.below l.levels)) (l._turn-end - l._turn) (map view.place_expression_of l.found.items) l.parser
