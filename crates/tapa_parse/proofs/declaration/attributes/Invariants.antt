use Rattle.std.proofs.Common.{◌≡◌, ◌-◌, map}
use Rattle.tapa_syntax.specs.Trees as view
use Rattle.tapa_syntax.specs.declared.terminal.Terminal.TheVariants as terminal
use Rattle.tapa_parse_expression.specs.Readers.{sees, repeat_from}
use Rattle.tapa_parse_expression.specs.Reading as spec
use Rattle.tapa_parse.proofs.declaration.attributes.Given as goal

abbrev pub invariant-loop-turn : goal.invariant-loop-turn
invariant-loop-turn l = spec.attributes (spec.below l.levels) l.fn.parser ≡ repeat_from (sees terminal.LeftBracket) (spec.attribute (spec.below l.levels)) (l._turn-end - l._turn) (map view.attribute_of l.found.items) l.parser
