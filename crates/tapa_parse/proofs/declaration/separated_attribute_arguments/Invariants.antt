use Rattle.std.proofs.Common.{◌≡◌, ◌-◌}
use Rattle.tapa_syntax.specs.declared.terminal.Terminal.TheVariants as terminal
use Rattle.tapa_parse_expression.specs.Readers.{◌>>◌, sees, skip, separated, repeat_from}
use Rattle.tapa_parse_expression.specs.Reading as spec
use Rattle.tapa_parse.proofs.declaration.separated_attribute_arguments.Given as goal

abbrev pub invariant-loop-turn : goal.invariant-loop-turn
invariant-loop-turn l = separated terminal.Comma spec.attribute_argument l.fn.parser ≡ repeat_from (sees terminal.Comma) (skip >> spec.attribute_argument) (l._turn-end - l._turn) l.found.items l.parser
