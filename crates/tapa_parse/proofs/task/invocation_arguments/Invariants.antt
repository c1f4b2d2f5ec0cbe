use Rattle.std.proofs.Common.{◌≡◌, ◌-◌, map}
use Rattle.tapa_syntax.specs.Limits.{most_operators}
use Rattle.tapa_syntax.specs.Trees as view
use Rattle.tapa_syntax.specs.declared.terminal.Terminal.TheVariants as terminal
use Rattle.tapa_parse_expression.specs.Readers.{◌>>◌, sees, skip, repeat_from}
use Rattle.tapa_parse.specs.Reading as spec
use Rattle.tapa_parse.proofs.task.invocation_arguments.Given as goal

abbrev pub invariant-loop-turn : goal.invariant-loop-turn
invariant-loop-turn l = spec.invocation_arguments most_operators (spec.at l.levels) l.fn.parser ≡ repeat_from (sees terminal.Comma) (skip >> spec.invocation_argument most_operators (spec.at l.levels)) (l._turn-end - l._turn) (map view.argument_of l.found.items) l.parser
