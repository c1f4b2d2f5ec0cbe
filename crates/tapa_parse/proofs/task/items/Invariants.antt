use Rattle.std.proofs.Common.{◌≡◌, ◌-◌, map}
use Rattle.tapa_syntax.specs.Limits.{most_operators}
use Rattle.tapa_syntax.specs.Trees as view
use Rattle.tapa_parse_expression.specs.Readers.{is_left, repeat_from}
use Rattle.tapa_parse.specs.Reading as spec
use Rattle.tapa_parse.proofs.task.items.Given as goal

abbrev pub invariant-loop-turn : goal.invariant-loop-turn
invariant-loop-turn l = spec.items most_operators (spec.below l.levels) l.fn.parser ≡ repeat_from is_left (spec.item most_operators (spec.below l.levels)) (l._turn-end - l._turn) (map view.item_of l.found.items) l.parser
