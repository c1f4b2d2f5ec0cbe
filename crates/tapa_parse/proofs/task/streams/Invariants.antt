use Rattle.std.proofs.Common.{◌≡◌, ◌-◌, map, drop}
use Rattle.tapa_syntax.specs.Limits.{most_operators}
use Rattle.tapa_syntax.specs.Trees as view
use Rattle.tapa_syntax.specs.declared.terminal.Terminal.TheVariants as terminal
use Rattle.tapa_parse_expression.specs.Readers.{sees, repeat_from}
use Rattle.tapa_parse.specs.Reading as spec
use Rattle.tapa_parse.proofs.task.streams.Given as goal

abbrev pub invariant-loop-turn : goal.invariant-loop-turn
invariant-loop-turn l = spec.streams most_operators (spec.below l.levels) l.fn.parser ≡ repeat_from (λ i. sees terminal.Stream (drop 2 i)) (spec.stream most_operators (spec.below l.levels)) (l._turn-end - l._turn) (map view.stream_of l.found.items) l.parser
