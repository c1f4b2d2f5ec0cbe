use Rattle.std.proofs.Common.{◌≡◌, ◌-◌, ◌+◌, ◌*◌, map, not}
use Rattle.tapa_syntax.specs.Limits.{most_operators}
use Rattle.tapa_syntax.specs.Trees as view
use Rattle.tapa_syntax.specs.declared.terminal.Terminal.TheVariants as terminal
use Rattle.tapa_parse_expression.specs.Readers.{sees, repeat_from}
use Rattle.tapa_parse_expression.specs.Reading as spec
use Rattle.tapa_parse.proofs.statement.+statement.Given as goal

abbrev pub decreases-bare : goal.decreases-bare
decreases-bare l = 5 * l.levels + 3

abbrev pub decreases-braces : goal.decreases-braces
decreases-braces l = 5 * l.levels + 2

abbrev pub decreases-choice : goal.decreases-choice
decreases-choice l = 5 * l.levels + 2

abbrev pub decreases-counting_loop : goal.decreases-counting_loop
decreases-counting_loop l = 5 * l.levels + 2

abbrev pub decreases-inside : goal.decreases-inside
decreases-inside l = 5 * l.levels + 4

abbrev pub decreases-otherwise : goal.decreases-otherwise
decreases-otherwise l = 5 * l.levels + 1

abbrev pub decreases-repetition : goal.decreases-repetition
decreases-repetition l = 5 * l.levels + 2

abbrev pub decreases-statement : goal.decreases-statement
decreases-statement l = 5 * l.levels + 0

abbrev pub decreases-statements : goal.decreases-statements
decreases-statements l = 5 * l.levels + 1

abbrev pub decreases-transaction_loop : goal.decreases-transaction_loop
decreases-transaction_loop l = 5 * l.levels + 2

abbrev pub invariant-statements-loop-turn : goal.invariant-statements-loop-turn
invariant-statements-loop-turn l = spec.statements_with most_operators (spec.below l.levels) l.fn.parser ≡ repeat_from (λ i. not (sees terminal.RightBrace i)) (spec.statement_with most_operators (spec.below l.levels)) (l._turn-end - l._turn) (map view.statement l.found.items) l.parser
