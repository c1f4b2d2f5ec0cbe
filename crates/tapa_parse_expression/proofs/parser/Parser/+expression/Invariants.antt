use Rattle.std.proofs.Common.{◌≡◌, map, ◌+◌, ◌-◌, ◌*◌}
use Rattle.tapa_syntax.specs.Trees as view
use Rattle.tapa_parse_expression.specs.Reading as spec
use Rattle.tapa_parse_expression.proofs.parser.Parser.+expression.Given as goal

abbrev pub decreases-any_arguments : goal.decreases-any_arguments
decreases-any_arguments l = 30 * l.levels + 28

abbrev pub decreases-argument : goal.decreases-argument
decreases-argument l = 30 * l.levels + 26

abbrev pub decreases-arguments : goal.decreases-arguments
decreases-arguments l = 30 * l.levels + 0

abbrev pub decreases-arms : goal.decreases-arms
decreases-arms l = 30 * l.levels + 0

abbrev pub decreases-boxed : goal.decreases-boxed
decreases-boxed l = 30 * l.levels + 26

abbrev pub decreases-constructed : goal.decreases-constructed
decreases-constructed l = 30 * l.levels + 1

abbrev pub decreases-converted : goal.decreases-converted
decreases-converted l = 30 * l.levels + 0

abbrev pub decreases-expression : goal.decreases-expression
decreases-expression l = 30 * l.levels + 25

abbrev pub decreases-in_brackets : goal.decreases-in_brackets
decreases-in_brackets l = 30 * l.levels + 0

abbrev pub decreases-in_parentheses : goal.decreases-in_parentheses
decreases-in_parentheses l = 30 * l.levels + 0

abbrev pub decreases-named : goal.decreases-named
decreases-named l = 30 * l.levels + 1

abbrev pub decreases-parenthesis : goal.decreases-parenthesis
decreases-parenthesis l = 30 * l.levels + 1

abbrev pub decreases-prefixed : goal.decreases-prefixed
decreases-prefixed l = 30 * l.levels + 0

abbrev pub decreases-primary : goal.decreases-primary
decreases-primary l = 30 * l.levels + 2

abbrev pub decreases-some_arguments : goal.decreases-some_arguments
decreases-some_arguments l = 30 * l.levels + 27

abbrev pub decreases-statically_cast : goal.decreases-statically_cast
decreases-statically_cast l = 30 * l.levels + 1

abbrev pub decreases-unary : goal.decreases-unary
decreases-unary l = 30 * l.levels + 3

abbrev pub decreases-level : goal.decreases-level
decreases-level l = 30 * l.levels + 2 * l.level + 4

abbrev pub decreases-chain : goal.decreases-chain
decreases-chain l = 30 * l.levels + 2 * l.level + 5

abbrev pub invariant-chain-loop-turn : goal.invariant-chain-loop-turn
invariant-chain-loop-turn l =
    let operand = spec.level (spec.at l.levels).unary l.level in
    spec.chain_of operand l.level (view.expression l.fn.left) l.fn.operators l.fn.self ≡ spec.chain operand l.level (l._turn-end - l._turn) (view.expression l.left) l.operators l.self

abbrev pub invariant-some_arguments-loop-turn : goal.invariant-some_arguments-loop-turn
invariant-some_arguments-loop-turn l =
    let below = spec.at l.levels in
    spec.some_arguments below l.fn.operators l.fn.self ≡ spec.more_arguments below (l._turn-end - l._turn) (map view.expression l.found.items) l.operators l.self
