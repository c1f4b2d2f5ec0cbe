use Rattle.std.proofs.Common.{◌≡◌, length, map}
use Rattle.tapa_syntax.specs.Symbols as symbols
use Rattle.tapa_parse_expression.proofs.terminal.look_up.Given as goal

abbrev pub invariant-loop-table : goal.invariant-loop-table
invariant-loop-table l = symbols.look_up l.otherwise (map (λ entry. (entry.0.now, entry.1)) l.table) l.text ≡ symbols.look_up l.otherwise (map (λ entry. (entry.0.now, entry.1)) l.initial.table) l.text

abbrev pub decreases-loop-table : goal.decreases-loop-table
decreases-loop-table l = length l.table
