use Rattle.std.proofs.Common.{rules, ◌≡◌, drop, sym, ap, ◌∙◌}
use Rattle.tapa_syntax.specs.Symbols.{symbols_of}
use Rattle.tapa_parse_expression.specs.Readers.{next}
use Rattle.tapa_parse_expression.proofs.Symbols.{next-drop}
use Rattle.tapa_parse_expression.proofs.parser.Parser.next_behind.Goals as goal

pub returns-in-Some : goal.returns-in-Some
returns-in-Some c =
    let found = c.in-Some.ensures.lookup in
    let inside = c.self.inside in
    let same : next (drop c.args.others (symbols_of inside.source.now inside.rest.now)) ≡ next (drop c.args.others c.args.self.now) = ap (λ i. next (drop c.args.others i)) (search rules) in
    c.terminal_of.ensures ∙ sym (next-drop inside.source.now inside.rest.now c.args.others c.in-Some.lexeme.now found.3.0 found.1) ∙ same
