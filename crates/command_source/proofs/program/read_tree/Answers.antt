use Rattle.std.proofs.Common.{List, Err, refl, sym, subst, ap, ◌∙◌}
use Rattle.command_source.specs.Codes.{parse_code}
use Rattle.tapa_syntax.specs.Grammar.{IsTreeOf}
use Rattle.tapa_syntax.specs.Limits.{IsWithinLimits}
use Rattle.tapa_syntax.specs.Symbols.{symbols_of}
use Rattle.tapa_syntax.specs.Trees.{ItemTree}
use Rattle.tapa_parse.specs.declared.fault.ParseFault.{ParseFault}
use Rattle.tapa_parse.specs.Answers.{ParserAnswers, Refuses}
use Rattle.command_source.specs.Source.{IsRefusedWrittenOut}
use Rattle.command_source.proofs.Sourced.{refused_by_parser}
use Rattle.command_source.proofs.Read.{has_no_tree}
use Rattle.command_source.proofs.program.read_tree.Goals as goal

pub returns-in-Err-At-clause-refused : goal.returns-in-Err-At-clause-refused
returns-in-Err-At-clause-refused c = λ top.
    let by_grammar = subst (λ (f : ParseFault). Refuses c.args.text.now (symbols_of c.args.text.now c.args.lexemes.now) f) c.in-Err-At.field-0-is c.in-Err-At.ensures.refused in
    let only = λ (items : List ItemTree) (tree : IsTreeOf (symbols_of c.args.text.now c.args.lexemes.now) items) (within : IsWithinLimits items). subst (λ (f : ParseFault). ParserAnswers (Err f) items) c.in-Err-At.field-0-is (c.in-Err-At.ensures.only items tree within) in
    let none = has_no_tree c.args.text.now c.args.lexemes.now c.args.lexemes.now c.in-Err-At.place c.in-Err-At.code c.requires.lexed refl by_grammar only in
    let refused = refused_by_parser c.args.text.now top c.in-Err-At.place c.in-Err-At.code none in
    let told = subst (λ k. IsRefusedWrittenOut c.args.text.now top c.in-Err-At.place k) (sym (c.of_parser-code.ensures ∙ ap parse_code c.in-Err-At.code-is)) refused in
    subst (λ p. IsRefusedWrittenOut c.args.text.now top p c.of_parser-code.result) (sym c.in-Err-At.place-is) told
