use Rattle.std.proofs.Common.{ap, ◌∙◌}
use Rattle.tapa_syntax.specs.Symbols as symbols
use Rattle.tapa_syntax.specs.Symbols.{word_terminal}
use Rattle.tapa_parse_expression.proofs.terminal.word_terminal.Goals as goal

pub returns : goal.returns
unfolding word_terminal
returns c = c.look_up-2.ensures ∙ ap (λ m. symbols.look_up m symbols.words c.args.text.now) c.look_up.ensures
