use Rattle.std.proofs.Common.{ap, ◌∙◌}
use Rattle.tapa_syntax.specs.Symbols.{text_of}
use Rattle.stream_arrays.specs.Writing.{writing, said_word}
use Rattle.stream_arrays.proofs.Writers.{said_map}
use Rattle.stream_arrays.proofs.writer.Writer.words.Goals as goal

pub loop-lexeme-preserved : goal.loop-lexeme-preserved
loop-lexeme-preserved c =
    said_map (text_of c.args.text.now) c.args.lexemes.now c.loop-lexeme.lexeme-index _ (writing c.args.self.now) (writing c.loop-lexeme.self) (writing c.word.new.self) c.loop-lexeme-test.true c.loop-lexeme.invariant
    (c.in_ok-word.ensures ∙ ap (said_word (writing c.loop-lexeme.self)) c.text_of.ensures)
