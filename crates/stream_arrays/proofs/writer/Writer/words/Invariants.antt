use Rattle.std.proofs.Common.{◌≡◌, take}
use Rattle.stream_arrays.specs.Words.{words_of}
use Rattle.stream_arrays.specs.Writing.{writing, said}
use Rattle.stream_arrays.proofs.writer.Writer.words.Given as goal

abbrev pub invariant-loop-lexeme : goal.invariant-loop-lexeme
invariant-loop-lexeme l = writing l.self ≡ said (writing l.fn.self) (words_of l.text (take l.lexeme-index l.lexemes))
