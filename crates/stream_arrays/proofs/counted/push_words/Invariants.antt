use Rattle.std.proofs.Common.{◌≡◌, ◌++◌, map, take}
use Rattle.stream_arrays.specs.declared.piece.Piece.TheVariants.{Word}
use Rattle.stream_arrays.proofs.counted.push_words.Given as goal

abbrev pub invariant-loop-lexeme : goal.invariant-loop-lexeme
invariant-loop-lexeme l = l.pieces.items ≡ l.fn.pieces.items ++ map Word (take l.lexeme-index l.lexemes)
