-- The words of a text as slices of it.
use Rattle.std.specs.Prelude.{◌≡◌, ℕ, ◌+◌, nat_le, ◌&&◌, if◌then◌else◌, List, [], ◌∷◌, ◌++◌, length, map, slice_range}
use Rattle.vlog_tree.specs.Spelling.{Word}
use Rattle.tapa_base.specs.Gaps.{Bytes}
use Rattle.vlog_lex.specs.Lexemes.{Piece, gap, word, Stands, piece_bytes, text_of, StandInTurn}
use Rattle.vlog_lex.specs.declared.cut.Sort.{Sort}
use Rattle.vlog_lex.specs.declared.cut.Sort.TheVariants as sort
use Rattle.vlog_lex.specs.declared.lexer.Lexeme.{Lexeme}

-- no blank, no comment and no word begins at the first of these bytes
abbrev pub NothingStands : Bytes → Type 0
NothingStands z = (p : Piece) (rest : Bytes) → Stands p rest → z ≡ piece_bytes p ++ rest → ⊥

-- the bytes of a word, where it lies in the text
unfoldable pub word_of : Bytes → Lexeme → Word
word_of text l = if nat_le l.from l.to && nat_le l.to (length text) then slice_range text l.from l.to else []

abbrev pub words_at : Bytes → List Lexeme → List Word
words_at text lexemes = map (word_of text) lexemes

-- the words among pieces, as slices of a text in which the first piece begins at this byte
abbrev pub slices_of : ℕ → List Piece → List Lexeme
slices_of at [] = []
slices_of at (gap bytes ∷ ps) = slices_of (at + length bytes) ps
slices_of at (word bytes ∷ ps) = record { from = at; to = at + length bytes } ∷ slices_of (at + length bytes) ps

-- these words, and that of one more piece, where it is a word
abbrev pub put_slice : List Lexeme → Sort → ℕ → ℕ → List Lexeme
put_slice lexemes sort.Gap from to = lexemes
put_slice lexemes sort.Word from to = lexemes ++ record { from = from; to = to } ∷ []

-- the pieces of a text as far as there are some: their words, and the position where no more begins
pub record IsScan (text : Bytes) (lexemes : List Lexeme) (end : ℕ) : Type 0 where
  pub pieces : List Piece
  pub behind : Bytes
  pub is : text_of pieces behind ≡ text
  pub standing : StandInTurn pieces behind
  pub told : slices_of 0 pieces ≡ lexemes
  pub at : end ≡ length (text_of pieces [])
  pub nothing : NothingStands behind
