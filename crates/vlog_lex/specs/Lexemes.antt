-- The words of a text of the subset (IEEE 1364-2005, clause 3). A text is gaps and words in turn, each judged in sight of the
-- text after it: a word is the longest that begins at its position. The definition doesn't say how they are computed.
use Rattle.std.specs.Prelude.{◌≡◌, ℕ, ⊤, Bool, true, false, ◌&&◌, ◌||◌, ◌==◌, ◌⊎◌, List, [], ◌∷◌, ◌++◌, codes, bytes_eq}
use Rattle.std.specs.List.{list_any}
use Rattle.std.specs.Char.{is_digit}
use Rattle.std.specs.Str.Parse.{IsNumeral}
use Rattle.vlog_tree.specs.Names.{goes_on, has_name_form}
use Rattle.vlog_tree.specs.Spelling.{Word}
use Rattle.tapa_base.specs.Gaps.{Bytes, begins, IsBlank, IsLineComment, IsBlockComment}
use Rattle.vlog_lex.specs.Numerals.{base_of, Sized, sized_word, IsSized}

-- a gap, in sight of the text after it: white space or a comment (3.2, 3.3)
abbrev pub IsGap : Bytes → Bytes → Type 0
IsGap bytes rest = IsBlank bytes ⊎ (IsLineComment bytes rest ⊎ IsBlockComment bytes)

-- ---- words

-- a name or a keyword (3.7): it goes on as long as letters, digits, `_` and `$` do
pub record IsNameWord (bytes rest : Bytes) : Type 0 where
  pub form : has_name_form bytes ≡ true
  pub longest : begins goes_on rest ≡ false

-- a digit of a base up to 16, in either letter case
abbrev pub is_digit_of : ℕ → ℕ → Bool
is_digit_of base b = is_digit b base

-- what makes a literal of a number before it: `'`, the letter of a base, and a digit of it
abbrev pub makes_literal : Bytes → Bool
makes_literal (a ∷ b ∷ c ∷ z) = a == 39 && is_digit_of (base_of b) c
makes_literal _ = false

-- a number (3.5.1): it goes on as long as digits do, and is no literal's size
pub record IsNumberWord (bytes rest : Bytes) : Type 0 where
  pub numeral : IsNumeral 10 bytes
  pub longest : begins (is_digit_of 10) rest ≡ false
  pub plain : makes_literal rest ≡ false

-- a literal (3.5.1): it goes on as long as digits of its base do
pub record IsLiteralWord (bytes rest : Bytes) : Type 0 where
  pub parts : Sized
  pub is : bytes ≡ sized_word parts
  pub sized : IsSized parts
  pub longest : begins (is_digit_of (base_of parts.letter)) rest ≡ false

-- the operators and punctuation of the subset (3.4)
unfoldable pub signs : List Bytes
signs =
    codes "<=" ∷ codes "<<" ∷ codes ">>" ∷ codes "==" ∷ codes "!=" ∷ codes "(" ∷ codes ")" ∷ codes "[" ∷ codes "]" ∷ codes "{" ∷ codes "}"
    ∷ codes ";" ∷ codes ":" ∷ codes "," ∷ codes "." ∷ codes "="
    ∷ codes "+" ∷ codes "-" ∷ codes "*" ∷ codes "/" ∷ codes "%" ∷ codes "&" ∷ codes "|" ∷ codes "^" ∷ codes "~" ∷ codes "?" ∷ codes "<" ∷ codes "@" ∷ []

-- whether bytes are a sign
unfoldable pub is_sign : Bytes → Bool
is_sign bytes = list_any (bytes_eq bytes) signs

-- a sign, or what a comment begins with
unfoldable pub is_sign_or_mark : Bytes → Bool
is_sign_or_mark bytes = is_sign bytes || bytes_eq bytes (codes "//") || bytes_eq bytes (codes "/*")

-- the longest sign: with the byte after it, it is no sign, and begins no comment
pub record IsSignWord (bytes rest : Bytes) : Type 0 where
  pub sign : is_sign bytes ≡ true
  pub longest : begins (λ b. is_sign_or_mark (bytes ++ b ∷ [])) rest ≡ false

-- a word, in sight of the text after it
abbrev pub IsWord : Bytes → Bytes → Type 0
IsWord bytes rest = IsNameWord bytes rest ⊎ (IsNumberWord bytes rest ⊎ (IsLiteralWord bytes rest ⊎ IsSignWord bytes rest))

-- ---- whole texts

-- a gap or a word
pub data Piece : Type 0 where
  gap : Bytes → Piece
  word : Bytes → Piece

-- what a piece must be, in sight of the text after it
abbrev pub Stands : Piece → Bytes → Type 0
Stands (gap bytes) rest = IsGap bytes rest
Stands (word bytes) rest = IsWord bytes rest

-- its bytes
abbrev pub piece_bytes : Piece → Bytes
piece_bytes (gap bytes) = bytes
piece_bytes (word bytes) = bytes

-- the bytes of pieces, and the rest of the text
abbrev pub text_of : List Piece → Bytes → Bytes
text_of [] rest = rest
text_of (p ∷ ps) rest = piece_bytes p ++ text_of ps rest

-- each piece is what it must be, in sight of the pieces after it
abbrev pub StandInTurn : List Piece → Bytes → Type 0
StandInTurn [] rest = ⊤
StandInTurn (p ∷ ps) rest = Stands p (text_of ps rest) × StandInTurn ps rest

-- the words among pieces
abbrev pub words_of : List Piece → List Word
words_of [] = []
words_of (gap bytes ∷ ps) = words_of ps
words_of (word bytes ∷ ps) = bytes ∷ words_of ps

-- a text is pieces in turn, and these are their words
pub record HasWords (text : Bytes) (words : List Word) : Type 0 where
  pub pieces : List Piece
  pub is : text_of pieces [] ≡ text
  pub standing : StandInTurn pieces []
  pub told : words_of pieces ≡ words
