-- The lexemes of a source (ISO C++ [lex.pptoken], [lex.comment], [lex.operators]; TAPA's sources are C++). A text is
-- gaps and lexemes in turn, each judged by the text before it and after it. The definition doesn't say how they are
-- computed.
use Rattle.std.specs.Prelude.{◌≡◌, ◌+◌, ◌<◌, ◌≤◌, ◌&&◌, ◌||◌, ◌==◌, ◌⊎◌, ◌∷◌, ◌++◌}
use Rattle.std.specs.Prelude.{ℕ, ⊤, Bool, true, false, List, [], length, take, drop, slice_index, slice_range, Option, Some, None, codes}
use Rattle.std.specs.List.{list_all, list_any, AllByRecursion}
use Rattle.std.specs.Str.{bytes_eq}
use Rattle.tapa_base.specs.Kinds.{values_of}
use Rattle.tapa_syntax.specs.declared.lexeme.LexKind.{LexKind}
use Rattle.tapa_syntax.specs.declared.lexeme.LexKind.TheVariants.{Word, Literal, Str, Punct}
use Rattle.tapa_syntax.specs.declared.lexeme.Lexeme.{Lexeme}
use Rattle.tapa_base.specs.Gaps.{Bytes, is_blank, is_in_line, begins, EndsLine, IsBlank, IsLineComment, IsBlockComment}
use Rattle.tapa_syntax.specs.Characters.{is_digit, is_letter, is_word_byte, is_plain, opens_line, place_of}
use Rattle.tapa_syntax.specs.Literals.{literal_of}

-- ---- gaps: blanks, comments and skipped lines

abbrev pub is_inner_blank : ℕ → Bool
is_inner_blank b = is_blank b && is_in_line b

-- a whole line: `#` is its first byte that is no blank, and its first word is `include` or `pragma`
pub record IsSkippedLine (before bytes rest : Bytes) : Type 0 where
  pub blanks : Bytes
  pub word : Bytes
  pub more : Bytes
  pub is : bytes ≡ 35 ∷ blanks ++ (word ++ more)
  pub first : opens_line before ≡ true
  pub blank : list_all is_inner_blank blanks ≡ true
  pub known : (word ≡ codes "include") ⊎ (word ≡ codes "pragma")
  pub longest : begins is_word_byte more ≡ false
  pub one_line : list_all is_in_line bytes ≡ true
  pub ends : EndsLine rest

abbrev pub IsGap : Bytes → Bytes → Bytes → Type 0
IsGap before bytes rest = IsBlank bytes ⊎ (IsLineComment bytes rest ⊎ (IsBlockComment bytes ⊎ IsSkippedLine before bytes rest))

-- ---- words, strings and punctuation

-- a word that begins with such a byte and goes on as long as letters, digits and `_` do
pub record IsWord (first : ℕ → Bool) (bytes rest : Bytes) : Type 0 where
  pub begun : begins first bytes ≡ true
  pub word : list_all is_word_byte bytes ≡ true
  pub longest : begins is_word_byte rest ≡ false

-- a string with its quotes
abbrev pub IsString : Bytes → Type 0
IsString bytes = (body : Bytes) × (bytes ≡ 34 ∷ body ++ 34 ∷ []) × (list_all is_plain body ≡ true)

-- the operators and punctuators of the language
abbrev pub signs : List Bytes
signs =
    codes "<<=" ∷ codes ">>=" ∷ codes "::" ∷ codes "<<" ∷ codes ">>" ∷ codes "<=" ∷ codes ">=" ∷ codes "==" ∷ codes "!=" ∷ codes "&&" ∷ codes "||" ∷ codes "++" ∷ codes "--"
    ∷ codes "+=" ∷ codes "-=" ∷ codes "*=" ∷ codes "/=" ∷ codes "%=" ∷ codes "&=" ∷ codes "|=" ∷ codes "^="
    ∷ codes "(" ∷ codes ")" ∷ codes "{" ∷ codes "}" ∷ codes "[" ∷ codes "]" ∷ codes "<" ∷ codes ">" ∷ codes "," ∷ codes ";" ∷ codes ":" ∷ codes "?" ∷ codes "." ∷ codes "="
    ∷ codes "+" ∷ codes "-" ∷ codes "*" ∷ codes "/" ∷ codes "%" ∷ codes "&" ∷ codes "|" ∷ codes "^" ∷ codes "~" ∷ codes "!" ∷ []

unfoldable pub is_sign : Bytes → Bool
is_sign bytes = list_any (bytes_eq bytes) signs

-- what a comment begins with
unfoldable pub is_comment_mark : Bytes → Bool
is_comment_mark bytes = list_any (bytes_eq bytes) (codes "//" ∷ codes "/*" ∷ [])

-- the longest sign at this position, where a comment's mark counts as one
pub record IsPunctuation (bytes rest : Bytes) : Type 0 where
  pub sign : is_sign bytes ≡ true
  pub longest : (front back : Bytes) → front ++ back ≡ bytes ++ rest → length bytes < length front → is_sign front || is_comment_mark front ≡ false

abbrev pub IsLexeme : LexKind → Bytes → Bytes → Type 0
IsLexeme Word bytes rest = IsWord is_letter bytes rest
IsLexeme (Literal kind value) bytes rest = IsWord is_digit bytes rest × (literal_of bytes ≡ Some (kind, value))
IsLexeme Str bytes rest = IsString bytes
IsLexeme Punct bytes rest = IsPunctuation bytes rest

-- ---- whole texts

-- a lexeme of a kind, or a gap; and its bytes
pub record Piece : Type 0 where
  pub sort : Option LexKind
  pub bytes : Bytes

-- these bytes are such a piece, between the text before and the text after them
abbrev pub Stands : Bytes → Option LexKind → Bytes → Bytes → Type 0
Stands before None bytes rest = IsGap before bytes rest
Stands before (Some kind) bytes rest = IsLexeme kind bytes rest

-- the bytes of pieces, and the rest of the text
abbrev pub text_of : List Piece → Bytes → Bytes
text_of [] rest = rest
text_of (p ∷ ps) rest = p.bytes ++ text_of ps rest

-- pieces that follow each other, each legal between the text before it and the text after it
abbrev pub StandInTurn : Bytes → List Piece → Bytes → Type 0
StandInTurn before [] rest = ⊤
StandInTurn before (p ∷ ps) rest = Stands before p.sort p.bytes (text_of ps rest) × StandInTurn (before ++ p.bytes) ps rest

-- the lexeme of a piece, given the text before it; a gap is none
abbrev pub lexeme_of : Bytes → Option LexKind → Bytes → List Lexeme
lexeme_of before None bytes = []
lexeme_of before (Some kind) bytes = record { kind = kind; from = length before; to = length before + length bytes; place = place_of before } ∷ []

-- the lexemes of pieces, given the text before them
abbrev pub lexemes_of : Bytes → List Piece → List Lexeme
lexemes_of before [] = []
lexemes_of before (p ∷ ps) = lexeme_of before p.sort p.bytes ++ lexemes_of (before ++ p.bytes) ps

-- a text is pieces in turn, and these are their lexemes, with their slices and places
pub record HasLexemes (text : Bytes) (lexemes : List Lexeme) : Type 0 where
  pub pieces : List Piece
  pub is : text_of pieces [] ≡ text
  pub standing : StandInTurn [] pieces []
  pub told : lexemes_of [] pieces ≡ lexemes

-- no prefix of the text that follows is a piece
abbrev pub NothingStands : Bytes → Bytes → Type 0
NothingStands before behind = (sort : Option LexKind) (bytes rest : Bytes) → bytes ++ rest ≡ behind → Stands before sort bytes rest → ⊥

-- ---- what follows from it

-- a text has one list of lexemes
abbrev pub HasOneListOfLexemes : Type 0
HasOneListOfLexemes = (text : Bytes) (some others : List Lexeme) → HasLexemes text some → HasLexemes text others → some ≡ others

-- a literal's value is one of its kind
abbrev pub HoldsItsValue : LexKind → Type 0
HoldsItsValue (Literal kind value) = value < values_of kind
HoldsItsValue kind = ⊤

-- a lexeme has its slice of the text, and the place of its first byte
pub record IsSliceOf (text : Bytes) (lexeme : Lexeme) : Type 0 where
  pub some : lexeme.from < lexeme.to
  pub within : lexeme.to ≤ length text
  pub place : lexeme.place ≡ place_of (take lexeme.from text)
  pub stands : IsLexeme lexeme.kind (slice_range text lexeme.from lexeme.to) (drop lexeme.to text)
  pub value : HoldsItsValue lexeme.kind

abbrev pub AreSlices : Type 0
AreSlices = (text : Bytes) (lexemes : List Lexeme) → HasLexemes text lexemes → AllByRecursion (IsSliceOf text) lexemes

-- each lexeme begins at or after the end of the one before it
abbrev pub InOrder : ℕ → List Lexeme → Type 0
InOrder end [] = ⊤
InOrder end (l ∷ ls) = (end ≤ l.from) × InOrder l.to ls

abbrev pub AreInOrder : Type 0
AreInOrder = (text : Bytes) (lexemes : List Lexeme) → HasLexemes text lexemes → InOrder 0 lexemes
