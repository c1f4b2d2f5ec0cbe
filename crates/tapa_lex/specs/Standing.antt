-- The state of the lexer after a prefix of the text.
use Rattle.std.specs.Prelude.{◌≡◌, List, [], ◌∷◌, length, Option, Some, None}
use Rattle.tapa_base.specs.Gaps.{Bytes}
use Rattle.tapa_syntax.specs.Characters.{opens_line, place_of}
use Rattle.tapa_lex.specs.declared.cursor.Cursor.{Cursor}
use Rattle.tapa_syntax.specs.declared.lexeme.LexKind.{LexKind}
use Rattle.tapa_syntax.specs.declared.lexeme.Lexeme.{Lexeme}

-- the cursor after these bytes
pub record IsBehind (before : Bytes) (cursor : Cursor) : Type 0 where
  pub at : cursor.at ≡ length before
  pub place : cursor.place ≡ place_of before
  pub opens : cursor.opens ≡ opens_line before

-- the lexeme between two cursors; a gap is none
abbrev pub spanned : Option LexKind → Cursor → Cursor → List Lexeme
spanned None from to = []
spanned (Some kind) from to = record { kind = kind; from = from.at; to = to.at; place = from.place } ∷ []
