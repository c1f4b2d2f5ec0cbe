-- The lexemes of a written-out text.
use Rattle.std.specs.Prelude.{◌≡◌, List, Ok}
use Rattle.tapa_base.specs.Gaps.{Bytes}
use Rattle.tapa_base.specs.declared.text.Place.{Place}
use Rattle.tapa_syntax.specs.declared.lexeme.Lexeme.{Lexeme}
use Rattle.tapa_syntax.specs.Lexemes.{HasLexemes}
use Rattle.tapa_lex.specs.declared.fault.LexCode.{LexCode}
use Rattle.tapa_lex.specs.Refusals.{IsRefused}
use Rattle.stream_arrays.specs.Written.{written_out}

-- what is written out of a text with lexemes has lexemes
abbrev pub WrittenOutTextsHaveLexemes : Type 0
WrittenOutTextsHaveLexemes = (text out : Bytes) (lexemes : List Lexeme) → HasLexemes text lexemes → written_out text lexemes ≡ Ok out → (found : List Lexeme) × HasLexemes out found

-- so it is refused nowhere
abbrev pub WrittenOutTextsAreNotRefused : Type 0
WrittenOutTextsAreNotRefused =
    (text out : Bytes) (lexemes : List Lexeme) (code : LexCode) (place : Place) → HasLexemes text lexemes → written_out text lexemes ≡ Ok out → IsRefused out code place → ⊥
