-- What a written-out text keeps: the lines of its source, and a text that the grammar has a tree for.
use Rattle.std.specs.Prelude.{◌≡◌, ◌≤◌, ℕ, ◌==◌, List, ◌∷◌, ◌++◌, length, take, slice_range, Ok}
use Rattle.std.specs.List.{filter}
use Rattle.tapa_base.specs.Gaps.{Bytes}
use Rattle.tapa_syntax.specs.declared.lexeme.Lexeme.{Lexeme}
use Rattle.tapa_syntax.specs.Grammar.{IsTreeOf}
use Rattle.tapa_syntax.specs.Lexemes.{HasLexemes}
use Rattle.tapa_syntax.specs.Symbols.{symbols_of}
use Rattle.tapa_syntax.specs.Trees.{ItemTree}
use Rattle.stream_arrays.specs.Words.{end_of}
use Rattle.stream_arrays.specs.Written.{Scope, Step, step, most, written_out}
use Rattle.command_source.specs.Source.{IsWrittenOut}

-- its line feeds
abbrev pub line_feeds : Bytes → ℕ
line_feeds text = length (filter (λ b. b == 10) text)

-- a written-out text has the source's number of line feeds
abbrev pub TextsKeepLines : Type 0
TextsKeepLines = (text out : Bytes) → IsWrittenOut text out → line_feeds out ≡ line_feeds text

-- What is written of each form, or of a lexeme of none, has the number of line feeds of the source from its first byte to its last,
-- whatever is known there.
abbrev pub FormsKeepLines : Type 0
FormsKeepLines =
    (text : Bytes) (lexemes before : List Lexeme) (l : Lexeme) (ls : List Lexeme) (s : Scope) (r : Step)
    → HasLexemes text lexemes → lexemes ≡ before ++ l ∷ ls → step text s before (l ∷ ls) ≡ Ok r
    → line_feeds r.written ≡ line_feeds (slice_range text l.from (end_of l.to (take r.more ls)))

-- a text that has a tree is written out as it is, where it isn't too long
abbrev pub FilesStay : Type 0
FilesStay =
    (text : Bytes) (lexemes : List Lexeme) (items : List ItemTree) → HasLexemes text lexemes → IsTreeOf (symbols_of text lexemes) items → length text ≤ most
    → written_out text lexemes ≡ Ok text
