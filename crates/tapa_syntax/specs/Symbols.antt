-- The lexemes as the grammar sees them: words and signs by what they are, with text, value and place.
use Rattle.std.specs.Prelude.{ℕ, ◌&&◌, if◌then◌else◌, nat_le, List, [], ◌∷◌, map, length, slice_range, codes}
use Rattle.std.specs.Char.{is_ascii}
use Rattle.std.specs.List.{list_all}
use Rattle.std.specs.Str.{bytes_eq}
use Rattle.tapa_base.specs.declared.kind.Kind.{Kind}
use Rattle.tapa_base.specs.declared.kind.Kind.TheVariants as kind
use Rattle.tapa_base.specs.declared.text.Place.{Place}
use Rattle.tapa_syntax.specs.declared.lexeme.LexKind.{LexKind}
use Rattle.tapa_syntax.specs.declared.lexeme.LexKind.TheVariants as lex_kind
use Rattle.tapa_syntax.specs.declared.lexeme.Lexeme.{Lexeme}
use Rattle.tapa_syntax.specs.declared.terminal.Terminal.{Terminal}
use Rattle.tapa_syntax.specs.declared.terminal.Terminal.TheVariants as terminal

-- The words that are no plain names. Those of the second table are in no production (ISO C++ [lex.key]).
abbrev pub words : List (List ℕ × Terminal)
words =
    (codes "istream", terminal.Istream) ∷ (codes "ostream", terminal.Ostream) ∷ (codes "stream", terminal.Stream) ∷ (codes "mmap", terminal.Mmap)
    ∷ (codes "task", terminal.Task) ∷ (codes "invoke", terminal.Invoke) ∷ (codes "const", terminal.Const) ∷ (codes "constexpr", terminal.Constexpr)
    ∷ (codes "void", terminal.Void) ∷ (codes "tapa", terminal.Tapa) ∷ (codes "std", terminal.Std) ∷ (codes "if", terminal.If) ∷ (codes "else", terminal.Else)
    ∷ (codes "while", terminal.While) ∷ (codes "for", terminal.For) ∷ (codes "TAPA_WHILE_NOT_EOT", terminal.WhileNotEot) ∷ (codes "break", terminal.Break)
    ∷ (codes "continue", terminal.Continue) ∷ (codes "nullptr", terminal.Nullptr) ∷ (codes "true", terminal.True) ∷ (codes "false", terminal.False)
    ∷ (codes "static_cast", terminal.StaticCast) ∷ (codes "bool", terminal.Bool) ∷ (codes "int", terminal.Int) ∷ (codes "short", terminal.Short)
    ∷ (codes "long", terminal.Long) ∷ (codes "unsigned", terminal.Unsigned) ∷ (codes "size_t", terminal.SizeT) ∷ (codes "int8_t", terminal.Int8)
    ∷ (codes "uint8_t", terminal.Uint8) ∷ (codes "int16_t", terminal.Int16) ∷ (codes "uint16_t", terminal.Uint16) ∷ (codes "int32_t", terminal.Int32)
    ∷ (codes "uint32_t", terminal.Uint32) ∷ (codes "int64_t", terminal.Int64) ∷ (codes "uint64_t", terminal.Uint64) ∷ []

abbrev pub other_words : List (List ℕ × Terminal)
other_words =
    map (λ word. (word, terminal.Reserved))
    (codes "char" ∷ codes "signed" ∷ codes "float" ∷ codes "double" ∷ codes "struct" ∷ codes "class" ∷ codes "union" ∷ codes "enum"
    ∷ codes "return" ∷ codes "switch" ∷ codes "case" ∷ codes "default" ∷ codes "do" ∷ codes "goto" ∷ codes "auto" ∷ codes "using"
    ∷ codes "typedef" ∷ codes "template" ∷ codes "static" ∷ codes "extern" ∷ codes "inline" ∷ codes "namespace" ∷ codes "new"
    ∷ codes "delete" ∷ codes "this" ∷ codes "sizeof" ∷ [])

abbrev pub signs : List (List ℕ × Terminal)
signs =
    (codes "(", terminal.LeftParen) ∷ (codes ")", terminal.RightParen) ∷ (codes "{", terminal.LeftBrace) ∷ (codes "}", terminal.RightBrace)
    ∷ (codes "[", terminal.LeftBracket) ∷ (codes "]", terminal.RightBracket) ∷ (codes "<", terminal.Less) ∷ (codes ">", terminal.Greater)
    ∷ (codes ",", terminal.Comma) ∷ (codes ";", terminal.Semicolon) ∷ (codes ":", terminal.Colon) ∷ (codes "?", terminal.Question) ∷ (codes ".", terminal.Dot)
    ∷ (codes "=", terminal.Assign) ∷ (codes "+", terminal.Plus) ∷ (codes "-", terminal.Minus) ∷ (codes "*", terminal.Star) ∷ (codes "/", terminal.Slash)
    ∷ (codes "%", terminal.Percent) ∷ (codes "&", terminal.Ampersand) ∷ (codes "|", terminal.Bar) ∷ (codes "^", terminal.Caret) ∷ (codes "~", terminal.Tilde)
    ∷ (codes "!", terminal.Exclamation) ∷ (codes "<<=", terminal.ShiftLeftAssign) ∷ (codes ">>=", terminal.ShiftRightAssign) ∷ (codes "::", terminal.Scope)
    ∷ (codes "<<", terminal.ShiftLeft) ∷ (codes ">>", terminal.ShiftRight) ∷ (codes "<=", terminal.LessEqual) ∷ (codes ">=", terminal.GreaterEqual)
    ∷ (codes "==", terminal.Equal) ∷ (codes "!=", terminal.NotEqual) ∷ (codes "&&", terminal.And) ∷ (codes "||", terminal.Or) ∷ (codes "++", terminal.Increment)
    ∷ (codes "--", terminal.Decrement) ∷ (codes "+=", terminal.PlusAssign) ∷ (codes "-=", terminal.MinusAssign) ∷ (codes "*=", terminal.StarAssign)
    ∷ (codes "/=", terminal.SlashAssign) ∷ (codes "%=", terminal.PercentAssign) ∷ (codes "&=", terminal.AmpersandAssign) ∷ (codes "|=", terminal.BarAssign)
    ∷ (codes "^=", terminal.CaretAssign) ∷ []

-- what the table says of a text, and otherwise this
abbrev pub look_up : Terminal → List (List ℕ × Terminal) → List ℕ → Terminal
look_up otherwise [] text = otherwise
look_up otherwise (entry ∷ table) text = if bytes_eq entry.0 text then entry.1 else look_up otherwise table text

unfoldable pub word_terminal : List ℕ → Terminal
word_terminal text = look_up (look_up terminal.Name other_words text) words text

unfoldable pub sign_terminal : List ℕ → Terminal
sign_terminal = look_up terminal.Reserved signs

abbrev pub terminal_of : LexKind → List ℕ → Terminal
terminal_of lex_kind.Word text = word_terminal text
terminal_of (lex_kind.Literal kind value) text = terminal.Literal
terminal_of lex_kind.Str text = terminal.Str
terminal_of lex_kind.Punct text = sign_terminal text

abbrev pub literal_of : LexKind → Kind × ℕ
literal_of (lex_kind.Literal kind value) = (kind, value)
literal_of _ = (kind.Bool, 0)

pub record Symbol : Type 0 where
  pub terminal : Terminal
  pub text : List ℕ
  -- of a literal
  pub literal : Kind × ℕ
  pub place : Place

-- the lexeme's slice of the source
unfoldable pub text_of : List ℕ → Lexeme → List ℕ
text_of source lexeme = if nat_le lexeme.from lexeme.to && nat_le lexeme.to (length source) then slice_range source lexeme.from lexeme.to else []

-- Lexemes are ASCII.
unfoldable pub symbol_of : List ℕ → Lexeme → Symbol
symbol_of source lexeme = record {
  terminal = if list_all is_ascii (text_of source lexeme) then terminal_of lexeme.kind (text_of source lexeme) else terminal.Reserved;
  text = text_of source lexeme;
  literal = literal_of lexeme.kind;
  place = lexeme.place;
}

abbrev pub symbols_of : List ℕ → List Lexeme → List Symbol
symbols_of source lexemes = map (symbol_of source) lexemes
