-- Tests of the lexemes at a position of a text.
use Rattle.std.specs.Prelude.{ℕ, ◌-◌, Bool, true, false, ◌&&◌, List, [], ◌∷◌, length, drop, Option, Some, None, Ok, Err}
use Rattle.tapa_base.specs.Gaps.{Bytes}
use Rattle.tapa_base.specs.declared.kind.Kind.{Kind}
use Rattle.tapa_syntax.specs.declared.lexeme.Lexeme.{Lexeme}
use Rattle.tapa_syntax.specs.declared.terminal.Terminal.{Terminal}
use Rattle.tapa_syntax.specs.Symbols.{symbol_of, symbols_of, text_of}
use Rattle.tapa_syntax.specs.Grammar.{is_name}
use Rattle.tapa_parse_expression.specs.Readers.{same, Outcome}
use Rattle.tapa_parse_expression.specs.Reading.{type_name}

abbrev pub terminal_at : Bytes → Lexeme → Terminal
terminal_at text l = (symbol_of text l).terminal

abbrev pub is : Bytes → Terminal → Lexeme → Bool
is text m l = same (terminal_at text l) m

-- a name of the source
abbrev pub is_named : Bytes → Lexeme → Bool
is_named text l = is_name (terminal_at text l)

-- the lexemes begin with these terminals
abbrev pub stand : Bytes → List Terminal → List Lexeme → Bool
stand text [] ls = true
stand text (m ∷ ms) [] = false
stand text (m ∷ ms) (l ∷ ls) = is text m l && stand text ms ls

-- the lexemes end with these terminals
abbrev pub stand_last : Bytes → List Terminal → List Lexeme → Bool
stand_last text ms ls = stand text ms (drop (length ls - length ms) ls)

-- the bytes of the first lexeme
abbrev pub first_word : Bytes → List Lexeme → Bytes
first_word text [] = []
first_word text (l ∷ ls) = text_of text l

abbrev pub size_behind : ℕ → Outcome Kind → Option ℕ
size_behind n (Ok p) = Some (n - length p.1)
size_behind n (Err e) = None

-- how many lexemes the type at the start has, in its longest reading
abbrev pub type_size : Bytes → List Lexeme → Option ℕ
type_size text ls = size_behind (length ls) (type_name (symbols_of text ls))
