-- Texts that a cheap test shows to have no form.
use Rattle.std.specs.Prelude.{ℕ, Bool, true, not, ◌&&◌, nat_le, List, [], ◌∷◌, length, codes, bytes_eq}
use Rattle.tapa_base.specs.Gaps.{Bytes}
use Rattle.tapa_syntax.specs.declared.lexeme.Lexeme.{Lexeme}
use Rattle.tapa_syntax.specs.declared.terminal.Terminal.TheVariants as terminal
use Rattle.tapa_syntax.specs.Symbols.{text_of}
use Rattle.stream_arrays.specs.Standing.{stand}
use Rattle.stream_arrays.specs.Forms.{is_mode}

-- a mode before a comma, as before the count of an invoke
abbrev pub is_counted : Bytes → Lexeme → List Lexeme → Bool
is_counted text l ls = is_mode (text_of text l) && stand text (terminal.Comma ∷ []) ls

-- no lexeme is `streams`, and no mode is followed by a comma
abbrev pub is_plain : Bytes → List Lexeme → Bool
is_plain text [] = true
is_plain text (l ∷ ls) = not (bytes_eq (text_of text l) (codes "streams")) && not (is_counted text l ls) && is_plain text ls

-- the slices of the lexemes are in the order of the text, from index `at` on, and don't overlap
abbrev pub is_in_order : Bytes → ℕ → List Lexeme → Bool
is_in_order text at [] = nat_le at (length text)
is_in_order text at (l ∷ ls) = nat_le at l.from && nat_le l.from l.to && is_in_order text l.to ls
