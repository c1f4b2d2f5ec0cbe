-- The symbols of lexemes, one by one.
use Rattle.std.proofs.Common.{◌≡◌, ◌<◌, ℕ, zero, suc, List, [], ◌∷◌, drop, length, get_or, sym, ap, arith}
use Rattle.tapa_syntax.specs.declared.lexeme.Lexeme.{Lexeme}
use Rattle.tapa_syntax.specs.Symbols.{symbol_of, symbols_of}
use Rattle.tapa_parse_expression.specs.Readers.{next}

pub next-drop : (source : List ℕ) (lexemes : List Lexeme) (n : ℕ) (l : Lexeme) → n < length lexemes → l ≡ get_or lexemes n l → next (drop n (symbols_of source lexemes)) ≡ (symbol_of source l).terminal
next-drop source [] n l lt e = absurd (omega (arith, lt))
next-drop source (x ∷ xs) zero l lt e = ap (λ y. (symbol_of source y).terminal) (sym e)
next-drop source (x ∷ xs) (suc n) l lt e = next-drop source xs n l (omega (arith, lt)) e
