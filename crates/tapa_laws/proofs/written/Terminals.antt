-- What a lexeme is, by its terminal.
use Rattle.std.proofs.Common.{◌≡◌, ℕ, Bool, true, false, cond, not, ◌||◌, List, [], ◌∷◌, ◌++◌, drop, refl, sym, ap, subst, ◌∙◌, arith}
use Rattle.std.specs.Prelude.{bytes_eq, codes}
use Rattle.std.specs.Char.{is_ascii}
use Rattle.std.specs.List.{list_all}
use Rattle.std.proofs.lemmas.Bool.{and_parts, false≢true, not-true}
use Rattle.std.proofs.lemmas.List.Folds.{drop_split}
use Rattle.std.proofs.lemmas.Slice.Eq.{bytes_eq-Decides}
use Rattle.tapa_base.specs.Gaps.{Bytes}
use Rattle.tapa_syntax.specs.Characters.{is_letter}
use Rattle.tapa_syntax.specs.declared.lexeme.LexKind.{LexKind}
use Rattle.tapa_syntax.specs.declared.lexeme.LexKind.TheVariants as lex_kind
use Rattle.tapa_syntax.specs.declared.lexeme.Lexeme.{Lexeme}
use Rattle.tapa_syntax.specs.declared.terminal.Terminal.{Terminal}
use Rattle.tapa_syntax.specs.declared.terminal.Terminal.TheVariants as terminal
use Rattle.tapa_syntax.specs.Grammar.{is_name}
use Rattle.tapa_syntax.specs.Lexemes.{IsWord, IsLexeme, IsSliceOf}
use Rattle.tapa_syntax.specs.Symbols.{words, other_words, signs, look_up, word_terminal, sign_terminal, terminal_of, symbol_of, text_of}
use Rattle.tapa_parse_expression.specs.Readers.{same}
use Rattle.stream_arrays.specs.Standing.{terminal_at, is, is_named}
use Rattle.stream_arrays.proofs.Feeds.{text_is}
use Rattle.hw_build.proofs.Free.{closed_read as implied}

abbrev Table : Type 0
Table = List (List ℕ × Terminal)

-- ---- what a table says

abbrev has_none : (Terminal → Bool) → Table → Bool
has_none P table = list_all (λ (e : List ℕ × Terminal). not (P e.1)) table

-- no entry's terminal has a property
looked_none : (P : Terminal → Bool) (o : Terminal) (table : Table) (x : Bytes) → P o ≡ false → has_none P table ≡ true → P (look_up o table x) ≡ false
looked_none P o [] x h k = h
looked_none P o (e ∷ table) x h k =
    let parts = and_parts (not (P e.1)) (has_none P table) k in
    by (bytes_eq e.0 x) (not-true (P e.1) parts.0) (looked_none P o table x h parts.1)
  where
    by : (t : Bool) → P e.1 ≡ false → P (look_up o table x) ≡ false → P (cond t e.1 (look_up o table x)) ≡ false
    by true a b = a
    by false a b = b

abbrev has_only : (Terminal → Bool) → Bytes → Table → Bool
has_only P w table = list_all (λ (e : List ℕ × Terminal). not (P e.1) || bytes_eq e.0 w) table

-- only this text's terminal has a property
looked_only : (P : Terminal → Bool) (w : Bytes) (o : Terminal) (table : Table) (x : Bytes) → P o ≡ false → has_only P w table ≡ true → P (look_up o table x) ≡ true → x ≡ w
looked_only P w o [] x h k l = absurd (false≢true (sym h ∙ l))
looked_only P w o (e ∷ table) x h k l =
    let parts = and_parts (not (P e.1) || bytes_eq e.0 w) (has_only P w table) k in
    by (bytes_eq e.0 x) refl parts.0 (looked_only P w o table x h parts.1) l
  where
    by : (t : Bool) → bytes_eq e.0 x ≡ t → (not (P e.1) || bytes_eq e.0 w) ≡ true → (P (look_up o table x) ≡ true → x ≡ w) → P (cond t e.1 (look_up o table x)) ≡ true → x ≡ w
    by true is a more p = sym ((bytes_eq-Decides e.0 x).0 is) ∙ (bytes_eq-Decides e.0 w).0 (implied (P e.1) (bytes_eq e.0 w) a p)
    by false is a more p = more p

-- ---- lexemes

of_terminal : (P : Terminal → Bool) (text : Bytes) (l : Lexeme) → P terminal.Reserved ≡ false → P (terminal_at text l) ≡ true → P (terminal_of l.kind (text_of text l)) ≡ true
unfolding symbol_of
of_terminal P text l none h = by (list_all is_ascii (text_of text l)) h
  where
    by : (t : Bool) → P (cond t (terminal_of l.kind (text_of text l)) terminal.Reserved) ≡ true → P (terminal_of l.kind (text_of text l)) ≡ true
    by true k = k
    by false k = absurd (false≢true (sym none ∙ k))

-- a terminal that is no sign's, no literal's and no string's is a word's
record IsOfWords (P : Terminal → Bool) : Type 0 where
  reserved : P terminal.Reserved ≡ false
  literal : P terminal.Literal ≡ false
  string : P terminal.Str ≡ false
  signs : has_none P signs ≡ true

of_word : (P : Terminal → Bool) → IsOfWords P → (k : LexKind) (x : Bytes) → P (terminal_of k x) ≡ true → k ≡ lex_kind.Word
unfolding sign_terminal
of_word P p lex_kind.Word x h = refl
of_word P p (lex_kind.Literal k v) x h = absurd (false≢true (sym p.literal ∙ h))
of_word P p lex_kind.Str x h = absurd (false≢true (sym p.string ∙ h))
of_word P p lex_kind.Punct x h = absurd (false≢true (sym (looked_none P terminal.Reserved signs x p.reserved p.signs) ∙ h))

-- a terminal that only one sign has
record IsOfSign (P : Terminal → Bool) (w : Bytes) : Type 0 where
  reserved : P terminal.Reserved ≡ false
  literal : P terminal.Literal ≡ false
  string : P terminal.Str ≡ false
  name : P terminal.Name ≡ false
  words : has_none P words ≡ true
  others : has_none P other_words ≡ true
  signs : has_only P w signs ≡ true

of_sign : (P : Terminal → Bool) (w : Bytes) → IsOfSign P w → (k : LexKind) (x : Bytes) → P (terminal_of k x) ≡ true → x ≡ w
unfolding sign_terminal word_terminal
of_sign P w p lex_kind.Word x h =
    absurd (false≢true (sym (looked_none P (look_up terminal.Name other_words x) words x (looked_none P terminal.Name other_words x p.name p.others) p.words) ∙ h))
of_sign P w p (lex_kind.Literal k v) x h = absurd (false≢true (sym p.literal ∙ h))
of_sign P w p lex_kind.Str x h = absurd (false≢true (sym p.string ∙ h))
of_sign P w p lex_kind.Punct x h = looked_only P w terminal.Reserved signs x p.reserved p.signs h

-- a lexeme with its text
pub lexeme_is : (text : Bytes) (l : Lexeme) → IsSliceOf text l → IsLexeme l.kind (text_of text l) (drop l.to text)
lexeme_is text l h = subst (λ (x : Bytes). IsLexeme l.kind x (drop l.to text)) (sym (text_is text l h)) h.stands

pub from_lexeme : (text : Bytes) (l : Lexeme) → IsSliceOf text l → drop l.from text ≡ text_of text l ++ drop l.to text
from_lexeme text l h = drop_split text l.from l.to (omega (arith, h.some)) ∙ ap (λ (z : Bytes). z ++ drop l.to text) (sym (text_is text l h))

word_is : (text : Bytes) (l : Lexeme) → IsSliceOf text l → l.kind ≡ lex_kind.Word → IsWord is_letter (text_of text l) []
word_is text l h e =
    let w : IsWord is_letter (text_of text l) (drop l.to text) = subst (λ (k : LexKind). IsLexeme k (text_of text l) (drop l.to text)) e (lexeme_is text l h) in
    record { begun = w.begun; word = w.word; longest = refl }

name_words : IsOfWords is_name
name_words = record { reserved = refl; literal = refl; string = refl; signs = refl }

-- a name is a word
pub named_word : (text : Bytes) (l : Lexeme) → IsSliceOf text l → is_named text l ≡ true → IsWord is_letter (text_of text l) []
named_word text l h e = word_is text l h (of_word is_name name_words l.kind (text_of text l) (of_terminal is_name text l refl e))

abbrev is_tapa : Terminal → Bool
is_tapa t = same t terminal.Tapa

tapa_words : IsOfWords is_tapa
unfolding same
tapa_words = record { reserved = refl; literal = refl; string = refl; signs = refl }

pub tapa_word : (text : Bytes) (l : Lexeme) → IsSliceOf text l → is text terminal.Tapa l ≡ true → IsWord is_letter (text_of text l) []
tapa_word text l h e = word_is text l h (of_word is_tapa tapa_words l.kind (text_of text l) (of_terminal is_tapa text l tapa_words.reserved e))

abbrev is_closing : Terminal → Bool
is_closing t = same t terminal.RightParen

closing_sign : IsOfSign is_closing (codes ")")
unfolding same
closing_sign = record { reserved = refl; literal = refl; string = refl; name = refl; words = refl; others = refl; signs = refl }

pub closing_text : (text : Bytes) (l : Lexeme) → is text terminal.RightParen l ≡ true → text_of text l ≡ codes ")"
closing_text text l e = of_sign is_closing (codes ")") closing_sign l.kind (text_of text l) (of_terminal is_closing text l closing_sign.reserved e)

abbrev is_comma : Terminal → Bool
is_comma t = same t terminal.Comma

comma_sign : IsOfSign is_comma (codes ",")
unfolding same
comma_sign = record { reserved = refl; literal = refl; string = refl; name = refl; words = refl; others = refl; signs = refl }

pub comma_text : (text : Bytes) (l : Lexeme) → is text terminal.Comma l ≡ true → text_of text l ≡ codes ","
comma_text text l e = of_sign is_comma (codes ",") comma_sign l.kind (text_of text l) (of_terminal is_comma text l comma_sign.reserved e)
