-- The line feeds of texts: words have none, and a form has those that stand within it.
use Rattle.std.proofs.Common.{◌≡◌, ℕ, zero, suc, ◌+◌, ◌-◌, ◌<◌, ◌/◌, ◌%◌, Bool, true, false, cond, ◌&&◌, ◌||◌, List, [], ◌∷◌, ◌++◌, map, length, take, drop, refl, sym, ap, ◌∙◌, subst, arith, eqb-true}
use Rattle.std.specs.Prelude.{◌==◌, nat_le, nat_lt, slice_range, bytes_eq, codes, decimal}
use Rattle.std.specs.List.{filter, flat_map, list_all, list_any, AllByRecursion}
use Rattle.std.specs.Fmt.{digits, digits_onto, digit_glyph}
use Rattle.std.proofs.lemmas.Bool.{and_parts}
use Rattle.std.proofs.lemmas.List.Elements.{filter-append}
use Rattle.std.proofs.lemmas.Slice.Eq.{bytes_eq-Decides}
use Rattle.tapa_base.specs.Gaps.{Bytes}
use Rattle.tapa_syntax.specs.Characters.{is_digit, is_letter, is_word_byte, is_plain}
use Rattle.tapa_syntax.specs.declared.lexeme.LexKind.{LexKind}
use Rattle.tapa_syntax.specs.declared.lexeme.LexKind.TheVariants as lex_kind
use Rattle.tapa_syntax.specs.declared.lexeme.Lexeme.{Lexeme}
use Rattle.tapa_syntax.specs.Lexemes.{IsLexeme, IsSliceOf, signs, is_sign}
use Rattle.tapa_syntax.specs.Symbols.{text_of}
use Rattle.stream_arrays.specs.Words.{spaced, is_line_feed, start_of, end_of, line_feeds, form_text, element_name}

abbrev pub feeds : Bytes → Bytes
feeds b = filter is_line_feed b

abbrev pub Clean : Bytes → Type 0
Clean b = feeds b ≡ []

pub clean_both : (a b : Bytes) → Clean a → Clean b → Clean (a ++ b)
clean_both a b h k = filter-append is_line_feed a b ∙ ap (λ z. z ++ feeds b) h ∙ k

-- ---- bytes of which none is a line feed

no_feed : (p : ℕ → Bool) → p 10 ≡ false → (b : ℕ) → p b ≡ true → is_line_feed b ≡ false
no_feed p none b h = by (b == 10) refl
  where
    by : (t : Bool) → (b == 10) ≡ t → t ≡ false
    by false e = refl
    by true e = let there : p 10 ≡ true = subst (λ x. p x ≡ true) (eqb-true b 10 e) h in absurd cc

clean_all : (p : ℕ → Bool) → p 10 ≡ false → (xs : Bytes) → list_all p xs ≡ true → Clean xs
clean_all p none [] h = refl
clean_all p none (x ∷ xs) h =
    let parts = and_parts (p x) (list_all p xs) h in
    ap (λ t. cond t (x ∷ feeds xs) (feeds xs)) (no_feed p none x parts.0) ∙ clean_all p none xs parts.1

-- ---- digits

above : (n : ℕ) → 10 < n → is_line_feed n ≡ false
above n h = by (n == 10) refl
  where
    by : (t : Bool) → (n == 10) ≡ t → t ≡ false
    by false e = refl
    by true e = let same : n ≡ 10 = eqb-true n 10 e in absurd (omega arith)

glyph_clean : (d : ℕ) → is_line_feed (digit_glyph false d) ≡ false
glyph_clean d = by (nat_lt d 10)
  where
    by : (t : Bool) → is_line_feed (cond t (48 + d) (87 + d)) ≡ false
    by true = above (48 + d) (omega arith)
    by false = above (87 + d) (omega arith)

onto_clean : (k n : ℕ) (acc : Bytes) → Clean acc → Clean (digits_onto k 10 false n acc)
onto_clean zero n acc h = h
onto_clean (suc k) n acc h = by (n / 10 == 0) (onto_clean k (n / 10) (digit_glyph false (n % 10) ∷ acc) next)
  where
    next : Clean (digit_glyph false (n % 10) ∷ acc)
    next = ap (λ t. cond t (digit_glyph false (n % 10) ∷ feeds acc) (feeds acc)) (glyph_clean (n % 10)) ∙ h

    by : (t : Bool) → Clean (digits_onto k 10 false (n / 10) (digit_glyph false (n % 10) ∷ acc)) → Clean (cond t (digit_glyph false (n % 10) ∷ acc) (digits_onto k 10 false (n / 10) (digit_glyph false (n % 10) ∷ acc)))
    by true more = next
    by false more = more

decimal_clean : (n : ℕ) → Clean (decimal n)
unfolding digits
decimal_clean n = onto_clean 64 n [] refl

pub element_clean : (x : Bytes) (i : ℕ) → Clean x → Clean (element_name x i)
element_clean x i h = clean_both (x ++ codes "_") (decimal i) (clean_both x (codes "_") h refl) (decimal_clean i)

-- ---- lexemes

sign_clean : (ss : List Bytes) (x : Bytes) → AllByRecursion Clean ss → list_any (bytes_eq x) ss ≡ true → Clean x
sign_clean [] x h e = absurd cc
sign_clean (s ∷ ss) x h e = by (bytes_eq x s) refl (sign_clean ss x h.1) e
  where
    by : (t : Bool) → bytes_eq x s ≡ t → (list_any (bytes_eq x) ss ≡ true → Clean x) → (t || list_any (bytes_eq x) ss) ≡ true → Clean x
    by true f more g = subst Clean (sym ((bytes_eq-Decides x s).0 f)) h.0
    by false f more g = more g

of_sign : (x : Bytes) → is_sign x ≡ true → Clean x
unfolding is_sign
of_sign x h = sign_clean signs x
    (refl, (refl, (refl, (refl, (refl, (refl, (refl, (refl, (refl, (refl, (refl, (refl, (refl, (refl, (refl, (refl, (refl, (refl, (refl, (refl, (refl, (refl, (refl, (refl, (refl, (refl, (refl, (refl, (refl, (refl, (refl, (refl, (refl, (refl, (refl, (refl, (refl, (refl, (refl, (refl, (refl, (refl, (refl, (refl, (refl, tt))))))))))))))))))))))))))))))))))))))))))))) h

bytes_clean : (k : LexKind) (x rest : Bytes) → IsLexeme k x rest → Clean x
bytes_clean lex_kind.Word x rest h = clean_all is_word_byte refl x h.word
bytes_clean (lex_kind.Literal kind value) x rest h = clean_all is_word_byte refl x h.0.word
bytes_clean lex_kind.Str x rest (body, is, plain) =
    subst Clean (sym is) (clean_both (34 ∷ body) (34 ∷ []) (clean_all is_plain refl body plain) refl)
bytes_clean lex_kind.Punct x rest h = of_sign x h.sign

pub text_is : (text : Bytes) (l : Lexeme) → IsSliceOf text l → text_of text l ≡ slice_range text l.from l.to
unfolding text_of
text_is text l h =
    let ordered : nat_le l.from l.to ≡ true = grind (arith, h.some) in
    let within : nat_le l.to (length text) ≡ true = grind (arith, h.within) in
    rw (ordered, within) refl

-- the text of a lexeme has no line feed
pub lexeme_clean : (text : Bytes) (l : Lexeme) → IsSliceOf text l → Clean (text_of text l)
lexeme_clean text l h = subst Clean (sym (text_is text l h)) (bytes_clean l.kind _ (drop l.to text) h.stands)

-- ---- words with spaces, and forms

clean_rest : (ws : List Bytes) → AllByRecursion Clean ws → Clean (flat_map (λ v. 32 ∷ v) ws)
clean_rest [] h = refl
clean_rest (w ∷ ws) h = clean_both (32 ∷ w) (flat_map (λ v. 32 ∷ v) ws) h.0 (clean_rest ws h.1)

spaced_clean : (ws : List Bytes) → AllByRecursion Clean ws → Clean (spaced ws)
spaced_clean [] h = refl
spaced_clean (w ∷ ws) h = clean_both w (flat_map (λ v. 32 ∷ v) ws) h.0 (clean_rest ws h.1)

feeds_again : (xs : Bytes) → feeds (feeds xs) ≡ feeds xs
feeds_again [] = refl
feeds_again (x ∷ xs) = by (is_line_feed x) refl (feeds_again xs)
  where
    by : (t : Bool) → is_line_feed x ≡ t → feeds (feeds xs) ≡ feeds xs → feeds (cond t (x ∷ feeds xs) (feeds xs)) ≡ cond t (x ∷ feeds xs) (feeds xs)
    by true e more = ap (λ t. cond t (x ∷ feeds (feeds xs)) (feeds (feeds xs))) e ∙ ap (λ z. x ∷ z) more
    by false e more = more

-- what is written of a form has the line feeds between its first lexeme's first byte and its last one's last
pub form_feeds : (text : Bytes) (ls : List Lexeme) (ws : List Bytes) → AllByRecursion Clean ws → feeds (form_text text ls ws) ≡ feeds (slice_range text (start_of ls) (end_of 0 ls))
form_feeds text ls ws h =
    filter-append is_line_feed (spaced ws) (line_feeds text ls) ∙ ap (λ z. z ++ feeds (line_feeds text ls)) (spaced_clean ws h) ∙ feeds_again (slice_range text (start_of ls) (end_of 0 ls))
