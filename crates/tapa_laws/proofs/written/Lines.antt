-- Whether a line has only blanks so far, behind a text and behind another one.
use Rattle.std.proofs.Common.{◌≡◌, ℕ, Bool, true, false, not, cond, [], ◌∷◌, ◌++◌, append_assoc, append-nil, refl, sym, ap, subst, ◌∙◌, arith}
use Rattle.std.specs.Prelude.{◌==◌}
use Rattle.std.specs.List.{list_all}
use Rattle.std.proofs.lemmas.Bool.{and_parts, and_from, and_left, and_right, false≢true}
use Rattle.std.proofs.lemmas.Bool.Decides.{nat_tests}
use Rattle.tapa_base.specs.Gaps.{Bytes, is_blank, is_in_line}
use Rattle.tapa_syntax.specs.declared.lexeme.LexKind.{LexKind}
use Rattle.tapa_syntax.specs.declared.lexeme.LexKind.TheVariants as kind
use Rattle.tapa_syntax.specs.Characters.{is_letter, is_digit, is_word_byte, is_plain, line_behind, last_line, opens_line}
use Rattle.tapa_syntax.specs.Lexemes.{IsWord, IsPunctuation, IsLexeme}
use Rattle.tapa_lex.specs.Reading.{is_single, singles}
use Rattle.tapa_lex.proofs.Bytes.{one_of, single_apart, letter_no_blank, digit_no_blank, word_in_line}
use Rattle.tapa_lex.proofs.Signs.{nothing_signed}
use Rattle.tapa_laws.proofs.written.Follows.{all_single}
use Rattle.tapa_syntax.proofs.Places.{line_behind_append as line_append}

all_front : (p : ℕ → Bool) (xs : Bytes) (b : ℕ) → list_all p (xs ++ b ∷ []) ≡ true → (list_all p xs ≡ true) × (p b ≡ true)
all_front p [] b h = (refl, (and_parts (p b) true h).0)
all_front p (x ∷ xs) b h =
    let parts = and_parts (p x) (list_all p (xs ++ b ∷ [])) h in
    let more = all_front p xs b parts.1 in
    (and_from (p x) (list_all p xs) parts.0 more.0, more.1)

all_push : (p : ℕ → Bool) (xs : Bytes) (b : ℕ) → list_all p xs ≡ true → p b ≡ true → list_all p (xs ++ b ∷ []) ≡ true
all_push p [] b h k = and_from (p b) true k refl
all_push p (x ∷ xs) b h k =
    let parts = and_parts (p x) (list_all p xs) h in
    and_from (p x) (list_all p (xs ++ b ∷ [])) parts.0 (all_push p xs b parts.1 k)

all_of : (p q : ℕ → Bool) → ((b : ℕ) → p b ≡ true → q b ≡ true) → (xs : Bytes) → list_all p xs ≡ true → list_all q xs ≡ true
all_of p q each [] h = refl
all_of p q each (x ∷ xs) h =
    let parts = and_parts (p x) (list_all p xs) h in
    and_from (q x) (list_all q xs) (each x parts.0) (all_of p q each xs parts.1)

-- ---- the same bytes behind two texts

line_more : (x y z : Bytes) → (list_all is_blank x ≡ true → list_all is_blank y ≡ true) → list_all is_blank (line_behind x z) ≡ true → list_all is_blank (line_behind y z) ≡ true
line_more x y [] f h = f h
line_more x y (b ∷ z) f h = line_more (cond (b == 10) [] (x ++ b ∷ [])) (cond (b == 10) [] (y ++ b ∷ [])) z (one (b == 10)) h
  where
    one : (t : Bool) → list_all is_blank (cond t [] (x ++ b ∷ [])) ≡ true → list_all is_blank (cond t [] (y ++ b ∷ [])) ≡ true
    one true k = refl
    one false k = let parts = all_front is_blank x b k in all_push is_blank y b (f parts.0) parts.1

-- where a line begins behind the one, it begins behind the other
pub opens_more : (old new bytes : Bytes) → (opens_line old ≡ true → opens_line new ≡ true) → opens_line (old ++ bytes) ≡ true → opens_line (new ++ bytes) ≡ true
opens_more old new bytes f h =
    subst (λ (l : Bytes). list_all is_blank l ≡ true) (sym (line_append [] new bytes))
    (line_more (last_line old) (last_line new) bytes f (subst (λ (l : Bytes). list_all is_blank l ≡ true) (line_append [] old bytes) h))

-- ---- no line begins behind a lexeme

kept : (x bytes : Bytes) → list_all is_in_line bytes ≡ true → line_behind x bytes ≡ x ++ bytes
kept x [] h = sym (append-nil x)
kept x (b ∷ z) h =
    let parts = and_parts (is_in_line b) (list_all is_in_line z) h in
    ap (λ t. line_behind (cond t [] (x ++ b ∷ [])) z) (no_feed (b == 10) parts.0) ∙ kept (x ++ b ∷ []) z parts.1 ∙ append_assoc x (b ∷ []) z
  where
    no_feed : (t : Bool) → not t ≡ true → t ≡ false
    no_feed true e = absurd (false≢true e)
    no_feed false e = refl

not_blank : (x : Bytes) (b : ℕ) (w : Bytes) → is_blank b ≡ false → list_all is_blank (x ++ b ∷ w) ≡ false
not_blank [] b w h = and_left (is_blank b) (list_all is_blank w) h
not_blank (c ∷ x) b w h = and_right (is_blank c) (list_all is_blank (x ++ b ∷ w)) (not_blank x b w h)

closes : (old : Bytes) (b : ℕ) (w : Bytes) → list_all is_in_line (b ∷ w) ≡ true → is_blank b ≡ false → opens_line (old ++ b ∷ w) ≡ false
closes old b w h k = ap (list_all is_blank) (line_append [] old (b ∷ w) ∙ kept (last_line old) (b ∷ w) h) ∙ not_blank (last_line old) b w k

plain_in_line : (b : ℕ) → is_plain b ≡ true → is_in_line b ≡ true
plain_in_line b h = grind (arith, nat_tests)

single_in_line : (b : ℕ) → is_single b ≡ true → is_in_line b ≡ true
single_in_line b h = one_of is_in_line singles b refl h

word_closes : (first : ℕ → Bool) → ((b : ℕ) → first b ≡ true → is_blank b ≡ false) → (old bytes rest : Bytes) → IsWord first bytes rest → opens_line (old ++ bytes) ≡ false
word_closes first apart old [] rest h = absurd (false≢true h.begun)
word_closes first apart old (b ∷ w) rest h = closes old b w (all_of is_word_byte is_in_line word_in_line (b ∷ w) h.word) (apart b h.begun)

sign_closes : (old bytes rest : Bytes) → IsPunctuation bytes rest → opens_line (old ++ bytes) ≡ false
sign_closes old [] rest h = absurd (false≢true (sym nothing_signed ∙ h.sign))
sign_closes old (b ∷ w) rest h =
    let all = all_single (b ∷ w) h.sign in
    closes old b w (all_of is_single is_in_line single_in_line (b ∷ w) all) (single_apart b (and_parts (is_single b) (list_all is_single w) all).0).blank

pub lexeme_closes : (old : Bytes) (k : LexKind) (bytes rest : Bytes) → IsLexeme k bytes rest → opens_line (old ++ bytes) ≡ false
lexeme_closes old kind.Word bytes rest h = word_closes is_letter letter_no_blank old bytes rest h
lexeme_closes old (kind.Literal k v) bytes rest h = word_closes is_digit digit_no_blank old bytes rest h.0
lexeme_closes old kind.Str bytes rest h =
    subst (λ (l : Bytes). opens_line (old ++ l) ≡ false) (sym h.1)
    (closes old 34 (h.0 ++ 34 ∷ []) (all_push is_in_line h.0 34 (all_of is_plain is_in_line plain_in_line h.0 h.2) refl) refl)
lexeme_closes old kind.Punct bytes rest h = sign_closes old bytes rest h
