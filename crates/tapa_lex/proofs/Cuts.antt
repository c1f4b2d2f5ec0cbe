-- What stands is cut, and where nothing stands the code tells what was begun.
use Rattle.std.proofs.Common.{◌≡◌, ℕ, ◌+◌, ◌<◌, Bool, true, false, cond, ◌&&◌, inl, inr, [], ◌∷◌, ◌++◌, append_assoc, length, take, drop, get_or, Option, Some, None, Ok, Err, refl, sym, ap, subst, ◌∙◌, arith, nat_eq, add-one, eqb-true, ne_eqb}
use Rattle.std.specs.List.{list_all}
use Rattle.std.proofs.lemmas.Bool.{false≢true}
use Rattle.std.proofs.lemmas.List.{length-append, take_at}
use Rattle.tapa_base.specs.declared.kind.Kind.{Kind}
use Rattle.tapa_syntax.specs.declared.lexeme.LexKind.{LexKind}
use Rattle.tapa_syntax.specs.declared.lexeme.LexKind.TheVariants as kind
use Rattle.tapa_base.specs.Gaps.{Bytes, is_blank, is_in_line, IsLineComment, has_close}
use Rattle.tapa_syntax.specs.Characters.{is_digit, is_letter, is_word_byte, is_plain, run, opens_line}
use Rattle.tapa_syntax.specs.Literals.{literal_of}
use Rattle.tapa_syntax.specs.Lexemes.{Stands, IsSkippedLine, IsWord, IsPunctuation, IsGap, IsLexeme, NothingStands}
use Rattle.tapa_syntax.specs.Comments.{closing}
use Rattle.tapa_lex.specs.Reading.{Cut, first_word, is_known, cut_literal, cut_string, cut_line, cut_comment, cut_sign, cut_mark, cut_quoted, cut_word, cut}
use Rattle.tapa_lex.specs.Refusals.{code_at}
use Rattle.tapa_lex.specs.declared.fault.LexCode.{LexCode}
use Rattle.tapa_lex.specs.declared.fault.LexCode.TheVariants.{L1, L2, L3, L4}
use Rattle.tapa_syntax.proofs.Runs.{split}
use Rattle.tapa_lex.proofs.Bytes.{letter_no_blank, digit_no_blank, digit_no_letter, single_apart}
use Rattle.tapa_lex.proofs.Signs.{sign_at, sign_cut, nothing_signed}
use Rattle.tapa_syntax.proofs.Comments.{line_run, closing_is}
use Rattle.tapa_lex.proofs.Gaps.{word_run, string_run, string_ends, skipped_word, skipped_run}

-- ---- one test after the other

blank_no : (opens : Bool) (b : ℕ) (y : Bytes) → is_blank b ≡ false → cut opens (b ∷ y) ≡ cut_word opens (b ∷ y)
unfolding cut
blank_no opens b y h = rw h refl

letter_yes : (opens : Bool) (b : ℕ) (y : Bytes) → is_letter b ≡ true → cut_word opens (b ∷ y) ≡ Ok (Some kind.Word, run is_word_byte (b ∷ y))
unfolding cut_word
letter_yes opens b y h = rw h refl

digit_yes : (opens : Bool) (b : ℕ) (y : Bytes) → is_letter b ≡ false → is_digit b ≡ true → cut_word opens (b ∷ y) ≡ cut_literal (run is_word_byte (b ∷ y)) (literal_of (take (run is_word_byte (b ∷ y)) (b ∷ y)))
unfolding cut_word
digit_yes opens b y f h = rw (f, h) refl

word_no : (opens : Bool) (b : ℕ) (y : Bytes) → is_letter b ≡ false → is_digit b ≡ false → cut_word opens (b ∷ y) ≡ cut_quoted opens (b ∷ y)
unfolding cut_word
word_no opens b y f g = rw (f, g) refl

quoted_no : (opens : Bool) (b : ℕ) (y : Bytes) → nat_eq b 34 ≡ false → nat_eq b 35 ≡ false → cut_quoted opens (b ∷ y) ≡ cut_mark (b ∷ y)
unfolding cut_quoted
quoted_no opens b y f g = rw (f, g) refl

mark_no : (b : ℕ) (y : Bytes) → (nat_eq b 47 && nat_eq (get_or y 0 0) 47) ≡ false → (nat_eq b 47 && nat_eq (get_or y 0 0) 42) ≡ false → cut_mark (b ∷ y) ≡ cut_sign (sign_at (b ∷ y))
unfolding cut_mark
mark_no b y f g = rw (f, g) refl

-- ---- each piece

-- a piece is cut whole
abbrev IsCut : Bytes → Option LexKind → Bytes → Bytes → Type 0
IsCut before sort bytes rest = cut (opens_line before) (bytes ++ rest) ≡ Ok (sort, length bytes)

blank_cut : (before : Bytes) (b : ℕ) (rest : Bytes) → is_blank b ≡ true → IsCut before None (b ∷ []) rest
unfolding cut
blank_cut before b rest h = rw h refl

line_cut : (before body rest : Bytes) → IsLineComment (47 ∷ 47 ∷ body) rest → IsCut before None (47 ∷ 47 ∷ body) rest
unfolding cut cut_word cut_quoted cut_mark
line_cut before body rest h = let of : ℕ → Cut = λ n. Ok (None, n) in ap of (line_run (47 ∷ 47 ∷ body) rest h)

block_cut : (before body rest : Bytes) → has_close (body ++ 42 ∷ []) ≡ false → IsCut before None (47 ∷ 42 ∷ (body ++ 42 ∷ 47 ∷ [])) rest
unfolding cut cut_word cut_quoted cut_mark
block_cut before body rest h =
    let of : ℕ → Cut = λ n. Ok (None, n) in
    ap cut_comment (ap closing (append_assoc body (42 ∷ 47 ∷ []) rest) ∙ closing_is body rest h) ∙ ap of (omega (arith, length-append body (42 ∷ 47 ∷ [])))

skipped_cut : (before w rest : Bytes) → IsSkippedLine before (35 ∷ w) rest → IsCut before None (35 ∷ w) rest
unfolding cut cut_word cut_quoted cut_line
skipped_cut before w rest h =
    let of : ℕ → Cut = λ n. Ok (None, n) in
    rw (h.first, skipped_word before (35 ∷ w) rest h) (ap of (skipped_run before (35 ∷ w) rest h))

name_cut : (before bytes rest : Bytes) → IsWord is_letter bytes rest → IsCut before (Some kind.Word) bytes rest
name_cut before [] rest h = absurd (false≢true h.begun)
name_cut before (b ∷ w) rest h =
    let of : ℕ → Cut = λ n. Ok (Some kind.Word, n) in
    blank_no (opens_line before) b (w ++ rest) (letter_no_blank b h.begun) ∙ letter_yes (opens_line before) b (w ++ rest) h.begun ∙ ap of (word_run is_letter (b ∷ w) rest h)

literal_cut : (before bytes rest : Bytes) (k : Kind) (v : ℕ) → IsWord is_digit bytes rest → literal_of bytes ≡ Some (k, v) → IsCut before (Some (kind.Literal k v)) bytes rest
literal_cut before [] rest k v h e = absurd (false≢true h.begun)
literal_cut before (b ∷ w) rest k v h e =
    let whole : take (length (b ∷ w)) ((b ∷ w) ++ rest) ≡ b ∷ w = take_at (b ∷ w) rest (length (b ∷ w)) refl in
    blank_no (opens_line before) b (w ++ rest) (digit_no_blank b h.begun)
    ∙ digit_yes (opens_line before) b (w ++ rest) (digit_no_letter b h.begun) h.begun
    ∙ ap (λ n. cut_literal n (literal_of (take n ((b ∷ w) ++ rest)))) (word_run is_digit (b ∷ w) rest h)
    ∙ ap (cut_literal (length (b ∷ w))) (ap literal_of whole ∙ e)

string_cut : (before body rest : Bytes) → list_all is_plain body ≡ true → IsCut before (Some kind.Str) (34 ∷ (body ++ 34 ∷ [])) rest
unfolding cut cut_word cut_quoted cut_string
string_cut before body rest h =
    let of : ℕ → Cut = λ n. Ok (Some kind.Str, n) in
    let y = (body ++ 34 ∷ []) ++ rest in
    let ends : get_or (34 ∷ y) (run is_plain y + 1) 0 ≡ 34 = rw add-one (ap (λ n. get_or y n 0) (string_run body rest h) ∙ string_ends body rest) in
    rw ends (ap of (omega (arith, string_run body rest h, length-append body (34 ∷ []))))

some_sign : (n : ℕ) → 0 < n → cut_sign n ≡ Ok (Some kind.Punct, n)
some_sign n some = rw (ne_eqb n 0 (λ e. omega arith)) refl

punctuation_cut : (before bytes rest : Bytes) → IsPunctuation bytes rest → IsCut before (Some kind.Punct) bytes rest
punctuation_cut before [] rest h = absurd (false≢true (sym nothing_signed ∙ h.sign))
punctuation_cut before (b ∷ w) rest h =
    let c = sign_cut (b ∷ w) rest h in
    let apart = single_apart b c.first in
    blank_no (opens_line before) b (w ++ rest) apart.blank
    ∙ word_no (opens_line before) b (w ++ rest) apart.letter apart.digit
    ∙ quoted_no (opens_line before) b (w ++ rest) apart.quote apart.line
    ∙ mark_no b (w ++ rest) c.no_line c.no_block
    ∙ ap cut_sign c.length_is
    ∙ some_sign (length (b ∷ w)) (omega arith)

gap_cut : (before bytes rest : Bytes) → IsGap before bytes rest → IsCut before None bytes rest
gap_cut before bytes rest (inl h) = subst (λ (l : Bytes). IsCut before None l rest) (sym h.1) (blank_cut before h.0 rest h.2)
gap_cut before bytes rest (inr (inl h)) = subst (λ (l : Bytes). IsCut before None l rest) (sym h.1) (line_cut before h.0 rest (h.0, refl, h.2, h.3))
gap_cut before bytes rest (inr (inr (inl h))) = subst (λ (l : Bytes). IsCut before None l rest) (sym h.1) (block_cut before h.0 rest h.2)
gap_cut before bytes rest (inr (inr (inr h))) = subst (λ (l : Bytes). IsSkippedLine before l rest → IsCut before None l rest) (sym h.is) (skipped_cut before (h.blanks ++ (h.word ++ h.more)) rest) h

lexeme_cut : (before : Bytes) (k : LexKind) (bytes rest : Bytes) → IsLexeme k bytes rest → IsCut before (Some k) bytes rest
lexeme_cut before kind.Word bytes rest h = name_cut before bytes rest h
lexeme_cut before (kind.Literal k v) bytes rest h = literal_cut before bytes rest k v h.0 h.1
lexeme_cut before kind.Str bytes rest h = subst (λ (l : Bytes). IsCut before (Some kind.Str) l rest) (sym h.1) (string_cut before h.0 rest h.2)
lexeme_cut before kind.Punct bytes rest h = punctuation_cut before bytes rest h

-- what stands is cut
pub is_cut : (before : Bytes) (sort : Option LexKind) (bytes rest : Bytes) → Stands before sort bytes rest → cut (opens_line before) (bytes ++ rest) ≡ Ok (sort, length bytes)
is_cut before None bytes rest h = gap_cut before bytes rest h
is_cut before (Some k) bytes rest h = lexeme_cut before k bytes rest h

-- no piece is empty
gap_some : (before bytes rest : Bytes) → IsGap before bytes rest → 0 < length bytes
gap_some before bytes rest (inl h) = omega (arith, ap length h.1)
gap_some before bytes rest (inr (inl h)) = omega (arith, ap length h.1)
gap_some before bytes rest (inr (inr (inl h))) = omega (arith, ap length h.1)
gap_some before bytes rest (inr (inr (inr h))) = omega (arith, ap length h.is)

word_some : (first : ℕ → Bool) (bytes rest : Bytes) → IsWord first bytes rest → 0 < length bytes
word_some first [] rest h = absurd (false≢true h.begun)
word_some first (b ∷ w) rest h = omega arith

sign_some : (bytes rest : Bytes) → IsPunctuation bytes rest → 0 < length bytes
sign_some [] rest h = absurd (false≢true (sym nothing_signed ∙ h.sign))
sign_some (b ∷ w) rest h = omega arith

lexeme_some : (k : LexKind) (bytes rest : Bytes) → IsLexeme k bytes rest → 0 < length bytes
lexeme_some kind.Word bytes rest h = word_some is_letter bytes rest h
lexeme_some (kind.Literal k v) bytes rest h = word_some is_digit bytes rest h.0
lexeme_some kind.Str bytes rest h = omega (arith, ap length h.1)
lexeme_some kind.Punct bytes rest h = sign_some bytes rest h

pub is_some : (before : Bytes) (sort : Option LexKind) (bytes rest : Bytes) → Stands before sort bytes rest → 0 < length bytes
is_some before None bytes rest h = gap_some before bytes rest h
is_some before (Some k) bytes rest h = lexeme_some k bytes rest h

-- ---- refusals

err_same : (c d : LexCode) → (let p : Cut = Err c in let q : Cut = Err d in p ≡ q) → d ≡ c
err_same c d e = cc

literal_code : (opens : Bool) (b : ℕ) (y : Bytes) (code : LexCode) (n : ℕ) (o : Option (Kind × ℕ)) → is_digit b ≡ true → cut_literal n o ≡ Err code → code ≡ code_at opens (b ∷ y)
literal_code opens b y code n None h e = err_same L3 code e ∙ rw h refl
literal_code opens b y code n (Some l) h e = absurd cc

comment_code : (opens : Bool) (b : ℕ) (y : Bytes) (code : LexCode) (o : Option ℕ) → is_digit b ≡ false → nat_eq b 34 ≡ false → nat_eq b 35 ≡ false → (nat_eq b 47 && nat_eq (get_or y 0 0) 42) ≡ true → cut_comment o ≡ Err code → code ≡ code_at opens (b ∷ y)
comment_code opens b y code None d q l h e = err_same L2 code e ∙ rw (d, q, l, h) refl
comment_code opens b y code (Some n) d q l h e = absurd cc

mark_code : (opens : Bool) (b : ℕ) (y : Bytes) (code : LexCode) → is_digit b ≡ false → nat_eq b 34 ≡ false → nat_eq b 35 ≡ false → cut_mark (b ∷ y) ≡ Err code → code ≡ code_at opens (b ∷ y)
unfolding cut_mark
mark_code opens b y code d q l e =
    split (nat_eq b 47 && nat_eq (get_or y 0 0) 47) (Ok (None, run is_in_line (b ∷ y))) (cond (nat_eq b 47 && nat_eq (get_or y 0 0) 42) (cut_comment (closing (drop 1 y))) (cut_sign (sign_at (b ∷ y)))) (Err code) e
    (λ t is. absurd cc)
    (λ f e1. split (nat_eq b 47 && nat_eq (get_or y 0 0) 42) (cut_comment (closing (drop 1 y))) (cut_sign (sign_at (b ∷ y))) (Err code) e1
    (λ t is. comment_code opens b y code (closing (drop 1 y)) d q l t is)
    (λ g is. split (nat_eq (sign_at (b ∷ y)) 0) (Err L1) (Ok (Some kind.Punct, sign_at (b ∷ y))) (Err code) is
    (λ t e2. err_same L1 code e2 ∙ rw (d, q, l, g) refl)
    (λ t e2. absurd cc)))

string_code : (opens : Bool) (y : Bytes) (code : LexCode) → cut_string (34 ∷ y) ≡ Err code → code ≡ code_at opens (34 ∷ y)
unfolding cut_string
string_code opens y code e =
    split (nat_eq (get_or (34 ∷ y) (run is_plain y + 1) 0) 34) (Ok (Some kind.Str, run is_plain y + 2)) (Err L2) (Err code) e
    (λ t is. absurd cc)
    (λ f is. err_same L2 code is)

line_code : (opens : Bool) (y : Bytes) (code : LexCode) → cut_line opens (35 ∷ y) ≡ Err code → code ≡ code_at opens (35 ∷ y)
unfolding cut_line
line_code false y code e = err_same L1 code e
line_code true y code e =
    split (is_known (first_word (35 ∷ y))) (Ok (None, run is_in_line (35 ∷ y))) (Err L4) (Err code) e
    (λ t is. absurd cc)
    (λ f is. err_same L4 code is)

quoted_code : (opens : Bool) (b : ℕ) (y : Bytes) (code : LexCode) → is_digit b ≡ false → cut_quoted opens (b ∷ y) ≡ Err code → code ≡ code_at opens (b ∷ y)
unfolding cut_quoted
quoted_code opens b y code d e =
    split (nat_eq b 34) (cut_string (b ∷ y)) (cond (nat_eq b 35) (cut_line opens (b ∷ y)) (cut_mark (b ∷ y))) (Err code) e
    (λ t is. let at : b ≡ 34 = eqb-true b 34 t in subst (λ (x : ℕ). code ≡ code_at opens (x ∷ y)) (sym at) (string_code opens y code (subst (λ (x : ℕ). cut_string (x ∷ y) ≡ Err code) at is)))
    (λ q e1. split (nat_eq b 35) (cut_line opens (b ∷ y)) (cut_mark (b ∷ y)) (Err code) e1
    (λ t is. let at : b ≡ 35 = eqb-true b 35 t in subst (λ (x : ℕ). code ≡ code_at opens (x ∷ y)) (sym at) (line_code opens y code (subst (λ (x : ℕ). cut_line opens (x ∷ y) ≡ Err code) at is)))
    (λ l is. mark_code opens b y code d q l is))

word_code : (opens : Bool) (b : ℕ) (y : Bytes) (code : LexCode) → cut_word opens (b ∷ y) ≡ Err code → code ≡ code_at opens (b ∷ y)
unfolding cut_word
word_code opens b y code e =
    split (is_letter b) (Ok (Some kind.Word, run is_word_byte (b ∷ y))) (cond (is_digit b) (cut_literal (run is_word_byte (b ∷ y)) (literal_of (take (run is_word_byte (b ∷ y)) (b ∷ y)))) (cut_quoted opens (b ∷ y))) (Err code) e
    (λ t is. absurd cc)
    (λ f e1. split (is_digit b) (cut_literal (run is_word_byte (b ∷ y)) (literal_of (take (run is_word_byte (b ∷ y)) (b ∷ y)))) (cut_quoted opens (b ∷ y)) (Err code) e1
    (λ t is. literal_code opens b y code (run is_word_byte (b ∷ y)) (literal_of (take (run is_word_byte (b ∷ y)) (b ∷ y))) t is)
    (λ d is. quoted_code opens b y code d is))

-- the code of a refusal
pub code_is : (opens : Bool) (z : Bytes) (code : LexCode) → 0 < length z → cut opens z ≡ Err code → code ≡ code_at opens z
unfolding cut
code_is opens [] code some e = absurd (omega arith)
code_is opens (b ∷ y) code some e =
    split (is_blank b) (Ok (None, 1)) (cut_word opens (b ∷ y)) (Err code) e
    (λ t is. absurd cc)
    (λ f is. word_code opens b y code is)

-- where the cut refuses, nothing stands
pub nothing_stands : (before z : Bytes) (code : LexCode) → cut (opens_line before) z ≡ Err code → NothingStands before z
nothing_stands before z code e = λ sort bytes rest is h. apart sort (length bytes) (sym (ap (cut (opens_line before)) is ∙ e) ∙ is_cut before sort bytes rest h)
  where
    apart : (sort : Option LexKind) (n : ℕ) → (let p : Cut = Err code in let q : Cut = Ok (sort, n) in p ≡ q) → ⊥
    apart sort n e = cc
