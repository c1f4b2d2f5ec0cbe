-- What is cut stands, and what stands is cut.
use Rattle.std.proofs.Common.{◌≡◌, ℕ, ◌+◌, ◌<◌, ◌≤◌, true, false, cond, ◌&&◌, inl, inr, [], ◌∷◌, length, take, drop, get_or, Option, Some, None, Ok, Err, refl, sym, subst, arith, nat_eq, add-one, eqb-true}
use Rattle.std.proofs.lemmas.Bool.{and_parts, false≢true, eqb-false}
use Rattle.tapa_base.specs.declared.kind.Kind.{Kind}
use Rattle.tapa_syntax.specs.declared.lexeme.LexKind.{LexKind}
use Rattle.tapa_syntax.specs.declared.lexeme.LexKind.TheVariants as kind
use Rattle.tapa_base.specs.Gaps.{Bytes, is_blank, is_in_line}
use Rattle.tapa_syntax.specs.Characters.{is_digit, is_letter, is_word_byte, is_plain, run, opens_line}
use Rattle.tapa_syntax.specs.Literals.{literal_of}
use Rattle.tapa_syntax.specs.Lexemes.{Stands}
use Rattle.tapa_syntax.specs.Comments.{closing}
use Rattle.tapa_lex.specs.Reading.{Cut, first_word, is_known, cut_literal, cut_string, cut_line, cut_comment, cut_sign, cut_mark, cut_quoted, cut_word, cut}
use Rattle.tapa_lex.specs.declared.fault.LexCode.TheVariants.{L1, L2, L4}
use Rattle.tapa_syntax.proofs.Runs.{split, run_within, run_some}
use Rattle.tapa_lex.proofs.Bytes.{letter_in_word, digit_in_word}
use Rattle.tapa_lex.proofs.Signs.{sign_at, sign_stands}
use Rattle.tapa_syntax.proofs.Comments.{line_stands, Closes, closing_stands, block_stands}
use Rattle.tapa_lex.proofs.Gaps.{word_stands, string_stands, skipped_stands}

-- a piece of n bytes stands in front of a text
pub record Found (before z : Bytes) (sort : Option LexKind) (n : ℕ) : Type 0 where
  pub stands : Stands before sort (take n z) (drop n z)
  pub some : 0 < n
  pub within : n ≤ length z

abbrev Sort : Type 0
Sort = Option LexKind

ok_same : (x y : Sort × ℕ) → (let p : Cut = Ok x in let q : Cut = Ok y in p ≡ q) → x ≡ y
ok_same x y e = cc

found_at : (before z : Bytes) (s t : Sort) (n m : ℕ) → Found before z s n → (let p : Cut = Ok (s, n) in let q : Cut = Ok (t, m) in p ≡ q) → Found before z t m
found_at before z s t n m f e = subst (λ (p : Sort × ℕ). Found before z p.0 p.1) (ok_same (s, n) (t, m) e) f

-- ---- marks

line_found : (before : Bytes) (b : ℕ) (y : Bytes) → (nat_eq b 47 && nat_eq (get_or y 0 0) 47) ≡ true → Found before (b ∷ y) None (run is_in_line (b ∷ y))
line_found before b [] h = absurd (false≢true (and_parts (nat_eq b 47) false h).1)
line_found before b (c ∷ y) h =
    let both = and_parts (nat_eq b 47) (nat_eq c 47) h in
    subst (λ (x : ℕ). Found before (x ∷ c ∷ y) None (run is_in_line (x ∷ c ∷ y))) (sym (eqb-true b 47 both.0))
    (subst (λ (x : ℕ). Found before (47 ∷ x ∷ y) None (run is_in_line (47 ∷ x ∷ y))) (sym (eqb-true c 47 both.1))
    (record { stands = inr (inl (line_stands y)); some = omega arith; within = run_within is_in_line (47 ∷ 47 ∷ y) }))

closed_found : (before y : Bytes) (n : ℕ) → Closes y n → Found before (47 ∷ 42 ∷ y) None (n + 2)
closed_found before y n c = record { stands = inr (inr (inl (block_stands y n c))); some = omega arith; within = omega (arith, c.within) }

comment_found : (before y : Bytes) (s : Sort) (n : ℕ) (o : Option ℕ) → closing y ≡ o → cut_comment o ≡ Ok (s, n) → Found before (47 ∷ 42 ∷ y) s n
comment_found before y s n None e is = absurd cc
comment_found before y s n (Some m) e is = found_at before (47 ∷ 42 ∷ y) None s (m + 2) n (closed_found before y m (closing_stands y m e)) is

block_found : (before : Bytes) (b : ℕ) (y : Bytes) (s : Sort) (n : ℕ) → (nat_eq b 47 && nat_eq (get_or y 0 0) 42) ≡ true → cut_comment (closing (drop 1 y)) ≡ Ok (s, n) → Found before (b ∷ y) s n
block_found before b [] s n h e = absurd (false≢true (and_parts (nat_eq b 47) false h).1)
block_found before b (c ∷ y) s n h e =
    let both = and_parts (nat_eq b 47) (nat_eq c 42) h in
    subst (λ (x : ℕ). Found before (x ∷ c ∷ y) s n) (sym (eqb-true b 47 both.0))
    (subst (λ (x : ℕ). Found before (47 ∷ x ∷ y) s n) (sym (eqb-true c 42 both.1))
    (comment_found before y s n (closing y) refl e))

sign_found : (before : Bytes) (b : ℕ) (y : Bytes) (s : Sort) (n m : ℕ) → (nat_eq b 47 && nat_eq (get_or y 0 0) 47) ≡ false → (nat_eq b 47 && nat_eq (get_or y 0 0) 42) ≡ false → sign_at (b ∷ y) ≡ m → cut_sign m ≡ Ok (s, n) → Found before (b ∷ y) s n
sign_found before b y s n m h k is e =
    split (nat_eq m 0) (Err L1) (Ok (Some kind.Punct, m)) (Ok (s, n)) e
    (λ t e1. absurd cc)
    (λ f e1.
    let none = eqb-false m 0 f in
    let some : 0 < m = omega arith in
    let l = sign_stands b y m h k is some in
    found_at before (b ∷ y) (Some kind.Punct) s m n (record { stands = l.0; some = some; within = l.1 }) e1)

mark_found : (before : Bytes) (b : ℕ) (y : Bytes) (s : Sort) (n : ℕ) → cut_mark (b ∷ y) ≡ Ok (s, n) → Found before (b ∷ y) s n
unfolding cut_mark
mark_found before b y s n e =
    split (nat_eq b 47 && nat_eq (get_or y 0 0) 47) (Ok (None, run is_in_line (b ∷ y))) (cond (nat_eq b 47 && nat_eq (get_or y 0 0) 42) (cut_comment (closing (drop 1 y))) (cut_sign (sign_at (b ∷ y)))) (Ok (s, n)) e
    (λ t is. found_at before (b ∷ y) None s (run is_in_line (b ∷ y)) n (line_found before b y t) is)
    (λ f e1. split (nat_eq b 47 && nat_eq (get_or y 0 0) 42) (cut_comment (closing (drop 1 y))) (cut_sign (sign_at (b ∷ y))) (Ok (s, n)) e1
    (λ t is. block_found before b y s n t is)
    (λ g is. sign_found before b y s n (sign_at (b ∷ y)) f g refl is))

-- ---- strings and lines

string_found : (before y : Bytes) (s : Sort) (n : ℕ) → cut_string (34 ∷ y) ≡ Ok (s, n) → Found before (34 ∷ y) s n
unfolding cut_string
string_found before y s n e =
    let m = run is_plain y in
    let one : get_or (34 ∷ y) (m + 1) 0 ≡ get_or y m 0 = rw (add-one m) refl in
    split (nat_eq (get_or (34 ∷ y) (m + 1) 0) 34) (Ok (Some kind.Str, m + 2)) (Err L2) (Ok (s, n)) e
    (λ t is.
    let l = string_stands y (subst (λ (x : ℕ). nat_eq x 34 ≡ true) one t) in
    found_at before (34 ∷ y) (Some kind.Str) s (m + 2) n (record { stands = l.0; some = omega arith; within = l.1 }) is)
    (λ f is. absurd cc)

skipped_found : (before y : Bytes) (s : Sort) (n : ℕ) → cut_line (opens_line before) (35 ∷ y) ≡ Ok (s, n) → Found before (35 ∷ y) s n
unfolding cut_line
skipped_found before y s n e =
    split (opens_line before) (cond (is_known (first_word (35 ∷ y))) (Ok (None, run is_in_line (35 ∷ y))) (Err L4)) (Err L1) (Ok (s, n)) e
    (λ opens e1. split (is_known (first_word (35 ∷ y))) (Ok (None, run is_in_line (35 ∷ y))) (Err L4) (Ok (s, n)) e1
    (λ known is. found_at before (35 ∷ y) None s (run is_in_line (35 ∷ y)) n (record { stands = inr (inr (inr (skipped_stands before y opens known))); some = omega arith; within = run_within is_in_line (35 ∷ y) }) is)
    (λ f is. absurd cc))
    (λ f is. absurd cc)

quoted_found : (before : Bytes) (b : ℕ) (y : Bytes) (s : Sort) (n : ℕ) → cut_quoted (opens_line before) (b ∷ y) ≡ Ok (s, n) → Found before (b ∷ y) s n
unfolding cut_quoted
quoted_found before b y s n e =
    split (nat_eq b 34) (cut_string (b ∷ y)) (cond (nat_eq b 35) (cut_line (opens_line before) (b ∷ y)) (cut_mark (b ∷ y))) (Ok (s, n)) e
    (λ t is. let at : b ≡ 34 = eqb-true b 34 t in subst (λ (x : ℕ). Found before (x ∷ y) s n) (sym at) (string_found before y s n (subst (λ (x : ℕ). cut_string (x ∷ y) ≡ Ok (s, n)) at is)))
    (λ f e1. split (nat_eq b 35) (cut_line (opens_line before) (b ∷ y)) (cut_mark (b ∷ y)) (Ok (s, n)) e1
    (λ t is. let at : b ≡ 35 = eqb-true b 35 t in subst (λ (x : ℕ). Found before (x ∷ y) s n) (sym at) (skipped_found before y s n (subst (λ (x : ℕ). cut_line (opens_line before) (x ∷ y) ≡ Ok (s, n)) at is)))
    (λ g is. mark_found before b y s n is))

-- ---- words and blanks

name_found : (before : Bytes) (b : ℕ) (y : Bytes) → is_letter b ≡ true → Found before (b ∷ y) (Some kind.Word) (run is_word_byte (b ∷ y))
name_found before b y h =
    let w = letter_in_word b h in
    record { stands = word_stands is_letter (b ∷ y) h w; some = run_some is_word_byte (b ∷ y) w; within = run_within is_word_byte (b ∷ y) }

literal_found : (before : Bytes) (b : ℕ) (y : Bytes) (s : Sort) (n : ℕ) → is_digit b ≡ true → (o : Option (Kind × ℕ)) → literal_of (take (run is_word_byte (b ∷ y)) (b ∷ y)) ≡ o → cut_literal (run is_word_byte (b ∷ y)) o ≡ Ok (s, n) → Found before (b ∷ y) s n
literal_found before b y s n h None is e = absurd cc
literal_found before b y s n h (Some l) is e =
    let w = digit_in_word b h in
    found_at before (b ∷ y) (Some (kind.Literal l.0 l.1)) s (run is_word_byte (b ∷ y)) n
    (record { stands = (word_stands is_digit (b ∷ y) h w, is); some = run_some is_word_byte (b ∷ y) w; within = run_within is_word_byte (b ∷ y) }) e

word_found : (before : Bytes) (b : ℕ) (y : Bytes) (s : Sort) (n : ℕ) → cut_word (opens_line before) (b ∷ y) ≡ Ok (s, n) → Found before (b ∷ y) s n
unfolding cut_word
word_found before b y s n e =
    split (is_letter b) (Ok (Some kind.Word, run is_word_byte (b ∷ y))) (cond (is_digit b) (cut_literal (run is_word_byte (b ∷ y)) (literal_of (take (run is_word_byte (b ∷ y)) (b ∷ y)))) (cut_quoted (opens_line before) (b ∷ y))) (Ok (s, n)) e
    (λ t is. found_at before (b ∷ y) (Some kind.Word) s (run is_word_byte (b ∷ y)) n (name_found before b y t) is)
    (λ f e1. split (is_digit b) (cut_literal (run is_word_byte (b ∷ y)) (literal_of (take (run is_word_byte (b ∷ y)) (b ∷ y)))) (cut_quoted (opens_line before) (b ∷ y)) (Ok (s, n)) e1
    (λ t is. literal_found before b y s n t (literal_of (take (run is_word_byte (b ∷ y)) (b ∷ y))) refl is)
    (λ g is. quoted_found before b y s n is))

-- what is cut stands
pub found : (before z : Bytes) (s : Sort) (n : ℕ) → cut (opens_line before) z ≡ Ok (s, n) → 0 < length z → Found before z s n
unfolding cut
found before [] s n e some = absurd (omega arith)
found before (b ∷ y) s n e some =
    split (is_blank b) (Ok (None, 1)) (cut_word (opens_line before) (b ∷ y)) (Ok (s, n)) e
    (λ t is. found_at before (b ∷ y) None s 1 n (record { stands = inl (b, refl, t); some = omega arith; within = omega arith }) is)
    (λ f is. word_found before b y s n is)
