-- What is cut stands, and where nothing is cut nothing stands.
use Rattle.std.proofs.Common.{◌≡◌, ◌⊎◌, ⊎_elim, inl, inr, ℕ, zero, suc, ◌+◌, ◌<◌, ◌≤◌, ◌-◌, Bool, true, false, cond, ◌&&◌, [], ◌∷◌, ◌++◌, append_assoc, length, take, drop, get_or, Option, Some, None, refl, sym, ap, subst, ◌∙◌, arith, nat_eq, eqb-true}
use Rattle.std.specs.Str.Parse.{AllDigits, IsNumeral}
use Rattle.std.specs.Char.{digit_value}
use Rattle.std.specs.List.{list_all}
use Rattle.std.proofs.lemmas.Bool.{and_parts, or_cases, false≢true, ltb-true}
use Rattle.std.proofs.lemmas.List.{length-drop, length-take-le, drop-drop}
use Rattle.tapa_syntax.specs.Characters.{is_among, run}
use Rattle.vlog_tree.specs.Names.{starts_name, goes_on, has_name_form}
use Rattle.vlog_lex.specs.Numerals.{base_of}
use Rattle.tapa_base.specs.Gaps.{Bytes, begins, is_blank, is_in_line, has_close}
use Rattle.vlog_lex.specs.Lexemes.{is_digit_of, makes_literal, signs, is_sign, is_sign_or_mark, IsSignWord, Piece, gap, word, Stands}
use Rattle.vlog_lex.proofs.Cuts.{digits_begin, sized_begins}
use Rattle.vlog_lex.specs.declared.cut.Sort.{Sort}
use Rattle.vlog_lex.specs.declared.cut.Sort.TheVariants.{Gap, Word}
use Rattle.tapa_syntax.specs.Comments.{closing}
use Rattle.vlog_lex.specs.Reading.{doubled, before_equals, is_single, is_pair, sign_length, Cut, cut_comment, cut_sign, cut_mark, number_length, cut}
use Rattle.vlog_lex.specs.Scanned.{NothingStands}
use Rattle.tapa_syntax.proofs.Runs.{split, run_passes, run_stops, run_within, run_some, take_both}
use Rattle.tapa_syntax.proofs.Comments.{line_stands, closing_stands, closing_is, block_stands}
use Rattle.vlog_lex.proofs.Signs.{sign_single, sign_pair, sign_none, sign_three, pair_stands, single_stands}

-- a piece of a sort
abbrev pub piece_of : Sort → Bytes → Piece
piece_of Gap bytes = gap bytes
piece_of Word bytes = word bytes

-- a piece of n bytes stands in front of a text
pub record Found (z : Bytes) (sort : Sort) (n : ℕ) : Type 0 where
  pub stands : Stands (piece_of sort (take n z)) (drop n z)
  pub some : 0 < n
  pub within : n ≤ length z

some_same : (x y : Sort × ℕ) → (let p : Cut = Some x in let q : Cut = Some y in p ≡ q) → x ≡ y
some_same x y e = cc

found_at : (z : Bytes) (s t : Sort) (n m : ℕ) → Found z s n → (let p : Cut = Some (s, n) in let q : Cut = Some (t, m) in p ≡ q) → Found z t m
found_at z s t n m f e = subst (λ (p : Sort × ℕ). Found z p.0 p.1) (some_same (s, n) (t, m) e) f

-- ---- comments and signs

line_found : (b : ℕ) (y : Bytes) → (nat_eq b 47 && nat_eq (get_or y 0 0) 47) ≡ true → Found (b ∷ y) Gap (run is_in_line (b ∷ y))
line_found b [] h = absurd (false≢true (and_parts (nat_eq b 47) false h).1)
line_found b (c ∷ y) h =
    let both = and_parts (nat_eq b 47) (nat_eq c 47) h in
    subst (λ (x : ℕ). Found (x ∷ c ∷ y) Gap (run is_in_line (x ∷ c ∷ y))) (sym (eqb-true b 47 both.0))
    (subst (λ (x : ℕ). Found (47 ∷ x ∷ y) Gap (run is_in_line (47 ∷ x ∷ y))) (sym (eqb-true c 47 both.1))
    (record { stands = inr (inl (line_stands y)); some = omega arith; within = run_within is_in_line (47 ∷ 47 ∷ y) }))

comment_found : (y : Bytes) (s : Sort) (n : ℕ) (o : Option ℕ) → closing y ≡ o → cut_comment o ≡ Some (s, n) → Found (47 ∷ 42 ∷ y) s n
comment_found y s n None e is = absurd cc
comment_found y s n (Some m) e is =
    let c = closing_stands y m e in
    found_at (47 ∷ 42 ∷ y) Gap s (m + 2) n (record { stands = inr (inr (block_stands y m c)); some = omega arith; within = omega (arith, c.within) }) is

block_found : (b : ℕ) (y : Bytes) (s : Sort) (n : ℕ) → (nat_eq b 47 && nat_eq (get_or y 0 0) 42) ≡ true → cut_comment (closing (drop 1 y)) ≡ Some (s, n) → Found (b ∷ y) s n
block_found b [] s n h e = absurd (false≢true (and_parts (nat_eq b 47) false h).1)
block_found b (c ∷ y) s n h e =
    let both = and_parts (nat_eq b 47) (nat_eq c 42) h in
    subst (λ (x : ℕ). Found (x ∷ c ∷ y) s n) (sym (eqb-true b 47 both.0))
    (subst (λ (x : ℕ). Found (47 ∷ x ∷ y) s n) (sym (eqb-true c 42 both.1))
    (comment_found y s n (closing y) refl e))

no_pair_end : (b : ℕ) → is_pair b 0 ≡ true → ⊥
no_pair_end b h =
    ⊎_elim
    (λ (e : (nat_eq b 0 && is_among doubled b) ≡ true). let k = and_parts (nat_eq b 0) (is_among doubled b) e in false≢true (subst (λ (x : ℕ). is_among doubled x ≡ true) (eqb-true b 0 k.0) k.1))
    (λ (e : (nat_eq 0 61 && is_among before_equals b) ≡ true). false≢true e)
    (or_cases (nat_eq b 0 && is_among doubled b) (nat_eq 0 61 && is_among before_equals b) h)

pair_found : (b : ℕ) (y : Bytes) → is_pair b (get_or y 0 0) ≡ true → Found (b ∷ y) Word 2
pair_found b [] h = absurd (no_pair_end b h)
pair_found b (c ∷ y) h = record { stands = inr (inr (inr (pair_stands b c y h))); some = omega arith; within = omega arith }

module _ (b : ℕ) (y : Bytes) (no_line : (nat_eq b 47 && nat_eq (get_or y 0 0) 47) ≡ false) (no_block : (nat_eq b 47 && nat_eq (get_or y 0 0) 42) ≡ false) where
  sign_by : (s : Sort) (n : ℕ) (t u : Bool) → is_pair b (get_or y 0 0) ≡ t → is_single b ≡ u → cut_sign (cond t 2 (cond u 1 0)) ≡ Some (s, n) → Found (b ∷ y) s n
  sign_by s n true u p q e = found_at (b ∷ y) Word s 2 n (pair_found b y p) e
  sign_by s n false true p q e =
      found_at (b ∷ y) Word s 1 n (record { stands = inr (inr (inr (single_stands b y q p no_line no_block))); some = omega arith; within = omega arith }) e
  sign_by s n false false p q e = absurd cc

mark_found : (b : ℕ) (y : Bytes) (s : Sort) (n : ℕ) → cut_mark (b ∷ y) ≡ Some (s, n) → Found (b ∷ y) s n
unfolding cut_mark sign_length
mark_found b y s n e =
    split (nat_eq b 47 && nat_eq (get_or y 0 0) 47) (Some (Gap, run is_in_line (b ∷ y))) (cond (nat_eq b 47 && nat_eq (get_or y 0 0) 42) (cut_comment (closing (drop 1 y))) (cut_sign (sign_length b (get_or y 0 0)))) (Some (s, n)) e
    (λ t is. found_at (b ∷ y) Gap s (run is_in_line (b ∷ y)) n (line_found b y t) is)
    (λ f e1. split (nat_eq b 47 && nat_eq (get_or y 0 0) 42) (cut_comment (closing (drop 1 y))) (cut_sign (sign_length b (get_or y 0 0))) (Some (s, n)) e1
    (λ t is. block_found b y s n t is)
    (λ g is. sign_by b y f g s n (is_pair b (get_or y 0 0)) (is_single b) refl refl is))

-- ---- names and numbers

starts_goes : (b : ℕ) → starts_name b ≡ true → goes_on b ≡ true
unfolding goes_on
starts_goes b h = rw h refl

name_formed : (n b : ℕ) (y : Bytes) → 0 < n → starts_name b ≡ true → list_all goes_on (take n (b ∷ y)) ≡ true → has_name_form (take n (b ∷ y)) ≡ true
name_formed zero b y some h all = absurd (omega arith)
name_formed (suc n) b y some h all = let k = and_parts (goes_on b) (list_all goes_on (take n y)) all in rw (h, k.1) refl

name_found : (b : ℕ) (y : Bytes) → starts_name b ≡ true → Found (b ∷ y) Word (run goes_on (b ∷ y))
name_found b y h =
    let some : 0 < run goes_on (b ∷ y) = run_some goes_on (b ∷ y) (starts_goes b h) in
    record {
      stands = inl (record { form = name_formed (run goes_on (b ∷ y)) b y some h (run_passes goes_on (b ∷ y)); longest = run_stops goes_on (b ∷ y) });
      some = some;
      within = run_within goes_on (b ∷ y);
    }

pub digits_all : (base : ℕ) (ds : Bytes) → list_all (is_digit_of base) ds ≡ true → AllDigits base ds
digits_all base [] h = tt
digits_all base (d ∷ ds) h = let k = and_parts (is_digit_of base d) (list_all (is_digit_of base) ds) h in (ltb-true (digit_value d) base k.0, digits_all base ds k.1)

numeral_run : (base : ℕ) (z : Bytes) → begins (is_digit_of base) z ≡ true → IsNumeral base (take (run (is_digit_of base) z) z)
numeral_run base z h =
    let n = run (is_digit_of base) z in
    let some : 0 < n = run_some (is_digit_of base) z h in
    let size : length (take n z) ≡ n = length-take-le n z (run_within (is_digit_of base) z) in
    (omega (arith, some, size), digits_all base (take n z) (run_passes (is_digit_of base) z))

-- how long a number is, or the literal of which it is the size
abbrev length_by : ℕ → Bytes → ℕ
length_by n behind = cond (makes_literal behind) (n + 2 + run (is_digit_of (base_of (get_or behind 1 0))) (drop 2 behind)) n

-- digits in front of a text
record IsSize (z : Bytes) (n : ℕ) : Type 0 where
  some : 0 < n
  within : n ≤ length z
  numeral : IsNumeral 10 (take n z)
  longest : begins (is_digit_of 10) (drop n z) ≡ false

plain_found : (z : Bytes) (n : ℕ) → IsSize z n → makes_literal (drop n z) ≡ false → Found z Word n
plain_found z n h plain = record { stands = inr (inl (record { numeral = h.numeral; longest = h.longest; plain = plain })); some = h.some; within = h.within }

two_taken : (m a l : ℕ) (w : Bytes) → take (2 + m) (a ∷ l ∷ w) ≡ a ∷ l ∷ take m w
two_taken m a l w = let e : 2 + m ≡ suc (suc m) = omega arith in rw e refl

two_dropped : (m a l : ℕ) (w : Bytes) → drop (2 + m) (a ∷ l ∷ w) ≡ drop m w
two_dropped m a l w = let e : 2 + m ≡ suc (suc m) = omega arith in rw e refl

literal_found : (z : Bytes) (n a l c : ℕ) (w : Bytes) → IsSize z n → drop n z ≡ a ∷ l ∷ c ∷ w → a ≡ 39 → is_digit_of (base_of l) c ≡ true → Found z Word (n + 2 + run (is_digit_of (base_of l)) (c ∷ w))
literal_found z n a l c w h e quote digit =
    let m = run (is_digit_of (base_of l)) (c ∷ w) in
    let regroup : n + 2 + m ≡ n + (2 + m) = omega arith in
    let front : take (n + 2 + m) z ≡ take n z ++ 39 ∷ l ∷ take m (c ∷ w) =
    ap (λ k. take k z) regroup ∙ take_both n (2 + m) z ∙ ap (λ t. take n z ++ take (2 + m) t) e ∙ ap (λ t. take n z ++ t) (two_taken m a l (c ∷ w)) ∙ ap (λ x. take n z ++ x ∷ l ∷ take m (c ∷ w)) quote in
    let back : drop (n + 2 + m) z ≡ drop m (c ∷ w) = ap (λ k. drop k z) regroup ∙ sym (drop-drop (2 + m) n z) ∙ ap (drop (2 + m)) e ∙ two_dropped m a l (c ∷ w) in
    let left : length (drop n z) ≡ length z - n = length-drop n z in
    record {
      stands = inr (inr (inl (record {
        parts = record { size = take n z; letter = l; digits = take m (c ∷ w) };
        is = front;
        sized = (h.numeral, numeral_run (base_of l) (c ∷ w) digit);
        longest = ap (begins (is_digit_of (base_of l))) back ∙ run_stops (is_digit_of (base_of l)) (c ∷ w);
      })));
      some = omega (arith, h.some);
      within = omega (arith, left, ap length e, run_within (is_digit_of (base_of l)) (c ∷ w), h.within);
    }

number_by : (z : Bytes) (n : ℕ) → IsSize z n → (rest : Bytes) → drop n z ≡ rest → Found z Word (length_by n rest)
number_by z n h [] e = plain_found z n h (ap makes_literal e)
number_by z n h (a ∷ []) e = plain_found z n h (ap makes_literal e)
number_by z n h (a ∷ l ∷ []) e = plain_found z n h (ap makes_literal e)
number_by z n h (a ∷ l ∷ c ∷ w) e = by_test (nat_eq a 39 && is_digit_of (base_of l) c) refl
  where
    by_test : (t : Bool) → (nat_eq a 39 && is_digit_of (base_of l) c) ≡ t → Found z Word (cond t (n + 2 + run (is_digit_of (base_of l)) (c ∷ w)) n)
    by_test true t = let k = and_parts (nat_eq a 39) (is_digit_of (base_of l) c) t in literal_found z n a l c w h e (eqb-true a 39 k.0) k.1
    by_test false f = plain_found z n h (ap makes_literal e ∙ f)

number_found : (b : ℕ) (y : Bytes) → is_digit_of 10 b ≡ true → Found (b ∷ y) Word (number_length (b ∷ y))
unfolding number_length
number_found b y h =
    let z = b ∷ y in
    let n = run (is_digit_of 10) z in
    number_by z n (record { some = run_some (is_digit_of 10) z h; within = run_within (is_digit_of 10) z; numeral = numeral_run 10 z h; longest = run_stops (is_digit_of 10) z }) (drop n z) refl

-- what is cut stands
pub found : (z : Bytes) (s : Sort) (n : ℕ) → cut z ≡ Some (s, n) → 0 < length z → Found z s n
unfolding cut
found [] s n e some = absurd (omega arith)
found (b ∷ y) s n e some =
    split (is_blank b) (Some (Gap, 1)) (cond (starts_name b) (Some (Word, run goes_on (b ∷ y))) (cond (is_digit_of 10 b) (Some (Word, number_length (b ∷ y))) (cut_mark (b ∷ y)))) (Some (s, n)) e
    (λ t is. found_at (b ∷ y) Gap s 1 n (record { stands = inl (b, refl, t); some = omega arith; within = omega arith }) is)
    (λ f e1. split (starts_name b) (Some (Word, run goes_on (b ∷ y))) (cond (is_digit_of 10 b) (Some (Word, number_length (b ∷ y))) (cut_mark (b ∷ y))) (Some (s, n)) e1
    (λ t is. found_at (b ∷ y) Word s (run goes_on (b ∷ y)) n (name_found b y t) is)
    (λ g e2. split (is_digit_of 10 b) (Some (Word, number_length (b ∷ y))) (cut_mark (b ∷ y)) (Some (s, n)) e2
    (λ t is. found_at (b ∷ y) Word s (number_length (b ∷ y)) n (number_found b y t) is)
    (λ k is. mark_found b y s n is)))

-- ---- where nothing is cut

-- no piece begins so
record NoPiece (b : ℕ) (y : Bytes) : Type 0 where
  blank : is_blank b ≡ false
  name : starts_name b ≡ false
  digit : is_digit_of 10 b ≡ false
  line : (nat_eq b 47 && nat_eq (get_or y 0 0) 47) ≡ false
  block : (body rest : Bytes) → has_close (body ++ 42 ∷ []) ≡ false → b ∷ y ≡ 47 ∷ 42 ∷ (body ++ 42 ∷ 47 ∷ []) ++ rest → ⊥
  sign : (w rest : Bytes) → IsSignWord w rest → b ∷ y ≡ w ++ rest → ⊥

of_front : (class : ℕ → Bool) (b : ℕ) (y w rest : Bytes) → class b ≡ false → begins class w ≡ true → b ∷ y ≡ w ++ rest → ⊥
of_front class b y [] rest f h e = false≢true h
of_front class b y (c ∷ w) rest f h e = false≢true (sym f ∙ ap (begins class) e ∙ h)

name_begins : (w : Bytes) → has_name_form w ≡ true → begins starts_name w ≡ true
name_begins [] h = h
name_begins (c ∷ w) h = (and_parts (starts_name c) (list_all goes_on w) h).0

none_stands : (b : ℕ) (y : Bytes) → NoPiece b y → NothingStands (b ∷ y)
none_stands b y h (gap bytes) rest (inl (c, is, blank)) e = of_front is_blank b y (c ∷ []) rest h.blank blank (e ∙ ap (λ l. l ++ rest) is)
none_stands b y h (gap bytes) rest (inr (inl (body, is, all, ends))) e =
    let same = e ∙ ap (λ l. l ++ rest) is in
    false≢true (sym h.line ∙ ap (λ l. nat_eq (get_or l 0 0) 47 && nat_eq (get_or l 1 0) 47) same)
none_stands b y h (gap bytes) rest (inr (inr (body, is, closed))) e = h.block body rest closed (e ∙ ap (λ l. l ++ rest) is)
none_stands b y h (word w) rest (inl k) e = of_front starts_name b y w rest h.name (name_begins w k.form) e
none_stands b y h (word w) rest (inr (inl k)) e = of_front (is_digit_of 10) b y w rest h.digit (digits_begin 10 w k.numeral) e
none_stands b y h (word w) rest (inr (inr (inl k))) e = of_front (is_digit_of 10) b y w rest h.digit (ap (begins (is_digit_of 10)) k.is ∙ sized_begins k.parts k.sized) e
none_stands b y h (word w) rest (inr (inr (inr k))) e = h.sign w rest k e

-- a comment that is left open
open_block : (b : ℕ) (y body rest : Bytes) → closing (drop 1 y) ≡ None → has_close (body ++ 42 ∷ []) ≡ false → b ∷ y ≡ 47 ∷ 42 ∷ (body ++ 42 ∷ 47 ∷ []) ++ rest → ⊥
open_block b y body rest none h e =
    let is = sym none ∙ ap (λ l. closing (drop 2 l)) e ∙ ap closing (append_assoc body (42 ∷ 47 ∷ []) rest) ∙ closing_is body rest h in absurd cc

open_sign : (b : ℕ) (y w rest : Bytes) → nat_eq b 47 ≡ true → nat_eq (get_or y 0 0) 42 ≡ true → IsSignWord w rest → b ∷ y ≡ w ++ rest → ⊥
unfolding is_sign_or_mark is_sign signs
open_sign b y [] rest p q h e = sign_none h.sign
open_sign b y (x ∷ []) [] p q h e = false≢true (ap (λ l. nat_eq (get_or l 1 0) 42) (sym e) ∙ q)
open_sign b y (x ∷ []) (c ∷ rest) p q h e =
    let first : x ≡ 47 = ap (λ l. get_or l 0 0) (sym e) ∙ eqb-true b 47 p in
    let second : c ≡ 42 = ap (λ l. get_or l 1 0) (sym e) ∙ eqb-true (get_or y 0 0) 42 q in
    false≢true (sym (subst (λ (l : Bytes). is_sign_or_mark l ≡ false) (two_same x 47 c 42 first second) h.longest))
  where
    two_same : (a b c d : ℕ) → a ≡ b → c ≡ d → a ∷ c ∷ [] ≡ b ∷ d ∷ []
    two_same a b c d e f = cc
open_sign b y (x ∷ c ∷ []) rest p q h e =
    let first : x ≡ 47 = ap (λ l. get_or l 0 0) (sym e) ∙ eqb-true b 47 p in
    let second : c ≡ 42 = ap (λ l. get_or l 1 0) (sym e) ∙ eqb-true (get_or y 0 0) 42 q in
    false≢true (subst (λ (a : ℕ). is_pair 47 a ≡ true) second (subst (λ (a : ℕ). is_pair a c ≡ true) first (sign_pair x c h.sign)))
open_sign b y (x ∷ c ∷ d ∷ w) rest p q h e = sign_three x c d w h.sign

-- a byte that begins no sign
no_sign_here : (b : ℕ) (y w rest : Bytes) → is_pair b (get_or y 0 0) ≡ false → is_single b ≡ false → IsSignWord w rest → b ∷ y ≡ w ++ rest → ⊥
no_sign_here b y [] rest p q h e = sign_none h.sign
no_sign_here b y (x ∷ []) rest p q h e = false≢true (sym q ∙ ap (λ l. is_single (get_or l 0 0)) e ∙ sign_single x h.sign)
no_sign_here b y (x ∷ c ∷ []) rest p q h e = false≢true (sym p ∙ ap (λ l. is_pair (get_or l 0 0) (get_or l 1 0)) e ∙ sign_pair x c h.sign)
no_sign_here b y (x ∷ c ∷ d ∷ w) rest p q h e = sign_three x c d w h.sign

no_comment : (o : Option ℕ) → cut_comment o ≡ None → o ≡ None
no_comment None e = refl
no_comment (Some n) e = absurd cc

-- both tests of the longest sign fail
no_signs : (b c : ℕ) → cut_sign (sign_length b c) ≡ None → (is_pair b c ≡ false) × (is_single b ≡ false)
unfolding sign_length
no_signs b c e = by_tests (is_pair b c) (is_single b) e
  where
    by_tests : (t u : Bool) → cut_sign (cond t 2 (cond u 1 0)) ≡ None → (t ≡ false) × (u ≡ false)
    by_tests true u e = absurd cc
    by_tests false true e = absurd cc
    by_tests false false e = (refl, refl)

none_marked : (b : ℕ) (y : Bytes) → is_blank b ≡ false → starts_name b ≡ false → is_digit_of 10 b ≡ false → cut_mark (b ∷ y) ≡ None → NoPiece b y
unfolding cut_mark
none_marked b y f1 f2 f3 e =
    split (nat_eq b 47 && nat_eq (get_or y 0 0) 47) (Some (Gap, run is_in_line (b ∷ y))) (cond (nat_eq b 47 && nat_eq (get_or y 0 0) 42) (cut_comment (closing (drop 1 y))) (cut_sign (sign_length b (get_or y 0 0)))) None e
    (λ t is. absurd cc)
    (λ f e1. split (nat_eq b 47 && nat_eq (get_or y 0 0) 42) (cut_comment (closing (drop 1 y))) (cut_sign (sign_length b (get_or y 0 0))) None e1
    (λ t is.
    let both = and_parts (nat_eq b 47) (nat_eq (get_or y 0 0) 42) t in
    record { blank = f1; name = f2; digit = f3; line = f; block = λ body rest h k. open_block b y body rest (no_comment (closing (drop 1 y)) is) h k; sign = λ w rest h k. open_sign b y w rest both.0 both.1 h k })
    (λ g is.
    let none = no_signs b (get_or y 0 0) is in
    record {
      blank = f1;
      name = f2;
      digit = f3;
      line = f;
      block = λ body rest h k. false≢true (sym g ∙ ap (λ l. nat_eq (get_or l 0 0) 47 && nat_eq (get_or l 1 0) 42) k);
      sign = λ w rest h k. no_sign_here b y w rest none.0 none.1 h k;
    }))

-- where nothing is cut nothing stands
pub nothing : (z : Bytes) → cut z ≡ None → 0 < length z → NothingStands z
unfolding cut
nothing [] e some = absurd (omega arith)
nothing (b ∷ y) e some =
    split (is_blank b) (Some (Gap, 1)) (cond (starts_name b) (Some (Word, run goes_on (b ∷ y))) (cond (is_digit_of 10 b) (Some (Word, number_length (b ∷ y))) (cut_mark (b ∷ y)))) None e
    (λ t is. absurd cc)
    (λ f e1. split (starts_name b) (Some (Word, run goes_on (b ∷ y))) (cond (is_digit_of 10 b) (Some (Word, number_length (b ∷ y))) (cut_mark (b ∷ y))) None e1
    (λ t is. absurd cc)
    (λ g e2. split (is_digit_of 10 b) (Some (Word, number_length (b ∷ y))) (cut_mark (b ∷ y)) None e2
    (λ t is. absurd cc)
    (λ k is. none_stands b y (none_marked b y f g k is))))
