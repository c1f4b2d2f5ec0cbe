-- The longest sign is cut, and what is cut is the longest sign.
use Rattle.std.specs.List.{list_all, list_any}
use Rattle.std.specs.Str.{bytes_eq}
use Rattle.std.proofs.lemmas.Slice.Eq.{bytes_eq-Decides}
use Rattle.std.proofs.Common.{⊎_elim, not, eqb-true, ◌≡◌, ℕ, ◌<◌, ◌≤◌, Bool, true, false, cond, ◌&&◌, ◌||◌, List, [], ◌∷◌, ◌++◌, length, take, drop, get_or, refl, sym, ap, subst, ◌∙◌, arith, nat_eq}
use Rattle.std.proofs.lemmas.Bool.{or_cases, and_parts, and_right, false≢true, cases_Bool, or_parts}
use Rattle.std.proofs.lemmas.List.{take-append-drop, length-take-le}
use Rattle.tapa_base.specs.Gaps.{Bytes}
use Rattle.tapa_syntax.specs.Characters.{is_among}
use Rattle.tapa_syntax.specs.Lexemes.{is_sign, is_comment_mark, signs, IsPunctuation}
use Rattle.tapa_lex.specs.Reading.{sign_length, is_single, is_pair, is_triple, singles, doubled, before_equals, shifts}
use Rattle.tapa_syntax.proofs.Runs.{split}
use Rattle.tapa_lex.proofs.Bytes.{pair_first, pair_second, triple_first, triple_parts, pair_cases, one_of}

-- the same signs, by their lengths
short_sign : Bytes → Bool
short_sign [] = false
short_sign (b ∷ []) = is_single b
short_sign (b ∷ c ∷ []) = is_pair b c
short_sign (b ∷ c ∷ d ∷ []) = is_triple b c d
short_sign (b ∷ c ∷ d ∷ e ∷ z) = false

short_mark : Bytes → Bool
short_mark [] = false
short_mark (b ∷ []) = false
short_mark (b ∷ c ∷ []) = nat_eq b 47 && (nat_eq c 47 || nat_eq c 42)
short_mark (b ∷ c ∷ d ∷ z) = false

same_tests : (p q : Bool) → (p ≡ true → q ≡ true) → (q ≡ true → p ≡ true) → p ≡ q
same_tests true q f g = sym (f refl)
same_tests false true f g = g refl
same_tests false false f g = refl

-- what holds of each of a few texts holds of one of them
pub one_text : (P : Bytes → Bool) (set : List Bytes) (s : Bytes) → list_all P set ≡ true → list_any (bytes_eq s) set ≡ true → P s ≡ true
one_text P [] s all h = absurd (false≢true h)
one_text P (c ∷ set) s all h =
    ⊎_elim
    (λ (e : bytes_eq s c ≡ true). subst (λ (x : Bytes). P x ≡ true) (sym ((bytes_eq-Decides s c).0 e)) (and_parts (P c) (list_all P set) all).0)
    (λ (m : list_any (bytes_eq s) set ≡ true). one_text P set s (and_parts (P c) (list_all P set) all).1 m)
    (or_cases (bytes_eq s c) (list_any (bytes_eq s) set) h)

listed : (s : Bytes) → short_sign s ≡ true → is_sign s ≡ true
unfolding is_sign short_sign
listed [] h = absurd (false≢true h)
listed (b ∷ []) h = one_of (λ x. list_any (bytes_eq (x ∷ [])) signs) singles b refl h
listed (b ∷ c ∷ []) h =
    ⊎_elim
    (λ (e : (nat_eq b c ≡ true) × (is_among doubled b ≡ true)). subst (λ (x : ℕ). list_any (bytes_eq (b ∷ x ∷ [])) signs ≡ true) (eqb-true b c e.0) (one_of (λ x. list_any (bytes_eq (x ∷ x ∷ [])) signs) doubled b refl e.1))
    (λ (e : (nat_eq c 61 ≡ true) × (is_among before_equals b ≡ true)). subst (λ (x : ℕ). list_any (bytes_eq (b ∷ x ∷ [])) signs ≡ true) (sym (eqb-true c 61 e.0)) (one_of (λ x. list_any (bytes_eq (x ∷ 61 ∷ [])) signs) before_equals b refl e.1))
    (pair_cases b c h)
listed (b ∷ c ∷ d ∷ []) h =
    let parts = triple_parts b c d h in
    subst (λ (x : ℕ). list_any (bytes_eq (b ∷ x ∷ d ∷ [])) signs ≡ true) parts.twice
    (subst (λ (x : ℕ). list_any (bytes_eq (b ∷ b ∷ x ∷ [])) signs ≡ true) (sym parts.equals)
    (one_of (λ x. list_any (bytes_eq (x ∷ x ∷ 61 ∷ [])) signs) shifts b refl parts.shift))
listed (b ∷ c ∷ d ∷ e ∷ z) h = absurd (false≢true h)

sign_is : (s : Bytes) → is_sign s ≡ short_sign s
unfolding is_sign short_sign
sign_is s = same_tests (is_sign s) (short_sign s) (one_text short_sign signs s refl) (listed s)

abbrev marks : List Bytes
marks = (47 ∷ 47 ∷ []) ∷ (47 ∷ 42 ∷ []) ∷ []

listed_mark : (s : Bytes) → short_mark s ≡ true → is_comment_mark s ≡ true
unfolding is_comment_mark short_mark
listed_mark [] h = absurd (false≢true h)
listed_mark (b ∷ []) h = absurd (false≢true h)
listed_mark (b ∷ c ∷ []) h =
    let both = and_parts (nat_eq b 47) (nat_eq c 47 || nat_eq c 42) h in
    subst (λ (x : ℕ). list_any (bytes_eq (x ∷ c ∷ [])) marks ≡ true) (sym (eqb-true b 47 both.0))
    (⊎_elim
    (λ (e : nat_eq c 47 ≡ true). subst (λ (x : ℕ). list_any (bytes_eq (47 ∷ x ∷ [])) marks ≡ true) (sym (eqb-true c 47 e)) refl)
    (λ (e : nat_eq c 42 ≡ true). subst (λ (x : ℕ). list_any (bytes_eq (47 ∷ x ∷ [])) marks ≡ true) (sym (eqb-true c 42 e)) refl)
    (or_cases (nat_eq c 47) (nat_eq c 42) both.1))
listed_mark (b ∷ c ∷ d ∷ z) h = absurd (false≢true h)

mark_is : (s : Bytes) → is_comment_mark s ≡ short_mark s
unfolding is_comment_mark short_mark
mark_is s = same_tests (is_comment_mark s) (short_mark s) (one_text short_mark marks s refl) (listed_mark s)

-- punctuation, by these tests
record IsShort (bytes rest : Bytes) : Type 0 where
  sign : short_sign bytes ≡ true
  longest : (front back : Bytes) → front ++ back ≡ bytes ++ rest → length bytes < length front → short_sign front || short_mark front ≡ false

longest_same : (front : Bytes) → is_sign front || is_comment_mark front ≡ (short_sign front || short_mark front)
longest_same front = rw (sign_is front, mark_is front) refl

from_short : (bytes rest : Bytes) → IsShort bytes rest → IsPunctuation bytes rest
from_short bytes rest h = record { sign = sign_is bytes ∙ h.sign; longest = λ front back e lt. longest_same front ∙ h.longest front back e lt }

to_short : (bytes rest : Bytes) → IsPunctuation bytes rest → IsShort bytes rest
to_short bytes rest h = record { sign = sym (sign_is bytes) ∙ h.sign; longest = λ front back e lt. sym (longest_same front) ∙ h.longest front back e lt }

pub nothing_signed : is_sign [] ≡ false
unfolding is_sign
nothing_signed = refl

-- the length of the sign that a text begins with
abbrev pub sign_at : Bytes → ℕ
sign_at z = sign_length (get_or z 0 0) (get_or z 1 0) (get_or z 2 0)

-- a sign of n bytes stands in front, and no longer one
record IsLongest (z : Bytes) (n : ℕ) : Type 0 where
  some : 0 < n
  within : n ≤ length z
  sign : short_sign (take n z) ≡ true
  longest : (front back : Bytes) → front ++ back ≡ z → n < length front → short_sign front ≡ false

three_long : (b c d : ℕ) (z : Bytes) → is_triple b c d ≡ true → IsLongest (b ∷ c ∷ d ∷ z) 3
unfolding short_sign
three_long b c d z h = record { some = omega arith; within = omega arith; sign = h; longest = none }
  where
    none : (front back : Bytes) → front ++ back ≡ b ∷ c ∷ d ∷ z → 3 < length front → short_sign front ≡ false
    none [] back e lt = refl
    none (x ∷ []) back e lt = absurd (omega arith)
    none (x ∷ y ∷ []) back e lt = absurd (omega arith)
    none (x ∷ y ∷ w ∷ []) back e lt = absurd (omega arith)
    none (x ∷ y ∷ w ∷ v ∷ front) back e lt = refl

no_triple : (b c d : ℕ) → (d ≡ 61 → ⊥) → is_triple b c d ≡ false
no_triple b c d apart = ⊎_elim (λ (t : is_triple b c d ≡ true). absurd (apart (triple_parts b c d t).equals)) (λ (f : is_triple b c d ≡ false). f) (cases_Bool (is_triple b c d))

no_pair : (b : ℕ) → is_pair b 0 ≡ false
no_pair b = ⊎_elim (λ (t : is_pair b 0 ≡ true). absurd (false≢true (pair_second b 0 t))) (λ (f : is_pair b 0 ≡ false). f) (cases_Bool (is_pair b 0))

three : (b : ℕ) (y : Bytes) → is_triple b (get_or y 0 0) (get_or y 1 0) ≡ true → IsLongest (b ∷ y) 3
three b [] h = absurd (omega (arith, (triple_parts b 0 0 h).equals))
three b (c ∷ []) h = absurd (omega (arith, (triple_parts b c 0 h).equals))
three b (c ∷ d ∷ z) h = three_long b c d z h

two_long : (b c : ℕ) (z : Bytes) → is_triple b c (get_or z 0 0) ≡ false → is_pair b c ≡ true → IsLongest (b ∷ c ∷ z) 2
unfolding short_sign
two_long b c z no3 h = record { some = omega arith; within = omega arith; sign = h; longest = none }
  where
    none : (front back : Bytes) → front ++ back ≡ b ∷ c ∷ z → 2 < length front → short_sign front ≡ false
    none [] back e lt = refl
    none (x ∷ []) back e lt = absurd (omega arith)
    none (x ∷ y ∷ []) back e lt = absurd (omega arith)
    none (x ∷ y ∷ w ∷ []) back e lt = rw (ap (λ (l : Bytes). get_or l 0 0) e, ap (λ (l : Bytes). get_or l 1 0) e, ap (λ (l : Bytes). get_or l 2 0) e) no3
    none (x ∷ y ∷ w ∷ v ∷ front) back e lt = refl

two : (b : ℕ) (y : Bytes) → is_triple b (get_or y 0 0) (get_or y 1 0) ≡ false → is_pair b (get_or y 0 0) ≡ true → IsLongest (b ∷ y) 2
two b [] no3 h = absurd (false≢true (pair_second b 0 h))
two b (c ∷ z) no3 h = two_long b c z no3 h

one : (b : ℕ) (z : Bytes) → is_triple b (get_or z 0 0) (get_or z 1 0) ≡ false → is_pair b (get_or z 0 0) ≡ false → is_single b ≡ true → IsLongest (b ∷ z) 1
unfolding short_sign
one b z no3 none h = record { some = omega arith; within = omega arith; sign = h; longest = no_longer }
  where
    no_longer : (front back : Bytes) → front ++ back ≡ b ∷ z → 1 < length front → short_sign front ≡ false
    no_longer [] back e lt = refl
    no_longer (x ∷ []) back e lt = absurd (omega arith)
    no_longer (x ∷ y ∷ []) back e lt = rw (ap (λ (l : Bytes). get_or l 0 0) e, ap (λ (l : Bytes). get_or l 1 0) e) none
    no_longer (x ∷ y ∷ w ∷ []) back e lt = rw (ap (λ (l : Bytes). get_or l 0 0) e, ap (λ (l : Bytes). get_or l 1 0) e, ap (λ (l : Bytes). get_or l 2 0) e) no3
    no_longer (x ∷ y ∷ w ∷ v ∷ front) back e lt = refl

longest_at : (b : ℕ) (y : Bytes) (n : ℕ) → sign_length b (get_or y 0 0) (get_or y 1 0) ≡ n → 0 < n → IsLongest (b ∷ y) n
unfolding sign_length
longest_at b y n e some =
    split (is_triple b (get_or y 0 0) (get_or y 1 0)) 3 (cond (is_pair b (get_or y 0 0)) 2 (cond (is_single b) 1 0)) n e
    (λ t is. subst (IsLongest (b ∷ y)) is (three b y t))
    (λ no3 e2. split (is_pair b (get_or y 0 0)) 2 (cond (is_single b) 1 0) n e2
    (λ t is. subst (IsLongest (b ∷ y)) is (two b y no3 t))
    (λ none e1. split (is_single b) 1 0 n e1
    (λ t is. subst (IsLongest (b ∷ y)) is (one b y no3 none t))
    (λ nothing is. absurd (omega arith))))

-- ---- and no comment's mark

no_both : (p q r : Bool) → (p && q) ≡ false → (p && r) ≡ false → (p && (q || r)) ≡ false
no_both false q r h k = refl
no_both true false r h k = k
no_both true true r h k = absurd (false≢true (sym h))

no_mark : (z front back : Bytes) → (nat_eq (get_or z 0 0) 47 && nat_eq (get_or z 1 0) 47) ≡ false → (nat_eq (get_or z 0 0) 47 && nat_eq (get_or z 1 0) 42) ≡ false → front ++ back ≡ z → short_mark front ≡ false
unfolding short_mark
no_mark z [] back h k e = refl
no_mark z (x ∷ []) back h k e = refl
no_mark z (x ∷ y ∷ []) back h k e = rw (ap (λ (l : Bytes). get_or l 0 0) e, ap (λ (l : Bytes). get_or l 1 0) e) (no_both (nat_eq (get_or z 0 0) 47) (nat_eq (get_or z 1 0) 47) (nat_eq (get_or z 1 0) 42) h k)
no_mark z (x ∷ y ∷ w ∷ front) back h k e = refl

-- a cut sign is punctuation
short_stands : (b : ℕ) (y : Bytes) (n : ℕ) → (nat_eq b 47 && nat_eq (get_or y 0 0) 47) ≡ false → (nat_eq b 47 && nat_eq (get_or y 0 0) 42) ≡ false → sign_at (b ∷ y) ≡ n → 0 < n
    → IsShort (take n (b ∷ y)) (drop n (b ∷ y)) × (n ≤ length (b ∷ y))
short_stands b y n h k e some =
    let l = longest_at b y n e some in (
      record {
        sign = l.sign;
        longest = λ front back is lt.
            let whole = is ∙ take-append-drop n (b ∷ y) in
            let long : n < length front = omega (arith, length-take-le n (b ∷ y) l.within) in
            or_from (short_sign front) (short_mark front) (l.longest front back whole long) (no_mark (b ∷ y) front back h k whole);
      },
      l.within,
    )
  where
    or_from : (s t : Bool) → s ≡ false → t ≡ false → (s || t) ≡ false
    or_from s t p q = rw (p, q) refl

-- ---- punctuation is cut

-- what is known where punctuation stands
pub record IsCutSign (z : Bytes) (n : ℕ) : Type 0 where
  pub length_is : sign_at z ≡ n
  pub first : is_single (get_or z 0 0) ≡ true
  pub no_line : (nat_eq (get_or z 0 0) 47 && nat_eq (get_or z 1 0) 47) ≡ false
  pub no_block : (nat_eq (get_or z 0 0) 47 && nat_eq (get_or z 1 0) 42) ≡ false

no_mark_of_two : (b c : ℕ) → is_pair b c ≡ true → (nat_eq b 47 && (nat_eq c 47 || nat_eq c 42)) ≡ false
no_mark_of_two b c h = ⊎_elim (λ (t : (nat_eq b 47 && (nat_eq c 47 || nat_eq c 42)) ≡ true). absurd (mark t)) (λ (f : (nat_eq b 47 && (nat_eq c 47 || nat_eq c 42)) ≡ false). f) (cases_Bool (nat_eq b 47 && (nat_eq c 47 || nat_eq c 42)))
  where
    mark : (nat_eq b 47 && (nat_eq c 47 || nat_eq c 42)) ≡ true → ⊥
    mark t =
        let both = and_parts (nat_eq b 47) (nat_eq c 47 || nat_eq c 42) t in
        let slash : is_pair 47 c ≡ true = subst (λ (x : ℕ). is_pair x c ≡ true) (eqb-true b 47 both.0) h in
        ⊎_elim
        (λ (e : nat_eq c 47 ≡ true). false≢true (subst (λ (x : ℕ). is_pair 47 x ≡ true) (eqb-true c 47 e) slash))
        (λ (e : nat_eq c 42 ≡ true). false≢true (subst (λ (x : ℕ). is_pair 47 x ≡ true) (eqb-true c 42 e) slash))
        (or_cases (nat_eq c 47) (nat_eq c 42) both.1)

mark_parts : (p q r : Bool) → (p && (q || r)) ≡ false → ((p && q) ≡ false) × ((p && r) ≡ false)
mark_parts false q r h = (refl, refl)
mark_parts true q r h = or_parts q r h

cut_three : (b c d : ℕ) (rest : Bytes) → is_triple b c d ≡ true → IsCutSign (b ∷ c ∷ d ∷ rest) 3
unfolding sign_length
cut_three b c d rest h =
    let no3 : nat_eq b 47 ≡ false = not_true _ (one_of (λ x. not (nat_eq x 47)) shifts b refl (triple_parts b c d h).shift) in
    record { length_is = rw h refl; first = triple_first b c d h; no_line = rw no3 refl; no_block = rw no3 refl }
  where
    not_true : (t : Bool) → not t ≡ true → t ≡ false
    not_true true e = sym e
    not_true false e = refl

cut_two : (b c : ℕ) (rest : Bytes) → is_pair b c ≡ true → is_triple b c (get_or rest 0 0) ≡ false → IsCutSign (b ∷ c ∷ rest) 2
unfolding sign_length
cut_two b c rest h no3 =
    let marks = mark_parts (nat_eq b 47) (nat_eq c 47) (nat_eq c 42) (no_mark_of_two b c h) in
    record { length_is = rw (no3, h) refl; first = pair_first b c h; no_line = marks.0; no_block = marks.1 }

cut_one : (b : ℕ) (rest : Bytes) → is_single b ≡ true → is_pair b (get_or rest 0 0) ≡ false → is_triple b (get_or rest 0 0) (get_or rest 1 0) ≡ false → (nat_eq b 47 && (nat_eq (get_or rest 0 0) 47 || nat_eq (get_or rest 0 0) 42)) ≡ false → IsCutSign (b ∷ rest) 1
unfolding sign_length
cut_one b rest h none no3 mark =
    let marks = mark_parts (nat_eq b 47) (nat_eq (get_or rest 0 0) 47) (nat_eq (get_or rest 0 0) 42) mark in
    record { length_is = rw (no3, none, h) refl; first = h; no_line = marks.0; no_block = marks.1 }

short_cut : (bytes rest : Bytes) → IsShort bytes rest → IsCutSign (bytes ++ rest) (length bytes)
unfolding short_sign short_mark
short_cut [] rest h = absurd (false≢true h.sign)
short_cut (b ∷ []) [] h = cut_one b [] h.sign (no_pair b) (no_triple b 0 0 (λ e. omega arith)) (and_right _ _ refl)
short_cut (b ∷ []) (c ∷ []) h =
    let two = or_parts (is_pair b c) (nat_eq b 47 && (nat_eq c 47 || nat_eq c 42)) (h.longest (b ∷ c ∷ []) [] refl (omega arith)) in
    cut_one b (c ∷ []) h.sign two.0 (no_triple b c 0 (λ e. omega arith)) two.1
short_cut (b ∷ []) (c ∷ d ∷ rest) h =
    let two = or_parts (is_pair b c) (nat_eq b 47 && (nat_eq c 47 || nat_eq c 42)) (h.longest (b ∷ c ∷ []) (d ∷ rest) refl (omega arith)) in
    let three = or_parts (is_triple b c d) false (h.longest (b ∷ c ∷ d ∷ []) rest refl (omega arith)) in
    cut_one b (c ∷ d ∷ rest) h.sign two.0 three.0 two.1
short_cut (b ∷ c ∷ []) [] h = cut_two b c [] h.sign (no_triple b c 0 (λ e. omega arith))
short_cut (b ∷ c ∷ []) (d ∷ rest) h =
    let three = or_parts (is_triple b c d) false (h.longest (b ∷ c ∷ d ∷ []) rest refl (omega arith)) in
    cut_two b c (d ∷ rest) h.sign three.0
short_cut (b ∷ c ∷ d ∷ []) rest h = cut_three b c d rest h.sign
short_cut (b ∷ c ∷ d ∷ e ∷ z) rest h = absurd (false≢true h.sign)

pub sign_stands : (b : ℕ) (y : Bytes) (n : ℕ) → (nat_eq b 47 && nat_eq (get_or y 0 0) 47) ≡ false → (nat_eq b 47 && nat_eq (get_or y 0 0) 42) ≡ false → sign_at (b ∷ y) ≡ n → 0 < n
    → IsPunctuation (take n (b ∷ y)) (drop n (b ∷ y)) × (n ≤ length (b ∷ y))
sign_stands b y n h k e some = let l = short_stands b y n h k e some in (from_short (take n (b ∷ y)) (drop n (b ∷ y)) l.0, l.1)

pub sign_cut : (bytes rest : Bytes) → IsPunctuation bytes rest → IsCutSign (bytes ++ rest) (length bytes)
sign_cut bytes rest h = short_cut bytes rest (to_short bytes rest h)
