-- Words that are numbers and literals, and that these are no names.
use Rattle.std.proofs.Common.{◌≡◌, ℕ, zero, suc, ◌+◌, ◌<◌, Bool, true, false, cond, not, ◌&&◌, [], ◌∷◌, ◌++◌, length, take, drop, Option, Some, None, refl, sym, ap, subst, ◌∙◌, arith, nat_eq, add-one, eqb-true, eq-eqb, ne_eqb}
use Rattle.std.specs.List.{list_all}
use Rattle.std.specs.Str.Parse.{IsNumeral, digits_value}
use Rattle.std.proofs.lemmas.Bool.{and_parts}
use Rattle.std.proofs.lemmas.List.{length-take-le, take-append-drop, drop_all}
use Rattle.tapa_syntax.specs.Characters.{run}
use Rattle.vlog_tree.specs.declared.tree.Atom.{Atom}
use Rattle.vlog_tree.specs.declared.tree.Atom.TheVariants.{Literal}
use Rattle.vlog_tree.specs.Names.{is_name, has_name_form, starts_name}
use Rattle.vlog_tree.specs.Spelling.{Word}
use Rattle.vlog_tree.specs.Clamped.{clamped_atom}
use Rattle.vlog_lex.specs.Numerals.{base_of, IsLiteral}
use Rattle.tapa_base.specs.Gaps.{begins}
use Rattle.vlog_lex.specs.Lexemes.{is_digit_of}
use Rattle.vlog_lex.proofs.Cuts.{all_digits, digits_begin, digit_no_name}
use Rattle.vlog_lex.proofs.OneAtom.{name_begins, digit_begins_no_name}
use Rattle.tapa_syntax.proofs.Runs.{run_passes, run_within, run_is}
use Rattle.vlog_lex.proofs.Pieces.{digits_all}
use Rattle.vlog_lex.specs.ReadNumerals.{is_numeral, is_number, sized_atom, based_of, literal_of}

-- ---- digits

run_all : (class : ℕ → Bool) (w : Word) → list_all class w ≡ true → run class w ≡ length w
run_all class [] all = refl
run_all class (b ∷ z) all =
    let both = and_parts (class b) (list_all class z) all in rw both.0 (add-one (run class z) ∙ ap suc (run_all class z both.1))

all_of : (class : ℕ → Bool) (w : Word) → run class w ≡ length w → list_all class w ≡ true
all_of class w e = subst (λ (v : Word). list_all class v ≡ true) (ap (λ n. take n w) e ∙ whole w) (run_passes class w)
  where
    whole : (w : Word) → take (length w) w ≡ w
    whole [] = refl
    whole (b ∷ z) = ap (λ (l : Word). b ∷ l) (whole z)

both_true : (a b : Bool) → a ≡ true → b ≡ true → a && b ≡ true
both_true true true e f = refl
both_true true false e f = cc
both_true false b e f = cc

pub numeral_true : (base : ℕ) (w : Word) → IsNumeral base w → is_numeral base w ≡ true
numeral_true base w h =
    both_true (not (nat_eq (length w) 0)) (nat_eq (run (is_digit_of base) w) (length w)) (ap not (ne_eqb (length w) 0 (λ e. absurd (omega (arith, h.0, e)))))
    (eq-eqb (run (is_digit_of base) w) (length w) (run_all (is_digit_of base) w (all_digits base w h.1)))

some_of : (w : Word) → not (nat_eq (length w) 0) ≡ true → 0 < length w
some_of [] h = absurd cc
some_of (b ∷ z) h = omega arith

pub numeral_of : (base : ℕ) (w : Word) → is_numeral base w ≡ true → IsNumeral base w
numeral_of base w h =
    let k = and_parts (not (nat_eq (length w) 0)) (nat_eq (run (is_digit_of base) w) (length w)) h in
    (some_of w k.0, digits_all base w (all_of (is_digit_of base) w (eqb-true (run (is_digit_of base) w) (length w) k.1)))

-- ---- words of different sorts

no_form : (w : Word) → begins starts_name w ≡ false → has_name_form w ≡ false
no_form [] h = refl
no_form (b ∷ z) h = rw h refl

pub no_name : (w : Word) → begins starts_name w ≡ false → is_name w ≡ false
no_name w h = rw (no_form w h) refl

begins_digit_no_name : (w : Word) → begins (is_digit_of 10) w ≡ true → is_name w ≡ false
begins_digit_no_name w h = no_name w (digit_begins_no_name w h)

pub number_no_name : (w : Word) → is_number w ≡ true → is_name w ≡ false
number_no_name w h = begins_digit_no_name w (digits_begin 10 w (numeral_of 10 w h))

-- a name has no digit in front
name_run : (w : Word) → is_name w ≡ true → run (is_digit_of 10) w ≡ 0
name_run [] h = refl
name_run (b ∷ z) h = by_digit (is_digit_of 10 b) refl
  where
    by_digit : (t : Bool) → is_digit_of 10 b ≡ t → cond t (run (is_digit_of 10) z + 1) 0 ≡ 0
    by_digit true e = absurd (let f : true ≡ false = sym (name_begins (b ∷ z) h) ∙ digit_no_name b e in cc)
    by_digit false e = refl

pub name_no_literal : (w : Word) → is_name w ≡ true → literal_of w ≡ None
name_no_literal w h = ap (λ n. cond {A = Option Atom} (nat_eq n 0) None (based_of (take n w) (drop n w))) (name_run w h)

pub number_no_literal : (w : Word) → is_number w ≡ true → literal_of w ≡ None
number_no_literal w h =
    let k = and_parts (not (nat_eq (length w) 0)) (nat_eq (run (is_digit_of 10) w) (length w)) h in
    let n : run (is_digit_of 10) w ≡ length w = eqb-true (run (is_digit_of 10) w) (length w) k.1 in
    ap (λ n. cond {A = Option Atom} (nat_eq n 0) None (based_of (take n w) (drop n w))) n
    ∙ ap (λ (l : Word). cond {A = Option Atom} (nat_eq (length w) 0) None (based_of (take (length w) w) l)) (drop_all (length w) w (omega arith)) ∙ same (nat_eq (length w) 0)
  where
    same : (t : Bool) → cond {A = Option Atom} t None None ≡ None
    same true = refl
    same false = refl

-- ---- literals

split_take : (a rest : Word) → take (length a) (a ++ rest) ≡ a
split_take [] rest = none rest
  where
    none : (l : Word) → take 0 l ≡ []
    none [] = refl
    none (b ∷ l) = refl
split_take (b ∷ a) rest = ap (λ (l : Word). b ∷ l) (split_take a rest)

split_drop : (a rest : Word) → drop (length a) (a ++ rest) ≡ rest
split_drop [] [] = refl
split_drop [] (b ∷ rest) = refl
split_drop (b ∷ a) rest = split_drop a rest

some_is : {A : Type 0} (x y : A) → (let p : Option A = Some x in let q : Option A = Some y in p ≡ q) → x ≡ y
some_is x y e = cc

literal_at : (size rest : Word) → IsNumeral 10 size → begins (is_digit_of 10) rest ≡ false → literal_of (size ++ rest) ≡ based_of size rest
literal_at size rest h ends =
    let n : run (is_digit_of 10) (size ++ rest) ≡ length size = run_is (is_digit_of 10) size rest (all_digits 10 size h.1) ends in
    ap (λ n. cond {A = Option Atom} (nat_eq n 0) None (based_of (take n (size ++ rest)) (drop n (size ++ rest)))) n
    ∙ ap (λ t. cond {A = Option Atom} t None (based_of (take (length size) (size ++ rest)) (drop (length size) (size ++ rest)))) (ne_eqb (length size) 0 (λ e. absurd (omega (arith, h.0, e))))
    ∙ ap (λ (l : Word). based_of l (drop (length size) (size ++ rest))) (split_take size rest) ∙ ap (based_of size) (split_drop size rest)

based_is : (size digits : Word) (letter : ℕ) → is_numeral (base_of letter) digits ≡ true → based_of size (39 ∷ letter ∷ digits) ≡ Some (sized_atom size (base_of letter) digits)
based_is size digits letter e = ap (λ t. cond {A = Option Atom} t (Some (sized_atom size (base_of letter) digits)) None) e

pub literal_is : (width value : ℕ) (w : Word) → IsLiteral width value w → literal_of w ≡ Some (clamped_atom (Literal width value))
literal_is width value w (l, sized, is, size, number) =
    ap literal_of is ∙ literal_at l.size (39 ∷ l.letter ∷ l.digits) sized.0 refl ∙ based_is l.size l.digits l.letter (numeral_true (base_of l.letter) l.digits sized.1)
    ∙ ap (λ n. Some (clamped_atom (Literal n (digits_value (base_of l.letter) l.digits)))) size ∙ ap (λ n. Some (clamped_atom (Literal width n))) number

pub literal_no_name : (width value : ℕ) (w : Word) → IsLiteral width value w → is_name w ≡ false
literal_no_name width value w h = by_name (is_name w) refl
  where
    by_name : (t : Bool) → is_name w ≡ t → is_name w ≡ false
    by_name true e = absurd (let f : Some (clamped_atom (Literal width value)) ≡ None = sym (literal_is width value w h) ∙ name_no_literal w e in cc)
    by_name false e = e

-- what stands behind the digits of a literal
record IsBased (rest : Word) (size : Word) (a : Atom) : Type 0 where
  letter : ℕ
  digits : Word
  is : rest ≡ 39 ∷ letter ∷ digits
  numeral : is_numeral (base_of letter) digits ≡ true
  value : a ≡ sized_atom size (base_of letter) digits

based_by : (size rest : Word) (a : Atom) → based_of size rest ≡ Some a → IsBased rest size a
based_by size [] a e = absurd cc
based_by size (q ∷ []) a e = absurd cc
based_by size (q ∷ letter ∷ digits) a e = by_test (nat_eq q 39 && is_numeral (base_of letter) digits) refl e
  where
    by_test : (t : Bool) → nat_eq q 39 && is_numeral (base_of letter) digits ≡ t → cond {A = Option Atom} t (Some (sized_atom size (base_of letter) digits)) None ≡ Some a → IsBased (q ∷ letter ∷ digits) size a
    by_test true t is =
        let k = and_parts (nat_eq q 39) (is_numeral (base_of letter) digits) t in
        record {
          letter = letter;
          digits = digits;
          is = ap (λ b. b ∷ letter ∷ digits) (eqb-true q 39 k.0);
          numeral = k.1;
          value = sym (some_is (sized_atom size (base_of letter) digits) a is);
        }
    by_test false t is = absurd cc

size_of : (w : Word) → 0 < run (is_digit_of 10) w → IsNumeral 10 (take (run (is_digit_of 10) w) w)
size_of w some =
    let n = run (is_digit_of 10) w in
    let long : length (take n w) ≡ n = length-take-le n w (run_within (is_digit_of 10) w) in
    (omega (arith, some, long), digits_all 10 (take n w) (run_passes (is_digit_of 10) w))

pub of_literal : (w : Word) (a : Atom) → literal_of w ≡ Some a → (width : ℕ) × (value : ℕ) × IsLiteral width value w × (a ≡ clamped_atom (Literal width value))
of_literal w a e = by_run (run (is_digit_of 10) w) refl
  where
    by_run : (m : ℕ) → run (is_digit_of 10) w ≡ m → (width : ℕ) × (value : ℕ) × IsLiteral width value w × (a ≡ clamped_atom (Literal width value))
    by_run zero none = absurd (let f = sym (ap (λ n. cond {A = Option Atom} (nat_eq n 0) None (based_of (take n w) (drop n w))) none) ∙ e in cc)
    by_run (suc m) some =
        let k = run (is_digit_of 10) w in
        let one : 0 < k = omega (arith, some) in
        let there : based_of (take k w) (drop k w) ≡ Some a =
        sym (ap (λ t. cond {A = Option Atom} t None (based_of (take k w) (drop k w))) (ne_eqb k 0 (λ e. absurd (omega (arith, one, e))))) ∙ e in
        let b = based_by (take k w) (drop k w) a there in (
          digits_value 10 (take k w),
          digits_value (base_of b.letter) b.digits,
          (
            record { size = take k w; letter = b.letter; digits = b.digits },
            (size_of w one, numeral_of (base_of b.letter) b.digits b.numeral),
            sym (take-append-drop k w) ∙ ap (λ (l : Word). take k w ++ l) b.is,
            refl,
            refl,
          ),
          b.value,
        )
