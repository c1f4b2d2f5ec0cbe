-- Classes of bytes that have no byte in common.
use Rattle.std.proofs.Common.{⊎_elim, inl, inr, ◌⊎◌, ◌≡◌, ℕ, Bool, true, false, not, ◌&&◌, List, [], ◌∷◌, refl, sym, subst, arith, nat_eq, eqb-true}
use Rattle.std.specs.List.{list_all}
use Rattle.std.proofs.lemmas.Bool.{and_parts, or_cases}
use Rattle.std.proofs.lemmas.Bool.Decides.{nat_tests}
use Rattle.tapa_base.specs.Gaps.{is_blank, is_in_line}
use Rattle.tapa_syntax.specs.Characters.{is_digit, is_letter, is_word_byte, is_among}
use Rattle.tapa_syntax.specs.Lexemes.{is_inner_blank}
use Rattle.tapa_lex.specs.Reading.{is_single, is_pair, is_triple, singles, doubled, before_equals, shifts}
use Rattle.tapa_base.proofs.Tests.{not_so as not_false}

pub letter_no_blank : (b : ℕ) → is_letter b ≡ true → is_blank b ≡ false
letter_no_blank b h = grind (arith, nat_tests)

pub digit_no_blank : (b : ℕ) → is_digit b ≡ true → is_blank b ≡ false
digit_no_blank b h = grind (arith, nat_tests)

pub digit_no_letter : (b : ℕ) → is_digit b ≡ true → is_letter b ≡ false
digit_no_letter b h = grind (arith, nat_tests)

pub letter_in_word : (b : ℕ) → is_letter b ≡ true → is_word_byte b ≡ true
letter_in_word b h = rw h refl

pub digit_in_word : (b : ℕ) → is_digit b ≡ true → is_word_byte b ≡ true
digit_in_word b h = grind (arith, nat_tests)

pub word_in_line : (b : ℕ) → is_word_byte b ≡ true → is_in_line b ≡ true
word_in_line b h = grind (arith, nat_tests)

pub inner_in_line : (b : ℕ) → is_inner_blank b ≡ true → is_in_line b ≡ true
inner_in_line b h = (and_parts (is_blank b) (is_in_line b) h).1

-- what no line goes on with goes on no word
pub ends_word : (b : ℕ) → is_in_line b ≡ false → is_word_byte b ≡ false
ends_word b h = grind (arith, nat_tests)

-- what holds of each of a few bytes holds of one of them
pub one_of : (P : ℕ → Bool) (set : List ℕ) (b : ℕ) → list_all P set ≡ true → is_among set b ≡ true → P b ≡ true
one_of P [] b all h = absurd cc
one_of P (c ∷ set) b all h = ⊎_elim (λ (e : nat_eq c b ≡ true). subst (λ (x : ℕ). P x ≡ true) (eqb-true c b e) (and_parts (P c) (list_all P set) all).0) (λ (m : is_among set b ≡ true). one_of P set b (and_parts (P c) (list_all P set) all).1 m) (or_cases (nat_eq c b) (is_among set b) h)

-- ---- punctuation

abbrev is_apart : ℕ → Bool
is_apart b = not (is_blank b) && not (is_letter b) && not (is_digit b) && not (nat_eq b 34) && not (nat_eq b 35)

-- no blank, word, string or line begins like a sign
pub record IsApart (b : ℕ) : Type 0 where
  pub blank : is_blank b ≡ false
  pub letter : is_letter b ≡ false
  pub digit : is_digit b ≡ false
  pub quote : nat_eq b 34 ≡ false
  pub line : nat_eq b 35 ≡ false

pub single_apart : (b : ℕ) → is_single b ≡ true → IsApart b
single_apart b h =
    let all = one_of is_apart singles b refl h in
    let four = and_parts (not (is_blank b) && not (is_letter b) && not (is_digit b) && not (nat_eq b 34)) (not (nat_eq b 35)) all in
    let three = and_parts (not (is_blank b) && not (is_letter b) && not (is_digit b)) (not (nat_eq b 34)) four.0 in
    let two = and_parts (not (is_blank b) && not (is_letter b)) (not (is_digit b)) three.0 in
    let one = and_parts (not (is_blank b)) (not (is_letter b)) two.0 in
    record { blank = not_false _ one.0; letter = not_false _ one.1; digit = not_false _ two.1; quote = not_false _ three.1; line = not_false _ four.1 }

pub pair_cases : (b c : ℕ) → is_pair b c ≡ true → ((nat_eq b c ≡ true) × (is_among doubled b ≡ true)) ⊎ ((nat_eq c 61 ≡ true) × (is_among before_equals b ≡ true))
pair_cases b c h =
    ⊎_elim
    (λ (e : (nat_eq b c && is_among doubled b) ≡ true). inl (and_parts (nat_eq b c) (is_among doubled b) e))
    (λ (e : (nat_eq c 61 && is_among before_equals b) ≡ true). inr (and_parts (nat_eq c 61) (is_among before_equals b) e))
    (or_cases (nat_eq b c && is_among doubled b) (nat_eq c 61 && is_among before_equals b) h)

-- both bytes of a pair are signs themselves
pub pair_first : (b c : ℕ) → is_pair b c ≡ true → is_single b ≡ true
pair_first b c h =
    ⊎_elim
    (λ (e : (nat_eq b c ≡ true) × (is_among doubled b ≡ true)). one_of is_single doubled b refl e.1)
    (λ (e : (nat_eq c 61 ≡ true) × (is_among before_equals b ≡ true)). one_of is_single before_equals b refl e.1)
    (pair_cases b c h)

pub pair_second : (b c : ℕ) → is_pair b c ≡ true → is_single c ≡ true
pair_second b c h =
    ⊎_elim
    (λ (e : (nat_eq b c ≡ true) × (is_among doubled b ≡ true)). subst (λ (x : ℕ). is_single x ≡ true) (eqb-true b c e.0) (one_of is_single doubled b refl e.1))
    (λ (e : (nat_eq c 61 ≡ true) × (is_among before_equals b ≡ true)). subst (λ (x : ℕ). is_single x ≡ true) (sym (eqb-true c 61 e.0)) refl)
    (pair_cases b c h)

-- a triple is a shift, doubled, and `=`
pub record IsShift (b c d : ℕ) : Type 0 where
  pub twice : b ≡ c
  pub equals : d ≡ 61
  pub shift : is_among shifts b ≡ true

pub triple_parts : (b c d : ℕ) → is_triple b c d ≡ true → IsShift b c d
triple_parts b c d h =
    let both = and_parts (nat_eq b c && nat_eq d 61) (is_among shifts b) h in
    let two = and_parts (nat_eq b c) (nat_eq d 61) both.0 in
    record { twice = eqb-true b c two.0; equals = eqb-true d 61 two.1; shift = both.1 }

pub triple_first : (b c d : ℕ) → is_triple b c d ≡ true → is_single b ≡ true
triple_first b c d h = one_of is_single shifts b refl (triple_parts b c d h).shift
