-- Labels are cut at `$` in one way: a name has none, and neither have a position's digits.
use Rattle.std.proofs.Common.{◌≡◌, ◌<◌, ◌^◌, ℕ, [], ◌∷◌, ◌++◌, Bool, true, false, ◌&&◌, ◌||◌, refl, sym, subst, ◌∙◌, arith, append_assoc, le-leb}
use Rattle.std.specs.Prelude.{decimal, IsTrue, ◌==◌, nat_le}
use Rattle.std.specs.List.{list_all, AllByRecursion}
use Rattle.std.specs.Str.Parse.{AllDigits}
use Rattle.std.proofs.lemmas.Fmt.{decimal_injective, decimal_is_IsNumeral}
use Rattle.std.proofs.lemmas.List.{append-nil}
use Rattle.std.proofs.lemmas.Str.Parse.{digit_from_value}
use Rattle.tapa_base.specs.Gaps.{Bytes, begins}
use Rattle.tapa_syntax.specs.Characters.{is_letter, is_digit, is_word_byte}
use Rattle.stream_check.specs.Parts.{below, instance_name}
use Rattle.command_source.specs.Labels.{IsPlainName, IsLabel}
use Rattle.tapa_base.proofs.Tests.{both_true as both}

-- no `$`
abbrev pub IsFree : Bytes → Type 0
IsFree x = AllByRecursion (λ b. b ≡ 36 → ⊥) x

-- nothing, or `$` and more
abbrev pub IsTail : Bytes → Type 0
IsTail [] = Unit {0}
IsTail (b ∷ x) = b ≡ 36

-- ---- lists of bytes

pub cut : (x y s t : Bytes) → IsFree x → IsFree y → IsTail s → IsTail t → x ++ s ≡ y ++ t → (x ≡ y) × (s ≡ t)
cut [] [] s t f g u v e = (refl, e)
cut [] (b ∷ y) [] t f g u v e = absurd (cc)
cut [] (b ∷ y) (c ∷ s) t f g u v e = let h : b ≡ 36 = cc in absurd (g.0 h)
cut (a ∷ x) [] s [] f g u v e = absurd (cc)
cut (a ∷ x) [] s (c ∷ t) f g u v e = let h : a ≡ 36 = cc in absurd (f.0 h)
cut (a ∷ x) (b ∷ y) s t f g u v e =
    let h : a ≡ b = cc in
    let k : x ++ s ≡ y ++ t = cc in
    let r = cut x y s t f.1 g.1 u v k in
    ((λ i. h i ∷ r.0 i), r.1)

same_behind : (x s t : Bytes) → x ++ s ≡ x ++ t → s ≡ t
same_behind [] s t e = e
same_behind (b ∷ x) s t e = let h : x ++ s ≡ x ++ t = cc in same_behind x s t h

pub below_same : (label x y : Bytes) → below label x ≡ below label y → x ≡ y
below_same [] x y e = e
below_same (b ∷ label) x y e = let h : 36 ∷ x ≡ 36 ∷ y = same_behind (b ∷ label) (36 ∷ x) (36 ∷ y) e in cc

pub below_append : (label x tail : Bytes) → below label x ++ tail ≡ below label (x ++ tail)
below_append [] x tail = refl
below_append (b ∷ label) x tail = append_assoc (b ∷ label) (36 ∷ x) tail

-- ---- classes of bytes

and_both : (a b : Bool) → IsTrue a → IsTrue b → IsTrue (a && b)
and_both true b p q = q
and_both false b p q = absurd (cc)

or_left : (a b : Bool) → IsTrue a → IsTrue (a || b)
or_left true b p = refl
or_left false b p = absurd (cc)

or_right : (a b : Bool) → IsTrue b → IsTrue (a || b)
or_right true b p = refl
or_right false b p = p

all_true : (test : ℕ → Bool) (x y : Bytes) → IsTrue (list_all test x) → IsTrue (list_all test y) → IsTrue (list_all test (x ++ y))
all_true test [] y a b = b
all_true test (c ∷ x) y a b = and_both (test c) (list_all test (x ++ y)) (both (test c) (list_all test x) a).0 (all_true test x y (both (test c) (list_all test x) a).1 b)

abbrev is_label_byte : ℕ → Bool
is_label_byte b = is_word_byte b || b == 36

word_is_label : (x : Bytes) → IsTrue (list_all is_word_byte x) → IsTrue (list_all is_label_byte x)
word_is_label [] a = refl
word_is_label (c ∷ x) a =
    and_both (is_label_byte c) (list_all is_label_byte x) (or_left (is_word_byte c) (c == 36) (both (is_word_byte c) (list_all is_word_byte x) a).0)
    (word_is_label x (both (is_word_byte c) (list_all is_word_byte x) a).1)

word_free : (x : Bytes) → IsTrue (list_all is_word_byte x) → IsFree x
word_free [] a = tt
word_free (c ∷ x) a = (
  λ e. let z : false ≡ true = subst (λ b. IsTrue (is_word_byte b)) e (both (is_word_byte c) (list_all is_word_byte x) a).0 in cc,
  word_free x (both (is_word_byte c) (list_all is_word_byte x) a).1,
)

digits_word : (x : Bytes) → AllDigits 10 x → IsTrue (list_all is_word_byte x)
digits_word [] d = refl
digits_word (c ∷ x) d =
    let r = digit_from_value c d.0 in
    let digit = and_both (nat_le 48 c) (nat_le c 57) (le-leb 48 c (omega arith)) (le-leb c 57 (omega arith)) in
    and_both (is_word_byte c) (list_all is_word_byte x) (or_right (is_letter c) (is_digit c) digit) (digits_word x d.1)

decimal_word : (k : ℕ) → k < 2 ^ 64 → IsTrue (list_all is_word_byte (decimal k))
decimal_word k h = digits_word (decimal k) (decimal_is_IsNumeral k h).0.1

pub name_free : (x : Bytes) → IsPlainName x → IsFree x
name_free x p = word_free x p.all

-- ---- labels

pub name_is_label : (x : Bytes) → IsPlainName x → IsLabel x
name_is_label x p = record { first = p.first; all = word_is_label x p.all }

-- the label of an instance, or that of the top task, which has none
abbrev pub IsStart : Bytes → Type 0
IsStart [] = Unit {0}
IsStart (b ∷ label) = IsLabel (b ∷ label)

pub label_starts : (x : Bytes) → IsLabel x → IsStart x
label_starts [] p = tt
label_starts (b ∷ x) p = p

pub below_is_label : (label x : Bytes) → IsStart label → IsLabel x → IsLabel (below label x)
below_is_label [] x s p = p
below_is_label (b ∷ label) x s p = record { first = s.first; all = all_true is_label_byte (b ∷ label) (36 ∷ x) s.all p.all }

begins_append : (x y : Bytes) → IsTrue (begins is_letter x) → IsTrue (begins is_letter (x ++ y))
begins_append [] y a = absurd (cc)
begins_append (b ∷ x) y a = a

pub instance_is_label : (task : Bytes) (k : ℕ) → k < 2 ^ 64 → IsPlainName task → IsLabel (instance_name task k)
instance_is_label task k h p = record {
  first = begins_append task (36 ∷ decimal k) p.first;
  all = all_true is_label_byte task (36 ∷ decimal k) (word_is_label task p.all) (word_is_label (decimal k) (decimal_word k h));
}

-- ---- which part a label is of

-- the labels of two positions, and what is below them, differ
pub positions_differ : (x y : Bytes) (j k : ℕ) (s t : Bytes) → IsFree x → IsFree y → j < 2 ^ 64 → k < 2 ^ 64 → IsTail s → IsTail t → instance_name x j ++ s ≡ instance_name y k ++ t → j ≡ k
positions_differ x y j k s t f g small few u v e =
    let whole : x ++ (36 ∷ (decimal j ++ s)) ≡ y ++ (36 ∷ (decimal k ++ t)) = sym (append_assoc x (36 ∷ decimal j) s) ∙ e ∙ append_assoc y (36 ∷ decimal k) t in
    let behind : 36 ∷ (decimal j ++ s) ≡ 36 ∷ (decimal k ++ t) = (cut x y (36 ∷ (decimal j ++ s)) (36 ∷ (decimal k ++ t)) f g refl refl whole).1 in
    let rest : decimal j ++ s ≡ decimal k ++ t = cc in
    decimal_injective j k small few (cut (decimal j) (decimal k) s t (word_free (decimal j) (decimal_word j small)) (word_free (decimal k) (decimal_word k few)) u v rest).0

-- a name is not the label of an instance, nor of what is below it
pub name_differs : (x y : Bytes) (k : ℕ) (t : Bytes) → IsFree x → IsFree y → x ≡ instance_name y k ++ t → ⊥
name_differs x y k t f g e =
    let whole : x ++ [] ≡ y ++ (36 ∷ (decimal k ++ t)) = append-nil x ∙ e ∙ append_assoc y (36 ∷ decimal k) t in
    let behind : [] ≡ 36 ∷ (decimal k ++ t) = (cut x y [] (36 ∷ (decimal k ++ t)) f g tt refl whole).1 in
    cc
