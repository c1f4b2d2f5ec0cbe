-- Where lines of the head stop.
use Rattle.std.proofs.Common.{◌≡◌, ◌≢◌, ◌⊎◌, ℕ, ◌+◌, ◌%◌, ◌^◌, ◌<◌, ◌≤◌, Bool, true, false, List, [], ◌∷◌, ◌++◌, length, inl, inr, refl, sym, ap, subst, ◌∙◌, append_assoc, arith}
use Rattle.std.specs.Prelude.{codes, decimal, bytes_eq, min}
use Rattle.std.specs.List.{list_all}
use Rattle.std.proofs.lemmas.Bool.Decides.{eqb_tells}
use Rattle.std.proofs.lemmas.Fmt.{decimal_injective, decimal_by_steps}
use Rattle.std.proofs.lemmas.List.{length-append}
use Rattle.std.proofs.lemmas.Slice.Eq.{bytes_eq-Decides}
use Rattle.tapa_base.specs.declared.shape.Port.{Port}
use Rattle.tapa_base.specs.Gaps.{Bytes}
use Rattle.vlog_tree.specs.Names.{IsName, goes_on, starts_name}
use Rattle.vcd_text.specs.Along.{common, StopsBefore}
use Rattle.vcd_text.specs.Dump.{net_type, identifier}
use Rattle.vcd_text.specs.Head.{MayName, IsNameWord, IsType, IsWidthBelow, IsFromName, IsFromIdentifier, IsFromWidth, IsFromType, IsHeadLineTo}
use Rattle.vcd_text.specs.Lines.{head_end}
use Rattle.vcd_text.proofs.Common.{common_other, not_both}
use Rattle.vcd_text.proofs.Sequences.{Apart, Free, free_append, ended_apart, before_first, before_next}
use Rattle.vcd_text.proofs.Lines.{before_either}
use Rattle.vcd_text.proofs.Names.{new_name, name_parts, no_name, blank_ends, started}
use Rattle.tapa_base.proofs.Tests.{bool_cases as yes_or_no, both_true as both}

-- ---- types and widths

pub width_more : (z : Bytes) (k l r : ℕ) → 1 ≤ k → StopsBefore (IsWidthBelow k) z l → StopsBefore (λ w. w ≡ decimal k ++ 32 ∷ []) z r → StopsBefore (IsWidthBelow (k + 1)) z (min l r)
width_more z k l r h s t = before_either (IsWidthBelow k) (λ w. w ≡ decimal k ++ 32 ∷ []) (IsWidthBelow (k + 1)) z l r
    (λ w is. (is.0, is.1, omega (arith, is.2), is.3)) (λ w e. (k, h, omega arith, e))
    (λ w is. elim (eqb_tells is.0 k) [ inl t ↦ inr (is.3 ∙ ap (λ (n : ℕ). decimal n ++ 32 ∷ []) t.1) | inr f ↦ inl (is.0, is.1, omega (arith, is.2, f.1), is.3) ]) s t

-- ---- words without blanks

pub decimal_free : (e n : ℕ) → e < 48 → n < 2 ^ 64 → Free e (decimal n)
decimal_free e n h small = decimal_by_steps (λ m ds. Free e ds) (λ m q. ((λ same. absurd (omega (arith, same))), tt)) (λ m ds q is. free_append e ds ((48 + m % 10) ∷ []) is ((λ same. absurd (omega (arith, same))), tt)) n small

letters_free : (x : Bytes) → list_all goes_on x ≡ true → Free 32 x
letters_free [] h = tt
letters_free (c ∷ x) h = let p : (goes_on c ≡ true) × (list_all goes_on x ≡ true) = both (goes_on c) (list_all goes_on x) h in
    ((λ e. not_both (goes_on 32) (subst (λ (d : ℕ). goes_on d ≡ true) e p.0) blank_ends), letters_free x p.1)

pub name_free : (x : Bytes) → IsName x → Free 32 x
name_free [] h = absurd (no_name h)
name_free (c ∷ x) h = let p : (starts_name c ≡ true) × (list_all goes_on x ≡ true) = name_parts c x h in
    ((λ e. not_both (goes_on 32) (subst (λ (d : ℕ). goes_on d ≡ true) e (started c p.0)) blank_ends), letters_free x p.1)

-- another word with a blank behind it goes along no further than a word with a blank
pub spaced_apart : (a b y z : Bytes) → Free 32 a → Free 32 b → a ≢ b → Apart ((a ++ 32 ∷ []) ++ y) ((b ++ 32 ∷ []) ++ z) (length (b ++ 32 ∷ []))
spaced_apart a b y z p q ne =
    let far : (common (a ++ 32 ∷ y) (b ++ 32 ∷ z) ≤ length b) × (common (a ++ 32 ∷ y) (b ++ 32 ∷ z) ≤ length a) = ended_apart 32 a b y z p q ne in
    let same : common ((a ++ 32 ∷ []) ++ y) ((b ++ 32 ∷ []) ++ z) ≡ common (a ++ 32 ∷ y) (b ++ 32 ∷ z) = ap (λ (l : Bytes). common l ((b ++ 32 ∷ []) ++ z)) (append_assoc a (32 ∷ []) y) ∙ ap (λ (l : Bytes). common (a ++ 32 ∷ y) l) (append_assoc b (32 ∷ []) z) in
    record {
      most = omega (arith, same, far.0, length-append b (32 ∷ []));
      none = omega (arith, same, far.1, length-append (a ++ 32 ∷ []) y, length-append a (32 ∷ []));
    }

-- ---- from a name on

pub name_first : (nets : List Port) (z : Bytes) (left : ℕ) → StopsBefore (IsNameWord nets) z left → StopsBefore (IsFromName nets) z left
name_first nets z left s = before_first (IsNameWord nets) (IsFromName nets) z left
    (λ w is. (codes "$end\n", (is.0, is.1, ap (λ (l : Bytes). l ++ codes "$end\n") is.2 ∙ append_assoc is.0 (32 ∷ []) (codes "$end\n"))))
    (λ w is. (is.0 ++ 32 ∷ [], codes "$end\n", (is.0, is.1, refl), is.2 ∙ sym (append_assoc is.0 (32 ∷ []) (codes "$end\n")))) s

pub name_next : (nets : List Port) (x z all : Bytes) (left : ℕ) → MayName nets x → all ≡ (x ++ 32 ∷ []) ++ z → StopsBefore (λ w. w ≡ codes "$end\n") z left → StopsBefore (IsFromName nets) all left
name_next nets x z all left ok e s = before_next (IsFromName nets) (λ w. w ≡ codes "$end\n") (x ++ 32 ∷ []) z all left e
    (λ y f. (x, ok, ap (λ (l : Bytes). (x ++ 32 ∷ []) ++ l) f ∙ append_assoc x (32 ∷ []) (codes "$end\n")))
    (λ w is. elim (yes_or_no (bytes_eq is.0 x)) [
      | inl t ↦ inl (codes "$end\n", is.2 ∙ ap (λ (l : Bytes). l ++ codes " $end\n") ((bytes_eq-Decides is.0 x).0 t) ∙ sym (append_assoc x (32 ∷ []) (codes "$end\n")), refl)
      | inr f ↦ inr (subst (λ (l : Bytes). Apart l ((x ++ 32 ∷ []) ++ z) (length (x ++ 32 ∷ []))) (sym (is.2 ∙ sym (append_assoc is.0 (32 ∷ []) (codes "$end\n"))))
          (spaced_apart is.0 x (codes "$end\n") z (name_free is.0 is.1.0) (name_free x ok.0) (λ same. not_both (bytes_eq is.0 x) ((bytes_eq-Decides is.0 x).1 same) f)))
    ]) s

some_name : (nets : List Port) → (w : Bytes) × IsFromName nets w
some_name nets = let n : (y : Bytes) × MayName nets y = new_name nets [] in (n.0 ++ codes " $end\n", (n.0, n.1, refl))

-- ---- from an identifier on

pub identifier_first : (nets : List Port) (k : ℕ) (z : Bytes) (left : ℕ) → StopsBefore (λ w. w ≡ identifier k ++ 32 ∷ []) z left → StopsBefore (IsFromIdentifier nets k) z left
identifier_first nets k z left s = before_first (λ w. w ≡ identifier k ++ 32 ∷ []) (IsFromIdentifier nets k) z left
    (λ w e. let n : (y : Bytes) × IsFromName nets y = some_name nets in (n.0, (n.0, n.1, ap (λ (l : Bytes). l ++ n.0) e)))
    (λ w is. (identifier k ++ 32 ∷ [], is.0, refl, is.2)) s

pub identifier_then : (nets : List Port) (k : ℕ) (z all : Bytes) (left : ℕ) → all ≡ (identifier k ++ 32 ∷ []) ++ z → StopsBefore (IsFromName nets) z left → StopsBefore (IsFromIdentifier nets k) all left
identifier_then nets k z all left e s = before_next (IsFromIdentifier nets k) (IsFromName nets) (identifier k ++ 32 ∷ []) z all left e (λ y is. (y, is, refl)) (λ w is. inl (is.0, is.2, is.1)) s

some_identifier : (nets : List Port) (k : ℕ) → (w : Bytes) × IsFromIdentifier nets k w
some_identifier nets k = let n : (y : Bytes) × IsFromName nets y = some_name nets in ((identifier k ++ 32 ∷ []) ++ n.0, (n.0, n.1, refl))

-- ---- from a width on

pub width_then : (nets : List Port) (k n : ℕ) (z all : Bytes) (left : ℕ) → 1 ≤ n → n ≤ 128 → all ≡ (decimal n ++ 32 ∷ []) ++ z → StopsBefore (IsFromIdentifier nets k) z left → StopsBefore (IsFromWidth nets k) all left
width_then nets k n z all left low high e s = before_next (IsFromWidth nets k) (IsFromIdentifier nets k) (decimal n ++ 32 ∷ []) z all left e
    (λ y is. (n, y, low, omega (arith, high), is, refl))
    (λ w is. elim (eqb_tells is.0 n) [
      | inl t ↦ inl (is.1, is.5 ∙ ap (λ (m : ℕ). (decimal m ++ 32 ∷ []) ++ is.1) t.1, is.4)
      | inr f ↦ inr (subst (λ (l : Bytes). Apart l ((decimal n ++ 32 ∷ []) ++ z) (length (decimal n ++ 32 ∷ []))) (sym is.5)
          (spaced_apart (decimal is.0) (decimal n) is.1 z (decimal_free 32 is.0 (omega arith) (omega (arith, is.3))) (decimal_free 32 n (omega arith) (omega (arith, high))) (λ same. f.1 (decimal_injective is.0 n (omega (arith, is.3)) (omega (arith, high)) same))))
    ]) s

pub width_begin : (nets : List Port) (k : ℕ) (z : Bytes) (left : ℕ) → StopsBefore (IsWidthBelow 129) z left → StopsBefore (IsFromWidth nets k) z left
width_begin nets k z left s = before_first (IsWidthBelow 129) (IsFromWidth nets k) z left
    (λ w is. let n : (y : Bytes) × IsFromIdentifier nets k y = some_identifier nets k in (n.0, (is.0, n.0, is.1, is.2, n.1, ap (λ (l : Bytes). l ++ n.0) is.3)))
    (λ w is. (decimal is.0 ++ 32 ∷ [], is.1, (is.0, is.2, is.3, refl), is.5)) s

some_width : (nets : List Port) (k : ℕ) → (w : Bytes) × IsFromWidth nets k w
some_width nets k = let n : (y : Bytes) × IsFromIdentifier nets k y = some_identifier nets k in ((decimal 1 ++ 32 ∷ []) ++ n.0, (1, n.0, omega arith, omega arith, n.1, refl))

-- ---- from a type on

pub type_begin : (nets : List Port) (k : ℕ) (z : Bytes) (left : ℕ) → StopsBefore IsType z left → StopsBefore (IsFromType nets k) z left
type_begin nets k z left s = before_first IsType (IsFromType nets k) z left
    (λ w is. let n : (y : Bytes) × IsFromWidth nets k y = some_width nets k in (n.0, (is.0, n.0, n.1, ap (λ (l : Bytes). l ++ n.0) is.1)))
    (λ w is. (net_type is.0, is.1, (is.0, refl), is.3)) s

types_apart : (r q : Bool) (y z : Bytes) → r ≢ q → Apart (net_type r ++ y) (net_type q ++ z) (length (net_type q))
types_apart true true y z ne = absurd (ne refl)
types_apart false false y z ne = absurd (ne refl)
types_apart true false y z ne = let none : common (net_type true ++ y) (net_type false ++ z) ≡ 0 = common_other 114 119 (101 ∷ 103 ∷ 32 ∷ y) (105 ∷ 114 ∷ 101 ∷ 32 ∷ z) (λ e. absurd (omega (arith, e))) in record { most = omega (arith, none); none = omega (arith, none) }
types_apart false true y z ne = let none : common (net_type false ++ y) (net_type true ++ z) ≡ 0 = common_other 119 114 (105 ∷ 114 ∷ 101 ∷ 32 ∷ y) (101 ∷ 103 ∷ 32 ∷ z) (λ e. absurd (omega (arith, e))) in record { most = omega (arith, none); none = omega (arith, none) }

same_or_not : (r q : Bool) → (r ≡ q) ⊎ (r ≢ q)
same_or_not true true = inl refl
same_or_not false false = inl refl
same_or_not true false = inr (λ e. not_both true refl e)
same_or_not false true = inr (λ e. not_both true refl (sym e))

pub type_then : (nets : List Port) (k : ℕ) (q : Bool) (z all : Bytes) (left : ℕ) → all ≡ net_type q ++ z → StopsBefore (IsFromWidth nets k) z left → StopsBefore (IsFromType nets k) all left
type_then nets k q z all left e s = before_next (IsFromType nets k) (IsFromWidth nets k) (net_type q) z all left e
    (λ y is. (q, y, is, refl))
    (λ w is. elim (same_or_not is.0 q) [
      | inl t ↦ inl (is.1, is.3 ∙ ap (λ (b : Bool). net_type b ++ is.1) t, is.2)
      | inr f ↦ inr (subst (λ (l : Bytes). Apart l (net_type q ++ z) (length (net_type q))) (sym is.3) (types_apart is.0 q is.1 z f))
    ]) s

-- ---- the line of a net

some_type : (nets : List Port) (k : ℕ) → (w : Bytes) × IsFromType nets k w
some_type nets k = let n : (y : Bytes) × IsFromWidth nets k y = some_width nets k in (net_type false ++ n.0, (false, n.0, n.1, refl))

abbrev pub IsVar : List Port → ℕ → Bytes → Type 0
IsVar nets k w = (y : Bytes) × IsFromType nets k y × (w ≡ codes "$var " ++ y)

pub var_begin : (nets : List Port) (k : ℕ) (z : Bytes) (left : ℕ) → StopsBefore (λ w. w ≡ codes "$var ") z left → StopsBefore (IsVar nets k) z left
var_begin nets k z left s = before_first (λ w. w ≡ codes "$var ") (IsVar nets k) z left
    (λ w e. let n : (y : Bytes) × IsFromType nets k y = some_type nets k in (n.0, (n.0, n.1, ap (λ (l : Bytes). l ++ n.0) e)))
    (λ w is. (codes "$var ", is.0, refl, is.2)) s

pub var_then : (nets : List Port) (k : ℕ) (z all : Bytes) (left : ℕ) → all ≡ codes "$var " ++ z → StopsBefore (IsFromType nets k) z left → StopsBefore (IsVar nets k) all left
var_then nets k z all left e s = before_next (IsVar nets k) (IsFromType nets k) (codes "$var ") z all left e (λ y is. (y, is, refl)) (λ w is. inl (is.0, is.2, is.1)) s

pub head_either : (nets : List Port) (k : ℕ) (z : Bytes) (l r : ℕ) → StopsBefore (λ w. w ≡ head_end) z l → StopsBefore (IsVar nets k) z r → StopsBefore (IsHeadLineTo nets k) z (min l r)
head_either nets k z l r s t = before_either (λ w. w ≡ head_end) (IsVar nets k) (IsHeadLineTo nets k) z l r (λ w e. inl e) (λ w is. inr is) (λ w u. u) s t
