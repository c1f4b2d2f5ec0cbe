-- Names, numbers, atoms and values: no words spell two.
use Rattle.std.proofs.Common.{◌≡◌, inl, inr, ℕ, ◌+◌, Bool, true, false, List, [], ◌∷◌, codes, drop, refl, sym, ap, subst, ◌∙◌}
use Rattle.std.specs.Str.Parse.{digits_value}
use Rattle.std.proofs.lemmas.Bool.{and_parts}
use Rattle.vlog_tree.specs.declared.tree.Atom.{Atom}
use Rattle.vlog_tree.specs.declared.tree.Atom.TheVariants.{Net, Part as PartSelect, Literal}
use Rattle.vlog_tree.specs.Names.{IsName, is_name, has_name_form, starts_name}
use Rattle.vlog_tree.specs.Spelling.{Word}
use Rattle.tapa_base.specs.Spans.{◌⨾◌}
use Rattle.vlog_lex.specs.Spans.{Takes}
use Rattle.vlog_lex.specs.Numerals.{base_of, Sized, sized_word, IsSized, IsNumber, IsLiteral}
use Rattle.tapa_base.specs.Gaps.{Bytes, begins}
use Rattle.vlog_lex.specs.Lexemes.{is_digit_of}
use Rattle.vlog_lex.specs.Grammar.{SpellsName, SpellsNumber, SpellsLastOf, SpellsRange, SpellsAtom}
use Rattle.vlog_lex.proofs.Cuts.{front, behind, front_is, behind_is, all_digits, digits_begin, sized_begins, digit_no_name}

abbrev pub first : List Word → Word
first [] = []
first (w ∷ i) = w

-- ---- words that differ

pub name_begins : (x : Word) → IsName x → begins starts_name x ≡ true
name_begins [] h = cc
name_begins (b ∷ z) h = (and_parts (starts_name b) _ (and_parts (has_name_form (b ∷ z)) _ h).0).0

pub digit_begins_no_name : (w : Word) → begins (is_digit_of 10) w ≡ true → begins starts_name w ≡ false
digit_begins_no_name [] h = refl
digit_begins_no_name (b ∷ z) h = digit_no_name b h

-- words of which one begins with such a byte, and the other doesn't
pub apart : (class : ℕ → Bool) (v w : Word) → begins class v ≡ true → begins class w ≡ false → v ≡ w → ⊥
apart class v w h k e = let f : true ≡ false = sym h ∙ ap (begins class) e ∙ k in cc

pub names_no_sign : (x : Word) (w : Word) → IsName x → begins starts_name w ≡ false → x ≡ w → ⊥
names_no_sign x w h k e = apart starts_name x w (name_begins x h) k e

pub names_no_keyword : (x w : Word) → IsName x → is_name w ≡ false → x ≡ w → ⊥
names_no_keyword x w h k e = let f : true ≡ false = sym h ∙ ap is_name e ∙ k in cc

pub number_begins : (n : ℕ) (w : Word) → IsNumber n w → begins (is_digit_of 10) w ≡ true
number_begins n w h = digits_begin 10 w h.0

pub literal_begins : (width value : ℕ) (w : Word) → IsLiteral width value w → begins (is_digit_of 10) w ≡ true
literal_begins width value w (l, is, e, a, b) = ap (begins (is_digit_of 10)) e ∙ sized_begins l is

pub names_no_digit : (x w : Word) → IsName x → begins (is_digit_of 10) w ≡ true → x ≡ w → ⊥
names_no_digit x w h k e = names_no_sign x w h (digit_begins_no_name w k) e

-- ---- single words

pub one_word : (w : Word) (i j k : List Word) → Takes w i j → Takes w i k → j ≡ k
one_word w i j k e f = ap (drop 1) (sym e ∙ f)

pub same_first : (v w : Word) (i j k : List Word) → i ≡ v ∷ j → i ≡ w ∷ k → v ≡ w
same_first v w i j k e f = ap first (sym e ∙ f)

pub same_rest : (v w : Word) (i j k : List Word) → i ≡ v ∷ j → i ≡ w ∷ k → j ≡ k
same_rest v w i j k e f = ap (drop 1) (sym e ∙ f)

pub one_name : (x y : List ℕ) (i j k : List Word) → SpellsName x i j → SpellsName y i k → (x ≡ y) × (j ≡ k)
one_name x y i j k (n, e) (m, f) = (same_first x y i j k e f, same_rest x y i j k e f)

pub one_number : (m n : ℕ) (i j k : List Word) → SpellsNumber m i j → SpellsNumber n i k → (m ≡ n) × (j ≡ k)
one_number m n i j k (v, p, e) (w, q, f) = (sym p.1 ∙ ap (digits_value 10) (same_first v w i j k e f) ∙ q.1, same_rest v w i j k e f)

pub one_last : (m n : ℕ) (i j k : List Word) → SpellsLastOf m i j → SpellsLastOf n i k → (m ≡ n) × (j ≡ k)
one_last m n i j k (a, e, p) (b, f, q) = let s = one_number a b i j k p q in (e ∙ ap (λ x. x + 1) s.0 ∙ sym f, s.1)

sized_front : (l : Sized) → IsSized l → front (is_digit_of 10) (sized_word l) ≡ l.size
sized_front l h = front_is (is_digit_of 10) l.size (39 ∷ l.letter ∷ l.digits) (all_digits 10 l.size h.0.1) refl

sized_behind : (l : Sized) → IsSized l → behind (is_digit_of 10) (sized_word l) ≡ 39 ∷ l.letter ∷ l.digits
sized_behind l h = behind_is (is_digit_of 10) l.size (39 ∷ l.letter ∷ l.digits) (all_digits 10 l.size h.0.1) refl

-- the number that digits behind a letter write
tail_value : Bytes → ℕ
tail_value (a ∷ letter ∷ digits) = digits_value (base_of letter) digits
tail_value _ = 0

one_literal : (a b c d : ℕ) (v w : Word) → IsLiteral a b v → IsLiteral c d w → v ≡ w → (a ≡ c) × (b ≡ d)
unfolding tail_value
one_literal a b c d v w (l, p, e, x, y) (m, q, f, z, t) same =
    let word : sized_word l ≡ sized_word m = sym e ∙ same ∙ f in
    let size = sym (sized_front l p) ∙ ap (front (is_digit_of 10)) word ∙ sized_front m q in
    let tail = sym (sized_behind l p) ∙ ap (behind (is_digit_of 10)) word ∙ sized_behind m q in
    (sym x ∙ ap (digits_value 10) size ∙ z, sym y ∙ ap tail_value tail ∙ t)

-- ---- ranges

pub one_range : (v w : ℕ) (x y : List ℕ) (i j k : List Word) → (SpellsRange v ⨾ SpellsName x) i j → (SpellsRange w ⨾ SpellsName y) i k → (v ≡ w) × (x ≡ y) × (j ≡ k)
unfolding starts_name
one_range v w x y i j k (s, inl (a, e), p) (t, inl (b, f), q) =
    let n = one_name x y i j k (p.0, e ∙ p.1) (q.0, f ∙ q.1) in (a ∙ sym b, n.0, n.1)
one_range v w x y i j k (s, inl (a, e), p) (t, inr (u, f, g), q) = absurd (names_no_sign x (codes "[") p.0 refl (same_first x (codes "[") i j u (e ∙ p.1) f))
one_range v w x y i j k (s, inr (u, f, g), p) (t, inl (a, e), q) = absurd (names_no_sign y (codes "[") q.0 refl (same_first y (codes "[") i k u (e ∙ q.1) f))
one_range v w x y i j k (s, inr (a, e, (b, p, (c, g, (d, h, l)))), n) (t, inr (a1, e1, (b1, p1, (c1, g1, (d1, h1, l1)))), m) =
    let s1 = same_rest (codes "[") (codes "[") i a a1 e e1 in
    let s2 = one_last v w a b b1 p (subst (λ (z : List Word). SpellsLastOf w z b1) (sym s1) p1) in
    let s3 = same_rest (codes ":") (codes ":") b c c1 g (s2.1 ∙ g1) in
    let s4 = same_rest (codes "0") (codes "0") c d d1 h (s3 ∙ h1) in
    let s5 = same_rest (codes "]") (codes "]") d s t l (s4 ∙ l1) in
    let s6 = one_name x y s j k n (subst (λ (z : List Word). SpellsName y z k) (sym s5) m) in
    (s2.0, s6.0, s6.1)

-- ---- atoms

-- what follows an atom begins no part of it
abbrev pub EndsAtom : List Word → Type 0
EndsAtom j = first j ≡ codes "[" → ⊥

pub one_atom : (a b : Atom) (i j k : List Word) → EndsAtom j → EndsAtom k → SpellsAtom a i j → SpellsAtom b i k → (a ≡ b) × (j ≡ k)
one_atom (Net x) (Net y) i j k ej ek p q = let n = one_name x y i j k p q in (ap Net n.0, n.1)
one_atom (Net x) (PartSelect y high low) i j k ej ek p (t, q, (u, e, more)) = absurd (ej (ap first ((one_name x y i j t p q).1 ∙ e)))
one_atom (PartSelect y high low) (Net x) i j k ej ek (t, q, (u, e, more)) p = absurd (ek (ap first ((one_name x y i k t p q).1 ∙ e)))
one_atom (Net x) (Literal a b) i j k ej ek (n, e) (w, l, f) = absurd (names_no_digit x w n (literal_begins a b w l) (same_first x w i j k e f))
one_atom (Literal a b) (Net x) i j k ej ek (w, l, f) (n, e) = absurd (names_no_digit x w n (literal_begins a b w l) (same_first x w i k j e f))
one_atom (PartSelect x high low) (Literal a b) i j k ej ek (t, (n, e), more) (w, l, f) = absurd (names_no_digit x w n (literal_begins a b w l) (same_first x w i t k e f))
one_atom (Literal a b) (PartSelect x high low) i j k ej ek (w, l, f) (t, (n, e), more) = absurd (names_no_digit x w n (literal_begins a b w l) (same_first x w i t j e f))
one_atom (Literal a b) (Literal c d) i j k ej ek (v, p, e) (w, q, f) =
    let n = one_literal a b c d v w p q (same_first v w i j k e f) in let na = n.0 in let nb = n.1 in (cc, same_rest v w i j k e f)
one_atom (PartSelect x h l) (PartSelect y m n) i j k ej ek (a, p, (b, e, (c, q, (d, f, (g, r, z))))) (a1, p1, (b1, e1, (c1, q1, (d1, f1, (g1, r1, z1))))) =
    let s1 = one_name x y i a a1 p p1 in
    let s2 = same_rest (codes "[") (codes "[") a b b1 e (s1.1 ∙ e1) in
    let s3 = one_number h m b c c1 q (subst (λ (t : List Word). SpellsNumber m t c1) (sym s2) q1) in
    let s4 = same_rest (codes ":") (codes ":") c d d1 f (s3.1 ∙ f1) in
    let s5 = one_number l n d g g1 r (subst (λ (t : List Word). SpellsNumber n t g1) (sym s4) r1) in
    let s6 = same_rest (codes "]") (codes "]") g j k z (s5.1 ∙ z1) in
    let ex = s1.0 in let eh = s3.0 in let el = s5.0 in (cc, s6)
