-- Values of changes are apart, and so are lines of changes.
use Rattle.std.proofs.Common.{◌≡◌, ◌≢◌, ℕ, zero, suc, ◌+◌, ◌-◌, ◌*◌, ◌/◌, ◌%◌, ◌^◌, ◌<◌, ◌≤◌, [], ◌∷◌, ◌++◌, length, inl, inr, refl, sym, ap, subst, ◌∙◌, append_assoc, arith, nat_eq, eq-eqb}
use Rattle.std.specs.Prelude.{Option}
use Rattle.std.proofs.lemmas.Bool.Decides.{eqb_tells}
use Rattle.std.proofs.lemmas.List.{length-append}
use Rattle.tapa_base.specs.Gaps.{Bytes}
use Rattle.vcd_text.specs.Along.{common, StopsBefore}
use Rattle.vcd_text.specs.Dump.{bits_from, binary, identifier, value_text, change_line}
use Rattle.vcd_text.specs.Lines.{IsNewValue}
use Rattle.vcd_text.proofs.Common.{common_other, common_same, less, cond_yes}
use Rattle.vcd_text.proofs.Sequences.{Apart, Free, free_append, ended_apart, ended_same, before_first, before_next, head_tail as heads}
use Rattle.vcd_text.proofs.Digits.{small_bits, big_bits}
use Rattle.vcd_text.proofs.Numbers.{wide_text}
use Rattle.vcd_text.proofs.Identifiers.{identifier_free, identifier_one}

-- ---- binary digits

pub binary_free : (e v : ℕ) → e < 48 → Free e (binary v)
unfolding binary
binary_free e v h = bits_free (suc v) v
  where
    bits_free : (m v : ℕ) → Free e (bits_from m v)
    bits_free zero v = tt
    bits_free (suc m) v = elim (less v 2) [
      | inl t ↦ subst (λ (l : Bytes). Free e l) (sym (small_bits m v t.1)) (λ same. absurd (omega (arith, same)), tt)
      | inr f ↦ subst (λ (l : Bytes). Free e l) (sym (big_bits m v f.1)) (free_append e (bits_from m (v / 2)) ((48 + v % 2) ∷ []) (bits_free m (v / 2)) (λ same. absurd (omega (arith, same)), tt))
    ]

-- the number that digits stand for behind those of another
number : ℕ → Bytes → ℕ
number a [] = a
number a (b ∷ w) = number (2 * a + (b - 48)) w

number_more : (a b : ℕ) (w : Bytes) → number a (w ++ b ∷ []) ≡ 2 * number a w + (b - 48)
unfolding number
number_more a b [] = refl
number_more a b (c ∷ w) = number_more (2 * a + (c - 48)) b w

number_of : (m v : ℕ) → v ≤ m → number 0 (bits_from (suc m) v) ≡ v
unfolding number
number_of zero v h = ap (number 0) (small_bits 0 v (omega arith)) ∙ omega arith
number_of (suc m) v h = elim (less v 2) [
  | inl t ↦ ap (number 0) (small_bits (suc m) v t.1) ∙ omega (arith, t.1)
  | inr f ↦ let ih = number_of m (v / 2) (omega (arith, f.1)) in ap (number 0) (big_bits (suc m) v f.1) ∙ number_more 0 (48 + v % 2) (bits_from (suc m) (v / 2)) ∙ ap (λ n. 2 * n + (48 + v % 2 - 48)) ih ∙ omega arith
]

pub binary_same : (v u : ℕ) → binary v ≡ binary u → v ≡ u
unfolding binary
binary_same v u e = sym (number_of v v (omega arith)) ∙ ap (number 0) e ∙ number_of u u (omega arith)

-- ---- values

one_text : (bits v : ℕ) → bits ≡ 1 → value_text bits v ≡ (48 + v) ∷ []
one_text bits v e = cond_yes (nat_eq bits 1) ((48 + v) ∷ []) (98 ∷ (binary v ++ 32 ∷ [])) (eq-eqb bits 1 e)

wide_behind : (v : ℕ) (y : Bytes) → (98 ∷ (binary v ++ 32 ∷ [])) ++ y ≡ 98 ∷ (binary v ++ 32 ∷ y)
wide_behind v y = ap (λ (l : Bytes). 98 ∷ l) (append_assoc (binary v) (32 ∷ []) y)

abbrev ApartText : Bytes → Bytes → Bytes → Bytes → Type 0
ApartText a b y z = Apart (a ++ y) (b ++ z) (length b)

-- another value goes along no further than a value
pub value_apart : (bits v u : ℕ) (y z : Bytes) → v ≢ u → Apart (value_text bits u ++ y) (value_text bits v ++ z) (length (value_text bits v))
value_apart bits v u y z ne = elim (eqb_tells bits 1) [
  | inl t ↦
      let none : common ((48 + u) ∷ y) ((48 + v) ∷ z) ≡ 0 = common_other (48 + u) (48 + v) y z (λ e. ne (omega (arith, e))) in
      let short : ApartText ((48 + u) ∷ []) ((48 + v) ∷ []) y z = record { most = omega (arith, none); none = omega (arith, none) } in
      subst (λ (l : Bytes). ApartText l (value_text bits v) y z) (sym (one_text bits u t.1)) (subst (λ (l : Bytes). ApartText ((48 + u) ∷ []) l y z) (sym (one_text bits v t.1)) short)
  | inr f ↦
      let a : Bytes = binary u ++ 32 ∷ y in
      let b : Bytes = binary v ++ 32 ∷ z in
      let far : (common (binary u ++ 32 ∷ y) (binary v ++ 32 ∷ z) ≤ length (binary v)) × (common (binary u ++ 32 ∷ y) (binary v ++ 32 ∷ z) ≤ length (binary u)) = ended_apart 32 (binary u) (binary v) y z (binary_free 32 u (omega arith)) (binary_free 32 v (omega arith)) (λ e. ne (sym (binary_same u v e))) in
      let same : common (98 ∷ (binary u ++ 32 ∷ y)) (98 ∷ (binary v ++ 32 ∷ z)) ≡ suc (common (binary u ++ 32 ∷ y) (binary v ++ 32 ∷ z)) = common_same 98 (binary u ++ 32 ∷ y) (binary v ++ 32 ∷ z) in
      let plain : common ((98 ∷ (binary u ++ 32 ∷ [])) ++ y) ((98 ∷ (binary v ++ 32 ∷ [])) ++ z) ≡ suc (common (binary u ++ 32 ∷ y) (binary v ++ 32 ∷ z)) = ap (λ (l : Bytes). common l ((98 ∷ (binary v ++ 32 ∷ [])) ++ z)) (wide_behind u y) ∙ ap (λ (l : Bytes). common (98 ∷ (binary u ++ 32 ∷ y)) l) (wide_behind v z) ∙ same in
      let wide : ApartText (98 ∷ (binary u ++ 32 ∷ [])) (98 ∷ (binary v ++ 32 ∷ [])) y z = record {
        most = omega (arith, plain, far.0, length-append (binary v) (32 ∷ []));
        none = omega (arith, plain, far.1, length-append (binary u ++ 32 ∷ []) y, length-append (binary u) (32 ∷ []));
      } in
      subst (λ (l : Bytes). ApartText l (value_text bits v) y z) (sym (wide_text bits u f.1)) (subst (λ (l : Bytes). ApartText (98 ∷ (binary u ++ 32 ∷ [])) l y z) (sym (wide_text bits v f.1)) wide)
]

-- ---- lines

abbrev pub IsChange : ℕ → ℕ → Option ℕ → Bytes → Type 0
IsChange k bits before w = (v : ℕ) × IsNewValue bits before v × (w ≡ change_line k bits v)

pub line_first : (k bits : ℕ) (before : Option ℕ) (z : Bytes) (left : ℕ) → StopsBefore (λ w. (v : ℕ) × IsNewValue bits before v × (w ≡ value_text bits v)) z left → StopsBefore (IsChange k bits before) z left
line_first k bits before z left s = before_first (λ w. (v : ℕ) × IsNewValue bits before v × (w ≡ value_text bits v)) (IsChange k bits before) z left
    (λ w is. (identifier k ++ 10 ∷ [], (is.0, is.1, ap (λ (l : Bytes). l ++ (identifier k ++ 10 ∷ [])) is.2)))
    (λ w is. (value_text bits is.0, identifier k ++ 10 ∷ [], (is.0, is.1, refl), is.2)) s

pub line_next : (k bits : ℕ) (before : Option ℕ) (v : ℕ) (z all : Bytes) (left : ℕ) → IsNewValue bits before v → all ≡ value_text bits v ++ z → StopsBefore (λ w. w ≡ identifier k ++ 10 ∷ []) z left → StopsBefore (IsChange k bits before) all left
line_next k bits before v z all left new e s = before_next (IsChange k bits before) (λ w. w ≡ identifier k ++ 10 ∷ []) (value_text bits v) z all left e
    (λ y f. (v, new, ap (λ (l : Bytes). value_text bits v ++ l) f))
    (λ w is. elim (eqb_tells v is.0) [
      | inl t ↦ inl (identifier k ++ 10 ∷ [], is.2 ∙ ap (λ (u : ℕ). value_text bits u ++ (identifier k ++ 10 ∷ [])) (sym t.1), refl)
      | inr f ↦ inr (subst (λ (l : Bytes). Apart l (value_text bits v ++ z) (length (value_text bits v))) (sym is.2) (value_apart bits v is.0 (identifier k ++ 10 ∷ []) z f.1))
    ]) s

-- ---- lines of two nets

value_free : (bits v : ℕ) → Free 10 (value_text bits v)
value_free bits v = elim (eqb_tells bits 1) [
  | inl t ↦ subst (λ (l : Bytes). Free 10 l) (sym (one_text bits v t.1)) (λ same. absurd (omega (arith, same)), tt)
  | inr f ↦ subst (λ (l : Bytes). Free 10 l) (sym (wide_text bits v f.1)) (λ same. absurd (omega (arith, same)), free_append 10 (binary v) (32 ∷ []) (binary_free 10 v (omega arith)) (λ same. absurd (omega (arith, same)), tt))
]

line_body : (k bits v : ℕ) (y : Bytes) → change_line k bits v ++ y ≡ (value_text bits v ++ identifier k) ++ 10 ∷ y
line_body k bits v y = append_assoc (value_text bits v) (identifier k ++ 10 ∷ []) y ∙ ap (λ (l : Bytes). value_text bits v ++ l) (append_assoc (identifier k) (10 ∷ []) y) ∙ sym (append_assoc (value_text bits v) (identifier k) (10 ∷ y))

-- lines of changes that begin a text are lines of one net, and the same text stands behind them
pub lines_one : (j k b c v u : ℕ) (y z : Bytes) → v < 2 ^ b → u < 2 ^ c → change_line j b v ++ y ≡ change_line k c u ++ z → (j ≡ k) × (value_text b v ≡ value_text c u) × (y ≡ z)
lines_one j k b c v u y z p q e =
    let s : (value_text b v ++ identifier j ≡ value_text c u ++ identifier k) × (y ≡ z) = ended_same 10 (value_text b v ++ identifier j) (value_text c u ++ identifier k) y z
    (free_append 10 (value_text b v) (identifier j) (value_free b v) (identifier_free 10 j (omega arith))) (free_append 10 (value_text c u) (identifier k) (value_free c u) (identifier_free 10 k (omega arith)))
    (sym (line_body j b v y) ∙ e ∙ line_body k c u z) in
    let t : (j ≡ k) × (value_text b v ≡ value_text c u) = bodies s.0 in
    (t.0, t.1, s.1)
  where
    one_one : b ≡ 1 → c ≡ 1 → (48 + v) ∷ identifier j ≡ (48 + u) ∷ identifier k → (j ≡ k) × (value_text b v ≡ value_text c u)
    one_one f g h = let d : (48 + v ≡ 48 + u) × (identifier j ≡ identifier k) = heads (48 + v) (48 + u) (identifier j) (identifier k) h in (identifier_one j k d.1, one_text b v f ∙ ap (λ (x : ℕ). x ∷ []) d.0 ∙ sym (one_text c u g))

    bodies : value_text b v ++ identifier j ≡ value_text c u ++ identifier k → (j ≡ k) × (value_text b v ≡ value_text c u)
    bodies h = elim (eqb_tells b 1) [
      | inl t ↦ elim (eqb_tells c 1) [
        | inl s ↦ one_one t.1 s.1 (ap (λ (l : Bytes). l ++ identifier j) (sym (one_text b v t.1)) ∙ h ∙ ap (λ (l : Bytes). l ++ identifier k) (one_text c u s.1))
        | inr s ↦
            let d : (48 + v ≡ 98) × (identifier j ≡ (binary u ++ 32 ∷ []) ++ identifier k) = heads (48 + v) 98 (identifier j) ((binary u ++ 32 ∷ []) ++ identifier k) (ap (λ (l : Bytes). l ++ identifier j) (sym (one_text b v t.1)) ∙ h ∙ ap (λ (l : Bytes). l ++ identifier k) (wide_text c u s.1)) in
            let low : v < 2 ^ 1 = subst (λ (n : ℕ). v < 2 ^ n) t.1 p in
            absurd (omega (arith, d.0, low))
      ]
      | inr t ↦ elim (eqb_tells c 1) [
        | inl s ↦
            let d : (98 ≡ 48 + u) × ((binary v ++ 32 ∷ []) ++ identifier j ≡ identifier k) = heads 98 (48 + u) ((binary v ++ 32 ∷ []) ++ identifier j) (identifier k) (ap (λ (l : Bytes). l ++ identifier j) (sym (wide_text b v t.1)) ∙ h ∙ ap (λ (l : Bytes). l ++ identifier k) (one_text c u s.1)) in
            let low : u < 2 ^ 1 = subst (λ (n : ℕ). u < 2 ^ n) s.1 q in
            absurd (omega (arith, d.0, low))
        | inr s ↦
            let d : (98 ≡ 98) × (binary v ++ 32 ∷ identifier j ≡ binary u ++ 32 ∷ identifier k) = heads 98 98 (binary v ++ 32 ∷ identifier j) (binary u ++ 32 ∷ identifier k) (sym (wide_behind v (identifier j)) ∙ ap (λ (l : Bytes). l ++ identifier j) (sym (wide_text b v t.1)) ∙ h ∙ ap (λ (l : Bytes). l ++ identifier k) (wide_text c u s.1) ∙ wide_behind u (identifier k)) in
            let r : (binary v ≡ binary u) × (identifier j ≡ identifier k) = ended_same 32 (binary v) (binary u) (identifier j) (identifier k) (binary_free 32 v (omega arith)) (binary_free 32 u (omega arith)) d.1 in
            (identifier_one j k r.1, wide_text b v t.1 ∙ ap (λ (l : Bytes). 98 ∷ (l ++ 32 ∷ [])) r.0 ∙ sym (wide_text c u s.1))
      ]
    ]

-- a line of a change doesn't begin with the byte of a cycle's line
pub line_begins : (k bits v : ℕ) (y z : Bytes) → change_line k bits v ++ y ≡ 35 ∷ z → ⊥
line_begins k bits v y z e = elim (eqb_tells bits 1) [
  | inl t ↦ absurd (omega (arith, (heads (48 + v) 35 ((identifier k ++ 10 ∷ []) ++ y) z (ap (λ (l : Bytes). (l ++ (identifier k ++ 10 ∷ [])) ++ y) (sym (one_text bits v t.1)) ∙ e)).0))
  | inr f ↦ absurd (omega (arith, (heads 98 35 (((binary v ++ 32 ∷ []) ++ (identifier k ++ 10 ∷ [])) ++ y) z (ap (λ (l : Bytes). (l ++ (identifier k ++ 10 ∷ [])) ++ y) (sym (wide_text bits v f.1)) ∙ e)).0))
]

-- the text of a value tells it
pub value_same : (bits v u : ℕ) → value_text bits v ≡ value_text bits u → v ≡ u
value_same bits v u e = elim (eqb_tells bits 1) [
  | inl t ↦ let d : (48 + v ≡ 48 + u) × ([] ≡ []) = heads (48 + v) (48 + u) [] [] (sym (one_text bits v t.1) ∙ e ∙ one_text bits u t.1) in omega (arith, d.0)
  | inr f ↦
      let d : (98 ≡ 98) × (binary v ++ 32 ∷ [] ≡ binary u ++ 32 ∷ []) = heads 98 98 (binary v ++ 32 ∷ []) (binary u ++ 32 ∷ []) (sym (wide_text bits v f.1) ∙ e ∙ wide_text bits u f.1) in
      binary_same v u (ended_same 32 (binary v) (binary u) [] [] (binary_free 32 v (omega arith)) (binary_free 32 u (omega arith)) d.1).0
]
