-- Where words stop that are made of parts.
use Rattle.std.proofs.Common.{◌≡◌, ◌≢◌, ◌⊎◌, ℕ, ◌+◌, ◌<◌, ◌≤◌, [], ◌∷◌, ◌++◌, length, inl, inr, refl, sym, ap, subst, ◌∙◌, arith}
use Rattle.std.proofs.lemmas.List.{length-append}
use Rattle.tapa_base.specs.Gaps.{Bytes}
use Rattle.vcd_text.specs.Along.{common, Stops, StopsBefore}
use Rattle.vcd_text.proofs.Common.{common_next, common_behind, common_front}

pub common_longer : (w y z : Bytes) → common w z ≤ common (w ++ y) z
common_longer [] y z = omega arith
common_longer (a ∷ w) y [] = omega arith
common_longer (a ∷ w) y (b ∷ z) = elim (common_next a b w z) [
  | inl t ↦ elim (common_next a b (w ++ y) z) [ inl u ↦ omega (arith, t.1, u.1, common_longer w y z) | inr u ↦ absurd (u.0 t.0) ]
  | inr f ↦ omega (arith, f.1)
]

-- the first part stops
pub seq_first : (F W : Bytes → Type 0) (z : Bytes) (n : ℕ) → ((w : Bytes) → F w → (y : Bytes) × W (w ++ y)) → ((w : Bytes) → W w → (x : Bytes) × (y : Bytes) × F x × (w ≡ x ++ y)) → Stops F z n → Stops W z n
seq_first F W z n into out s =
    let longer : (y : Bytes) × W (s.word ++ y) = into s.word s.is_word in
    record {
      word = s.word ++ longer.0;
      is_word = longer.1;
      along = omega (arith, s.along, common_longer s.word longer.0 z);
      most = λ w h. let p : (x : Bytes) × (y : Bytes) × F x × (w ≡ x ++ y) = out w h in
          subst (λ (l : Bytes). common l z ≤ n) (sym p.3) (omega (arith, common_front p.0 p.1 z (s.none p.0 p.2), s.most p.0 p.2));
      none = λ w h. let p : (x : Bytes) × (y : Bytes) × F x × (w ≡ x ++ y) = out w h in
          subst (λ (l : Bytes). common l z < length l) (sym p.3) (omega (arith, common_front p.0 p.1 z (s.none p.0 p.2), s.none p.0 p.2, length-append p.0 p.1));
    }

-- a word that goes along no further than these bytes
pub record Apart (w z : Bytes) (n : ℕ) : Type 0 where
  pub most : common w z ≤ n
  pub none : common w z < length w

-- the first part is a word, and what comes behind it stops
pub seq_next : (W V : Bytes → Type 0) (x z : Bytes) (n : ℕ) → ((y : Bytes) → V y → W (x ++ y)) → ((w : Bytes) → W w → ((y : Bytes) × (w ≡ x ++ y) × V y) ⊎ Apart w (x ++ z) (length x))
    → Stops V z n → Stops W (x ++ z) (length x + n)
seq_next W V x z n into out s = record {
  word = x ++ s.word;
  is_word = into s.word s.is_word;
  along = omega (arith, s.along, common_behind x s.word z);
  most = λ w h. elim (out w h) [
    | inl (y, e, v) ↦ subst (λ (l : Bytes). common l (x ++ z) ≤ length x + n) (sym e) (omega (arith, common_behind x y z, s.most y v))
    | inr f ↦ omega (arith, f.most)
  ];
  none = λ w h. elim (out w h) [
    | inl (y, e, v) ↦ subst (λ (l : Bytes). common l (x ++ z) < length l) (sym e) (omega (arith, common_behind x y z, s.none y v, length-append x y))
    | inr f ↦ f.none
  ];
}

pub before_first : (F W : Bytes → Type 0) (z : Bytes) (left : ℕ) → ((w : Bytes) → F w → (y : Bytes) × W (w ++ y)) → ((w : Bytes) → W w → (x : Bytes) × (y : Bytes) × F x × (w ≡ x ++ y)) → StopsBefore F z left → StopsBefore W z left
before_first F W z left into out (n, is, s) = (n, is, seq_first F W z n into out s)

pub before_next : (W V : Bytes → Type 0) (x z all : Bytes) (left : ℕ) → all ≡ x ++ z → ((y : Bytes) → V y → W (x ++ y)) → ((w : Bytes) → W w → ((y : Bytes) × (w ≡ x ++ y) × V y) ⊎ Apart w (x ++ z) (length x))
    → StopsBefore V z left → StopsBefore W all left
before_next W V x z all left e into out (n, is, s) =
    (length x + n, omega (arith, is, length-append x z, ap (λ (l : Bytes). length l) e), subst (λ (l : Bytes). Stops W l (length x + n)) (sym e) (seq_next W V x z n into out s))

-- ---- a text of two parts

pub two_first : (a b z : Bytes) (left : ℕ) → StopsBefore (λ w. w ≡ a) z left → StopsBefore (λ w. w ≡ a ++ b) z left
two_first a b z left s = before_first (λ w. w ≡ a) (λ w. w ≡ a ++ b) z left (λ w e. (b, ap (λ (l : Bytes). l ++ b) e)) (λ w e. (a, b, refl, e)) s

pub two_next : (a b z all : Bytes) (left : ℕ) → all ≡ a ++ z → StopsBefore (λ w. w ≡ b) z left → StopsBefore (λ w. w ≡ a ++ b) all left
two_next a b z all left e s = before_next (λ w. w ≡ a ++ b) (λ w. w ≡ b) a z all left e (λ y f. ap (λ (l : Bytes). a ++ l) f) (λ w f. inl (b, f, refl)) s

-- ---- words that end with a byte that they don't have

abbrev pub Free : ℕ → Bytes → Type 0
Free e [] = Unit {0}
Free e (b ∷ w) = (b ≢ e) × Free e w

pub free_append : (e : ℕ) (a b : Bytes) → Free e a → Free e b → Free e (a ++ b)
free_append e [] b p q = q
free_append e (x ∷ a) b p q = (p.0, free_append e a b p.1 q)

pub ended_apart : (e : ℕ) (a b y z : Bytes) → Free e a → Free e b → a ≢ b → (common (a ++ e ∷ y) (b ++ e ∷ z) ≤ length b) × (common (a ++ e ∷ y) (b ++ e ∷ z) ≤ length a)
ended_apart e [] [] y z p q ne = absurd (ne refl)
ended_apart e [] (c ∷ b) y z p q ne = elim (common_next e c y (b ++ e ∷ z)) [ inl t ↦ absurd (q.0 (sym t.0)) | inr f ↦ (omega (arith, f.1), omega (arith, f.1)) ]
ended_apart e (c ∷ a) [] y z p q ne = elim (common_next c e (a ++ e ∷ y) z) [ inl t ↦ absurd (p.0 t.0) | inr f ↦ (omega (arith, f.1), omega (arith, f.1)) ]
ended_apart e (c ∷ a) (d ∷ b) y z p q ne = elim (common_next c d (a ++ e ∷ y) (b ++ e ∷ z)) [
  | inl t ↦ let ih : (common (a ++ e ∷ y) (b ++ e ∷ z) ≤ length b) × (common (a ++ e ∷ y) (b ++ e ∷ z) ≤ length a) = ended_apart e a b y z p.1 q.1 (λ same. ne (ap (λ x. x ∷ a) t.0 ∙ ap (λ (l : Bytes). d ∷ l) same)) in (omega (arith, t.1, ih.0), omega (arith, t.1, ih.1))
  | inr f ↦ (omega (arith, f.1), omega (arith, f.1))
]

pub head_tail : (c d : ℕ) (a b : Bytes) → c ∷ a ≡ d ∷ b → (c ≡ d) × (a ≡ b)
head_tail c d a b e = (cc, cc)

pub ended_same : (e : ℕ) (a b y z : Bytes) → Free e a → Free e b → a ++ e ∷ y ≡ b ++ e ∷ z → (a ≡ b) × (y ≡ z)
ended_same e [] [] y z p q h = (refl, (head_tail e e y z h).1)
ended_same e [] (c ∷ b) y z p q h = absurd (q.0 (sym (head_tail e c y (b ++ e ∷ z) h).0))
ended_same e (c ∷ a) [] y z p q h = absurd (p.0 (head_tail c e (a ++ e ∷ y) z h).0)
ended_same e (c ∷ a) (d ∷ b) y z p q h =
    let t : (c ≡ d) × (a ++ e ∷ y ≡ b ++ e ∷ z) = head_tail c d (a ++ e ∷ y) (b ++ e ∷ z) h in
    let ih : (a ≡ b) × (y ≡ z) = ended_same e a b y z p.1 q.1 t.1 in
    (ap (λ x. x ∷ a) t.0 ∙ ap (λ (l : Bytes). d ∷ l) ih.0, ih.1)
