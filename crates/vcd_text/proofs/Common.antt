-- How far a text goes along with words that are put together.
use Rattle.std.proofs.Common.{◌≡◌, ◌≢◌, ◌⊎◌, ℕ, zero, suc, ◌+◌, ◌<◌, ◌≤◌, Bool, true, false, cond, [], ◌∷◌, ◌++◌, length, take, drop, inl, inr, refl, sym, ap, subst, ◌∙◌, arith, nat_eq, nat_lt}
use Rattle.std.proofs.lemmas.Bool.Decides.{eqb_tells, leb_tells}
use Rattle.std.specs.Prelude.{Result, Ok, Err, IfErr}
use Rattle.std.specs.Result.{IsErrAnd}
use Rattle.std.proofs.lemmas.List.{drop_all}
use Rattle.tapa_base.specs.Gaps.{Bytes}
use Rattle.vcd_text.specs.Along.{common, Stops, StopsBefore}

pub cond_yes : {A : Type 0} (t : Bool) (a b : A) → t ≡ true → cond t a b ≡ a
cond_yes t a b e = rw e refl

pub cond_no : {A : Type 0} (t : Bool) (a b : A) → t ≡ false → cond t a b ≡ b
cond_no t a b e = rw e refl

-- one byte more on both sides, or another byte
pub common_next : (a b : ℕ) (w z : Bytes) → ((a ≡ b) × (common (a ∷ w) (b ∷ z) ≡ suc (common w z))) ⊎ ((a ≢ b) × (common (a ∷ w) (b ∷ z) ≡ 0))
common_next a b w z = elim (eqb_tells a b) [
  | inl t ↦ inl (t.1, cond_yes (nat_eq a b) (suc (common w z)) 0 t.0)
  | inr f ↦ inr (f.1, cond_no (nat_eq a b) (suc (common w z)) 0 f.0)
]

pub common_same : (a : ℕ) (w z : Bytes) → common (a ∷ w) (a ∷ z) ≡ suc (common w z)
common_same a w z = elim (common_next a a w z) [ inl t ↦ t.1 | inr f ↦ absurd (f.0 refl) ]

pub common_other : (a b : ℕ) (w z : Bytes) → a ≢ b → common (a ∷ w) (b ∷ z) ≡ 0
common_other a b w z ne = elim (common_next a b w z) [ inl t ↦ absurd (ne t.0) | inr f ↦ f.1 ]

pub common_within : (w z : Bytes) → common w z ≤ length w
common_within [] z = omega arith
common_within (a ∷ w) [] = omega arith
common_within (a ∷ w) (b ∷ z) = elim (common_next a b w z) [ inl t ↦ omega (arith, t.1, common_within w z) | inr f ↦ omega (arith, f.1) ]

pub common_below : (w z : Bytes) → common w z ≤ length z
common_below [] z = omega arith
common_below (a ∷ w) [] = omega arith
common_below (a ∷ w) (b ∷ z) = elim (common_next a b w z) [ inl t ↦ omega (arith, t.1, common_below w z) | inr f ↦ omega (arith, f.1) ]

-- a word that stands whole at the front
pub common_whole : (w z : Bytes) → common w z ≡ length w → z ≡ w ++ drop (length w) z
common_whole [] z h = refl
common_whole (a ∷ w) [] h = absurd (omega (arith, h))
common_whole (a ∷ w) (b ∷ z) h = elim (common_next a b w z) [
  | inl t ↦ ap (λ x. x ∷ z) (sym t.0) ∙ ap (λ l. a ∷ l) (common_whole w z (omega (arith, t.1, h)))
  | inr f ↦ absurd (omega (arith, f.1, h))
]

-- behind a word that stands at the front of both
pub common_behind : (w y z : Bytes) → common (w ++ y) (w ++ z) ≡ length w + common y z
common_behind [] y z = omega arith
common_behind (a ∷ w) y z = common_same a (w ++ y) (w ++ z) ∙ omega (arith, common_behind w y z)

-- a word that doesn't stand whole at the front
pub common_front : (w y z : Bytes) → common w z < length w → common (w ++ y) z ≡ common w z
common_front [] y z h = absurd (omega (arith, h))
common_front (a ∷ w) y [] h = refl
common_front (a ∷ w) y (b ∷ z) h = elim (common_next a b w z) [
  | inl t ↦ elim (common_next a b (w ++ y) z) [
    | inl u ↦ u.1 ∙ ap suc (common_front w y z (omega (arith, t.1, h))) ∙ sym t.1
    | inr u ↦ absurd (u.0 t.0)
  ]
  | inr f ↦ common_other a b (w ++ y) z f.0 ∙ sym f.1
]

-- what goes along for n bytes begins with the first n bytes
pub common_take : (n : ℕ) (w z : Bytes) → n ≤ common w z → w ≡ take n z ++ drop n w
common_take zero w z h = refl
common_take (suc n) [] z h = absurd (omega (arith, h))
common_take (suc n) (a ∷ w) [] h = absurd (omega (arith, h))
common_take (suc n) (a ∷ w) (b ∷ z) h = elim (common_next a b w z) [
  | inl t ↦ ap (λ x. x ∷ w) t.0 ∙ ap (λ l. b ∷ l) (common_take n w z (omega (arith, t.1, h)))
  | inr f ↦ absurd (omega (arith, f.1, h))
]

-- ---- where texts stop

-- a word of one kind alone
pub stops_one : (w z : Bytes) → common w z < length w → Stops (λ y. y ≡ w) z (common w z)
stops_one w z h = record {
  word = w;
  is_word = refl;
  along = omega arith;
  most = λ y e. subst (λ l. common l z ≤ common w z) (sym e) (omega arith);
  none = λ y e. subst (λ l. common l z < length l) (sym e) h;
}

-- words of which no first byte is that of the text
pub stops_here : (W : Bytes → Type 0) (z w : Bytes) → W w → ((y : Bytes) → W y → (common y z ≡ 0) × (0 < length y)) → Stops W z 0
stops_here W z w is other = record {
  word = w;
  is_word = is;
  along = omega arith;
  most = λ y h. omega (arith, (other y h).0);
  none = λ y h. omega (arith, (other y h).0, (other y h).1);
}

-- one byte more
pub stops_next : (W V : Bytes → Type 0) (b : ℕ) (z : Bytes) (n : ℕ) → ((w : Bytes) → V w → W (b ∷ w)) → ((w : Bytes) → W w → ((y : Bytes) × (w ≡ b ∷ y) × V y) ⊎ ((common w (b ∷ z) ≡ 0) × (0 < length w)))
    → Stops V z n → Stops W (b ∷ z) (suc n)
stops_next W V b z n into out s = record {
  word = b ∷ s.word;
  is_word = into s.word s.is_word;
  along = omega (arith, s.along, common_same b s.word z);
  most = λ w h. elim (out w h) [
    | inl (y, e, v) ↦ subst (λ l. common l (b ∷ z) ≤ suc n) (sym e) (omega (arith, common_same b y z, s.most y v))
    | inr f ↦ omega (arith, f.0)
  ];
  none = λ w h. elim (out w h) [
    | inl (y, e, v) ↦ subst (λ l. common l (b ∷ z) < length l) (sym e) (omega (arith, common_same b y z, s.none y v))
    | inr f ↦ omega (arith, f.0, f.1)
  ];
}

common_none : (w : Bytes) → common w [] ≡ 0
common_none [] = refl
common_none (a ∷ w) = refl

-- a text that ends
pub short_text : (w z : Bytes) (at n : ℕ) → length z ≤ at → at + common (drop at w) (drop at z) ≡ n → at ≡ n
short_text w z at n h e =
    let none : common (drop at w) (drop at z) ≡ 0 = ap (λ l. common (drop at w) l) (drop_all at z h) ∙ common_none (drop at w) in
    omega (arith, e, none)

-- ---- tests

pub less : (a b : ℕ) → ((nat_lt a b ≡ true) × (a < b)) ⊎ ((nat_lt a b ≡ false) × (b ≤ a))
less a b = elim (leb_tells (suc a) b) [ inl t ↦ inl (t.0, omega (arith, t.1)) | inr f ↦ inr (f.0, omega (arith, f.1)) ]

-- ---- answers

pub then_err : {A E : Type 0} (P Q : E → Type 0) (r : Result A E) → ((e : E) → P e → Q e) → IfErr r P → IfErr r Q
then_err P Q (Ok x) f h = tt
then_err P Q (Err e) f h = f e h

-- one byte more
pub before_byte : (W V : Bytes → Type 0) (b : ℕ) (z text : Bytes) (left : ℕ) → text ≡ b ∷ z → ((n : ℕ) → Stops V z n → Stops W (b ∷ z) (suc n)) → StopsBefore V z left → StopsBefore W text left
before_byte W V b z text left e next (n, is, s) = (suc n, omega (arith, is, ap (λ (l : Bytes). length l) e), subst (λ (l : Bytes). Stops W l (suc n)) (sym e) (next n s))

-- no text at all
pub stops_empty : (W : Bytes → Type 0) (w : Bytes) → W w → ((y : Bytes) → W y → 0 < length y) → Stops W [] 0
stops_empty W w is some = stops_here W [] w is (λ y h. (common_none y, some y h))

-- the same words
pub stops_like : (W V : Bytes → Type 0) (z : Bytes) (n : ℕ) → ((w : Bytes) → W w → V w) → ((w : Bytes) → V w → W w) → Stops W z n → Stops V z n
stops_like W V z n to from s = record {
  word = s.word;
  is_word = to s.word s.is_word;
  along = s.along;
  most = λ w h. s.most w (from w h);
  none = λ w h. s.none w (from w h);
}

pub not_both : (t : Bool) → t ≡ true → t ≡ false → ⊥
not_both t e f = cc

-- the exit of a `?`
pub exit_err : {A E : Type 0} (Q : E → Type 0) (r : Result A E) (d : E) → IsErrAnd r (λ e. e ≡ d) → Q d → IfErr r Q
exit_err Q (Ok x) d is h = absurd is
exit_err Q (Err e) d is h = subst Q (sym is) h

pub common_swap : (w z : Bytes) → common w z ≡ common z w
common_swap [] [] = refl
common_swap [] (b ∷ z) = refl
common_swap (a ∷ w) [] = refl
common_swap (a ∷ w) (b ∷ z) = elim (common_next a b w z) [
  | inl t ↦ elim (common_next b a z w) [ inl u ↦ t.1 ∙ ap suc (common_swap w z) ∙ sym u.1 | inr u ↦ absurd (u.0 (sym t.0)) ]
  | inr t ↦ elim (common_next b a z w) [ inl u ↦ absurd (t.0 (sym u.0)) | inr u ↦ t.1 ∙ sym u.1 ]
]

pub common_all : (w x : Bytes) → common w (w ++ x) ≡ length w
common_all [] x = refl
common_all (a ∷ w) x = common_same a w (w ++ x) ∙ ap suc (common_all w x)
