-- Signs: the longest is cut.
use Rattle.std.proofs.Common.{◌≡◌, ◌⊎◌, ⊎_elim, ℕ, Bool, true, false, ◌&&◌, ◌||◌, List, [], ◌∷◌, bytes_eq, get_or, refl, sym, ap, subst, ◌∙◌, nat_eq, eqb-true}
use Rattle.std.specs.List.{list_all, list_any}
use Rattle.std.proofs.lemmas.Bool.{and_parts, or_cases, false≢true}
use Rattle.std.proofs.lemmas.Slice.Eq.{bytes_eq-Decides}
use Rattle.tapa_syntax.specs.Characters.{is_among}
use Rattle.vlog_tree.specs.Spelling.{Word}
use Rattle.tapa_base.specs.Gaps.{Bytes, begins}
use Rattle.vlog_lex.specs.Lexemes.{signs, is_sign, is_sign_or_mark, IsSignWord}
use Rattle.vlog_lex.specs.Reading.{is_single, is_pair, singles, doubled, before_equals}
use Rattle.vlog_lex.proofs.Cuts.{among as one_of_words}

-- what holds of each of a few bytes holds of one of them
one_of : (P : ℕ → Bool) (set : List ℕ) (b : ℕ) → list_all P set ≡ true → is_among set b ≡ true → P b ≡ true
one_of P [] b all h = absurd cc
one_of P (c ∷ set) b all h = ⊎_elim (λ (e : nat_eq c b ≡ true). subst (λ (x : ℕ). P x ≡ true) (eqb-true c b e) (and_parts (P c) (list_all P set) all).0) (λ (m : is_among set b ≡ true). one_of P set b (and_parts (P c) (list_all P set) all).1 m) (or_cases (nat_eq c b) (is_among set b) h)

-- of one byte or of two
is_shaped : Word → Bool
is_shaped [] = false
is_shaped (b ∷ []) = is_single b
is_shaped (b ∷ c ∷ []) = is_pair b c
is_shaped (b ∷ c ∷ d ∷ z) = false

shaped : (w : Word) → is_sign w ≡ true → is_shaped w ≡ true
unfolding is_sign signs is_shaped
shaped w h = one_of_words is_shaped w signs refl h

pub single_sign : (b : ℕ) → is_single b ≡ true → is_sign (b ∷ []) ≡ true
unfolding is_sign signs
single_sign b h = one_of (λ x. is_sign (x ∷ [])) singles b refl h

pub pair_sign : (b c : ℕ) → is_pair b c ≡ true → is_sign (b ∷ c ∷ []) ≡ true
unfolding is_sign signs
pair_sign b c h =
    ⊎_elim
    (λ (e : (nat_eq b c && is_among doubled b) ≡ true).
    let k = and_parts (nat_eq b c) (is_among doubled b) e in
    subst (λ (x : ℕ). is_sign (b ∷ x ∷ []) ≡ true) (eqb-true b c k.0) (one_of (λ x. is_sign (x ∷ x ∷ [])) doubled b refl k.1))
    (λ (e : (nat_eq c 61 && is_among before_equals b) ≡ true).
    let k = and_parts (nat_eq c 61) (is_among before_equals b) e in
    subst (λ (x : ℕ). is_sign (b ∷ x ∷ []) ≡ true) (sym (eqb-true c 61 k.0)) (one_of (λ x. is_sign (x ∷ 61 ∷ [])) before_equals b refl k.1))
    (or_cases (nat_eq b c && is_among doubled b) (nat_eq c 61 && is_among before_equals b) h)

pub sign_single : (b : ℕ) → is_sign (b ∷ []) ≡ true → is_single b ≡ true
unfolding is_shaped
sign_single b h = shaped (b ∷ []) h

pub sign_pair : (b c : ℕ) → is_sign (b ∷ c ∷ []) ≡ true → is_pair b c ≡ true
unfolding is_shaped
sign_pair b c h = shaped (b ∷ c ∷ []) h

pub no_sign : (w : Word) → (is_sign w ≡ true → ⊥) → is_sign w ≡ false
no_sign w h = pick (is_sign w) refl
  where
    pick : (t : Bool) → is_sign w ≡ t → t ≡ false
    pick true e = absurd (h e)
    pick false e = refl

pub sign_none : is_sign [] ≡ true → ⊥
unfolding is_shaped
sign_none h = false≢true (shaped [] h)

pub sign_three : (b c d : ℕ) (z : Bytes) → is_sign (b ∷ c ∷ d ∷ z) ≡ true → ⊥
unfolding is_shaped
sign_three b c d z h = false≢true (shaped (b ∷ c ∷ d ∷ z) h)

-- ---- a sign that stands

and_false : (t : Bool) → (t && false) ≡ false
and_false true = refl
and_false false = refl

long_no : (b c d p q : ℕ) → bytes_eq (b ∷ c ∷ d ∷ []) (p ∷ q ∷ []) ≡ false
long_no b c d p q = two (nat_eq b p) (nat_eq c q)
  where
    two : (s t : Bool) → (s && (t && false)) ≡ false
    two true t = and_false t
    two false t = refl

pair_eq : (b c p q : ℕ) → (nat_eq b p && nat_eq c q) ≡ false → bytes_eq (b ∷ c ∷ []) (p ∷ q ∷ []) ≡ false
pair_eq b c p q h = last (nat_eq b p) (nat_eq c q) h
  where
    last : (s t : Bool) → (s && t) ≡ false → (s && (t && true)) ≡ false
    last true true e = e
    last true false e = refl
    last false t e = refl

or_none : (s t u : Bool) → s ≡ false → t ≡ false → u ≡ false → (s || t || u) ≡ false
or_none s t u p q r = rw (p, q, r) refl

pub pair_stands : (b c : ℕ) (rest : Bytes) → is_pair b c ≡ true → IsSignWord (b ∷ c ∷ []) rest
unfolding is_sign_or_mark
pair_stands b c rest h = record { sign = pair_sign b c h; longest = longest rest }
  where
    longest : (rest : Bytes) → begins (λ d. is_sign_or_mark (b ∷ c ∷ d ∷ [])) rest ≡ false
    longest [] = refl
    longest (d ∷ z) = or_none _ _ _ (no_sign (b ∷ c ∷ d ∷ []) (sign_three b c d [])) (long_no b c d 47 47) (long_no b c d 47 42)

pub single_stands : (b : ℕ) (rest : Bytes) → is_single b ≡ true → is_pair b (get_or rest 0 0) ≡ false → (nat_eq b 47 && nat_eq (get_or rest 0 0) 47) ≡ false → (nat_eq b 47 && nat_eq (get_or rest 0 0) 42) ≡ false → IsSignWord (b ∷ []) rest
unfolding is_sign_or_mark
single_stands b rest h alone no_line no_block = record { sign = single_sign b h; longest = longest rest alone no_line no_block }
  where
    longest : (rest : Bytes) → is_pair b (get_or rest 0 0) ≡ false → (nat_eq b 47 && nat_eq (get_or rest 0 0) 47) ≡ false → (nat_eq b 47 && nat_eq (get_or rest 0 0) 42) ≡ false → begins (λ c. is_sign_or_mark (b ∷ c ∷ [])) rest ≡ false
    longest [] p q r = refl
    longest (c ∷ z) p q r = or_none _ _ _ (no_sign (b ∷ c ∷ []) (λ k. false≢true (sym p ∙ sign_pair b c k))) (pair_eq b c 47 47 q) (pair_eq b c 47 42 r)
