-- Names at the front of a text.
use Rattle.std.proofs.Common.{◌≡◌, ◌⊎◌, ℕ, zero, suc, ◌+◌, ◌<◌, ◌≤◌, Bool, true, false, cond, List, [], ◌∷◌, ◌++◌, length, take, drop, inl, inr, refl, sym, ap, subst, ◌∙◌, append_assoc, arith, add-one, nat_le}
use Rattle.std.specs.Prelude.{Some, slice_get, bytes_eq}
use Rattle.std.specs.List.{list_all}
use Rattle.std.proofs.lemmas.List.{length-append, length-drop, take-append-drop, length-take-le}
use Rattle.std.proofs.lemmas.Slice.Eq.{bytes_eq-Decides}
use Rattle.tapa_base.specs.declared.shape.Port.{Port}
use Rattle.tapa_base.specs.Gaps.{Bytes}
use Rattle.tapa_syntax.specs.Characters.{run}
use Rattle.vlog_tree.specs.Names.{IsName, has_name_form, starts_name, goes_on, is_keyword, is_among, always_to_default, defparam_to_event, for_to_input, instance_to_not, notif0_to_real, realtime_to_strong0, strong1_to_unsigned, use_to_xor}
use Rattle.vcd_text.specs.Along.{common, Stops, StopsBefore}
use Rattle.vcd_text.specs.Head.{name_run, MayName, IsNameWord}
use Rattle.vcd_text.proofs.Common.{common_next, common_other, common_behind, cond_yes, cond_no, not_both}
use Rattle.tapa_base.proofs.Tests.{bool_cases as yes_or_no, both_true as both, below}
use Rattle.tapa_base.proofs.Got.{the_same}
use Rattle.tapa_syntax.proofs.Runs.{run_passes, run_within}
use Rattle.std.proofs.lemmas.List.Folds.{list_all-append}
use Rattle.std.proofs.lemmas.Bool.{and_from as joined}

-- ---- bytes of names

pub started : (b : ℕ) → starts_name b ≡ true → goes_on b ≡ true
unfolding goes_on
started b e = rw e refl

pub blank_ends : goes_on 32 ≡ false
unfolding goes_on starts_name
blank_ends = refl

low_line : starts_name 95 ≡ true
unfolding starts_name
low_line = refl

-- ---- how far names go along

run_more : (b : ℕ) (z : Bytes) → goes_on b ≡ true → run goes_on (b ∷ z) ≡ suc (run goes_on z)
run_more b z e = cond_yes (goes_on b) (run goes_on z + 1) 0 e ∙ add-one (run goes_on z)

run_ends : (b : ℕ) (z : Bytes) → goes_on b ≡ false → run goes_on (b ∷ z) ≡ 0
run_ends b z e = cond_no (goes_on b) (run goes_on z + 1) 0 e

-- these bytes are the whole front of a text, with a blank behind
abbrev IsFront : Bytes → Bytes → ℕ → Type 0
IsFront x z n = (x ≡ take n z) × ((y : Bytes) × (drop n z ≡ 32 ∷ y))

-- they go along no further
abbrev IsShort : Bytes → Bytes → ℕ → Type 0
IsShort x z n = (common (x ++ 32 ∷ []) z ≤ n) × (common (x ++ 32 ∷ []) z < length x + 1)

at_run : (P : ℕ → Type 0) (m n : ℕ) → m ≡ n → P n → P m
at_run P m n e h = subst P (sym e) h

tail_short : (x z : Bytes) → list_all goes_on x ≡ true → IsFront x z (run goes_on z) ⊎ IsShort x z (run goes_on z)
tail_short [] [] h = inr (omega arith, omega arith)
tail_short [] (b ∷ z) h = elim (yes_or_no (goes_on b)) [
  | inl t ↦ inr (omega (arith, common_other 32 b [] z (λ e. not_both (goes_on 32) (subst (λ (c : ℕ). goes_on c ≡ true) (sym e) t) blank_ends)), omega (arith, common_other 32 b [] z (λ e. not_both (goes_on 32) (subst (λ (c : ℕ). goes_on c ≡ true) (sym e) t) blank_ends)))
  | inr f ↦ elim (common_next 32 b [] z) [
    | inl s ↦ inl (at_run (λ (n : ℕ). IsFront [] (b ∷ z) n) (run goes_on (b ∷ z)) 0 (run_ends b z f) (refl, (z, ap (λ (c : ℕ). c ∷ z) (sym s.0))))
    | inr s ↦ inr (omega (arith, s.1), omega (arith, s.1))
  ]
]
tail_short (c ∷ x) [] h = inr (omega arith, omega arith)
tail_short (c ∷ x) (b ∷ z) h = elim (common_next c b (x ++ 32 ∷ []) z) [
  | inr s ↦ inr (omega (arith, s.1), omega (arith, s.1))
  | inl s ↦
      let on : goes_on b ≡ true = subst (λ (d : ℕ). goes_on d ≡ true) s.0 (both (goes_on c) (list_all goes_on x) h).0 in
      elim (tail_short x z (both (goes_on c) (list_all goes_on x) h).1) [
        | inl f ↦ inl (at_run (λ (n : ℕ). IsFront (c ∷ x) (b ∷ z) n) (run goes_on (b ∷ z)) (suc (run goes_on z)) (run_more b z on) (ap (λ (d : ℕ). d ∷ x) s.0 ∙ ap (λ (l : Bytes). b ∷ l) f.0, f.1))
        | inr f ↦ inr (omega (arith, s.1, run_more b z on, f.0), omega (arith, s.1, f.1))
      ]
]

pub name_parts : (c : ℕ) (x : Bytes) → IsName (c ∷ x) → (starts_name c ≡ true) × (list_all goes_on x ≡ true)
name_parts c x h = both (starts_name c) (list_all goes_on x) (both (has_name_form (c ∷ x)) (cond (is_keyword (c ∷ x)) false true) h).0

pub no_name : IsName [] → ⊥
no_name h = not_both false (both false (cond (is_keyword []) false true) h).0 refl

name_short : (x z : Bytes) → IsName x → IsFront x z (name_run z) ⊎ IsShort x z (name_run z)
name_short [] z h = absurd (no_name h)
name_short (c ∷ x) [] h = inr (omega arith, omega arith)
name_short (c ∷ x) (b ∷ z) h = elim (common_next c b (x ++ 32 ∷ []) z) [
  | inr s ↦ inr (omega (arith, s.1), omega (arith, s.1))
  | inl s ↦
      let on : starts_name b ≡ true = subst (λ (d : ℕ). starts_name d ≡ true) s.0 (name_parts c x h).0 in
      let more : name_run (b ∷ z) ≡ suc (run goes_on z) = cond_yes (starts_name b) (run goes_on z + 1) 0 on ∙ add-one (run goes_on z) in
      elim (tail_short x z (name_parts c x h).1) [
        | inl f ↦ inl (at_run (λ (n : ℕ). IsFront (c ∷ x) (b ∷ z) n) (name_run (b ∷ z)) (suc (run goes_on z)) more (ap (λ (d : ℕ). d ∷ x) s.0 ∙ ap (λ (l : Bytes). b ∷ l) f.0, f.1))
        | inr f ↦ inr (omega (arith, s.1, more, f.0), omega (arith, s.1, f.1))
      ]
]

-- ---- a new name

-- low lines behind a name
lines : ℕ → Bytes
lines zero = []
lines (suc n) = 95 ∷ lines n

lines_long : (n : ℕ) → length (lines n) ≡ n
unfolding lines
lines_long zero = refl
lines_long (suc n) = ap suc (lines_long n)

lines_go_on : (n : ℕ) → list_all goes_on (lines n) ≡ true
unfolding lines
lines_go_on zero = refl
lines_go_on (suc n) = joined (goes_on 95) (list_all goes_on (lines n)) (started 95 low_line) (lines_go_on n)

-- a front with low lines behind it has the form of a name
front_form : (z : Bytes) (n : ℕ) → 0 < n → has_name_form (take (name_run z) z ++ lines n) ≡ true
unfolding lines
front_form z zero h = absurd (omega arith)
front_form [] (suc n) h = joined (starts_name 95) (list_all goes_on (lines n)) low_line (lines_go_on n)
front_form (b ∷ z) (suc n) h = elim (yes_or_no (starts_name b)) [
  | inl t ↦ at_run (λ (m : ℕ). has_name_form (take m (b ∷ z) ++ lines (suc n)) ≡ true) (name_run (b ∷ z)) (suc (run goes_on z)) (cond_yes (starts_name b) (run goes_on z + 1) 0 t ∙ add-one (run goes_on z))
      (joined (starts_name b) (list_all goes_on (take (run goes_on z) z ++ lines (suc n))) t (list_all-append goes_on (take (run goes_on z) z) (lines (suc n)) ∙ joined _ _ (run_passes goes_on z) (lines_go_on (suc n))))
  | inr f ↦ at_run (λ (m : ℕ). has_name_form (take m (b ∷ z) ++ lines (suc n)) ≡ true) (name_run (b ∷ z)) 0 (cond_no (starts_name b) (run goes_on z + 1) 0 f)
      (joined (starts_name 95) (list_all goes_on (lines n)) low_line (lines_go_on n))
]

-- a long text is none of short words
other_word : (x w : Bytes) → length w < length x → bytes_eq x w ≡ false
other_word x w h = elim (yes_or_no (bytes_eq x w)) [ inl t ↦ absurd (omega (arith, h, ap (λ (l : Bytes). length l) ((bytes_eq-Decides x w).0 t))) | inr f ↦ f ]

abbrev are_short : List Bytes → Bool
are_short words = list_all (λ w. nat_le (length w) 19) words

not_among : (words : List Bytes) (x : Bytes) → are_short words ≡ true → 19 < length x → is_among words x ≡ false
not_among [] x s h = refl
not_among (w ∷ words) x s h =
    let parts : (nat_le (length w) 19 ≡ true) × (are_short words ≡ true) = both (nat_le (length w) 19) (are_short words) s in
    rw (other_word x w (omega (arith, below (length w) 19 parts.0, h))) (not_among words x parts.1 h)

long_word : (x : Bytes) → 19 < length x → is_keyword x ≡ false
unfolding is_keyword always_to_default defparam_to_event for_to_input instance_to_not notif0_to_real realtime_to_strong0 strong1_to_unsigned use_to_xor
long_word x h =
    rw (not_among always_to_default x refl h, not_among defparam_to_event x refl h, not_among for_to_input x refl h, not_among instance_to_not x refl h, not_among notif0_to_real x refl h, not_among realtime_to_strong0 x refl h, not_among strong1_to_unsigned x refl h, not_among use_to_xor x refl h) refl

-- the lengths of all names together
abbrev lengths : List Port → ℕ
lengths [] = 0
lengths (p ∷ nets) = length p.name + lengths nets

name_within : (nets : List Port) (i : ℕ) (p : Port) → slice_get nets i ≡ Some p → length p.name ≤ lengths nets
name_within [] i p e = cc
name_within (q ∷ nets) zero p e = omega (arith, ap (λ (r : Port). length r.name) (the_same q p e))
name_within (q ∷ nets) (suc i) p e = omega (arith, name_within nets i p e)

-- each front of a name begins a name that no net has
pub new_name : (nets : List Port) (z : Bytes) → (y : Bytes) × MayName nets (take (name_run z) z ++ y)
new_name nets z =
    let n : ℕ = lengths nets + 20 in
    let x : Bytes = take (name_run z) z ++ lines (lengths nets + 20) in
    let long : length (take (name_run z) z ++ lines (lengths nets + 20)) ≡ length (take (name_run z) z) + (lengths nets + 20) = length-append (take (name_run z) z) (lines (lengths nets + 20)) ∙ ap (λ (k : ℕ). length (take (name_run z) z) + k) (lines_long (lengths nets + 20)) in (
      lines (lengths nets + 20),
      (
        joined (has_name_form (take (name_run z) z ++ lines (lengths nets + 20))) (cond (is_keyword (take (name_run z) z ++ lines (lengths nets + 20))) false true) (front_form z (lengths nets + 20) (omega arith)) (cond_no (is_keyword (take (name_run z) z ++ lines (lengths nets + 20))) false true (long_word (take (name_run z) z ++ lines (lengths nets + 20)) (omega (arith, long)))),
        λ i p at e. absurd (omega (arith, long, name_within nets i p at, ap (λ (l : Bytes). length l) e)),
      ),
    )

-- ---- where names stop

name_run_within : (z : Bytes) → name_run z ≤ length z
name_run_within [] = omega arith
name_run_within (b ∷ z) = elim (yes_or_no (starts_name b)) [ inl t ↦ omega (arith, cond_yes (starts_name b) (run goes_on z + 1) 0 t, run_within goes_on z) | inr f ↦ omega (arith, cond_no (starts_name b) (run goes_on z + 1) 0 f) ]

pub name_stop : (nets : List Port) (z : Bytes) → ((y : Bytes) → drop (name_run z) z ≡ 32 ∷ y → MayName nets (take (name_run z) z) → ⊥) → Stops (IsNameWord nets) z (name_run z)
name_stop nets z never =
    let some : (y : Bytes) × MayName nets (take (name_run z) z ++ y) = new_name nets z in
    record {
      word = (take (name_run z) z ++ some.0) ++ 32 ∷ [];
      is_word = (take (name_run z) z ++ some.0, some.1, refl);
      along = far some.0;
      most = λ w is. elim (name_short is.0 z is.1.0) [
        | inl f ↦ absurd (never f.1.0 f.1.1 (subst (λ (l : Bytes). MayName nets l) f.0 is.1))
        | inr s ↦ omega (arith, s.0, ap (λ (l : Bytes). common l z) is.2)
      ];
      none = λ w is. elim (name_short is.0 z is.1.0) [
        | inl f ↦ absurd (never f.1.0 f.1.1 (subst (λ (l : Bytes). MayName nets l) f.0 is.1))
        | inr s ↦ omega (arith, s.1, ap (λ (l : Bytes). common l z) is.2, ap (λ (l : Bytes). length l) is.2, length-append is.0 (32 ∷ []))
      ];
    }
  where
    far : (y : Bytes) → name_run z ≤ common ((take (name_run z) z ++ y) ++ 32 ∷ []) z
    far y = omega (
      arith,
      ap (λ (l : Bytes). common ((take (name_run z) z ++ y) ++ 32 ∷ []) l) (take-append-drop (name_run z) z),
      ap (λ (l : Bytes). common l (take (name_run z) z ++ drop (name_run z) z)) (append_assoc (take (name_run z) z) y (32 ∷ [])),
      common_behind (take (name_run z) z) (y ++ 32 ∷ []) (drop (name_run z) z),
      length-take-le (name_run z) z (name_run_within z),
    )

pub name_before : (nets : List Port) (z rest : Bytes) (n : ℕ) → n ≡ name_run z → rest ≡ drop n z → ((y : Bytes) → rest ≡ 32 ∷ y → MayName nets (take n z) → ⊥) → StopsBefore (IsNameWord nets) z (length rest)
name_before nets z rest n same is never = (
  name_run z,
  omega (arith, same, ap (λ (l : Bytes). length l) is, length-drop n z, name_run_within z),
  name_stop nets z (λ y e ok. never y (is ∙ ap (λ (m : ℕ). drop m z) same ∙ e) (subst (λ (m : ℕ). MayName nets (take m z)) (sym same) ok)),
)
