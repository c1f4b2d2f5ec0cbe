-- The changes of a dump give each net its value in each cycle.
use Rattle.std.proofs.lemmas.Bool.{lt-leb, le-leb}
use Rattle.std.proofs.Common.{◌≡◌, ◌≢◌, ℕ, zero, suc, ◌+◌, ◌<◌, ◌≤◌, Bool, true, false, cond, List, [], ◌∷◌, ◌++◌, length, inl, inr, refl, sym, ap, ◌∙◌, arith, nat_eq, nat_le, eq-eqb}
use Rattle.std.specs.Prelude.{◌&&◌, not}
use Rattle.std.proofs.lemmas.Bool.Decides.{eqb_tells, leb_tells}
use Rattle.vcd_text.specs.Nets.{Net}
use Rattle.vcd_text.specs.Dump.{Values, is_change}
use Rattle.vcd_text.specs.Read.{value_after, value_of, changes_from, changes_to}
use Rattle.vcd_text.specs.declared.dump.Change.{Change}
use Rattle.vcd_text.proofs.Common.{cond_yes, cond_no}
use Rattle.tapa_base.proofs.Tests.{bool_cases as yes_or_no}

after_both : (a b : List Change) (k n w : ℕ) → value_after (a ++ b) k n w ≡ value_after b k n (value_after a k n w)
after_both [] b k n w = refl
after_both (c ∷ a) b k n w = after_both a b k n (cond (nat_eq c.net k && nat_le c.cycle n) c.value w)

abbrev own : Values → ℕ → ℕ → List Change
own v c j = cond (is_change v c j) (record { cycle = c; net = j; value = v c j } ∷ []) []

-- the change of one net, as far as a net's value in a cycle goes
one_later : (v : Values) (c j k n w : ℕ) → n < c → value_after (own v c j) k n w ≡ w
one_later v c j k n w h = elim (yes_or_no (is_change v c j)) [
  | inr f ↦ ap (λ (l : List Change). value_after l k n w) (cond_no (is_change v c j) (record { cycle = c; net = j; value = v c j } ∷ []) [] f)
  | inl t ↦ ap (λ (l : List Change). value_after l k n w) (cond_yes (is_change v c j) (record { cycle = c; net = j; value = v c j } ∷ []) [] t) ∙ cond_no (nat_eq j k && nat_le c n) (v c j) w (past (nat_eq j k))
]
  where
    past : (t : Bool) → (t && nat_le c n) ≡ false
    past true = lt-leb c n h
    past false = refl

one_other : (v : Values) (c j k n w : ℕ) → j ≢ k → value_after (own v c j) k n w ≡ w
one_other v c j k n w ne = elim (yes_or_no (is_change v c j)) [
  | inr f ↦ ap (λ (l : List Change). value_after l k n w) (cond_no (is_change v c j) (record { cycle = c; net = j; value = v c j } ∷ []) [] f)
  | inl t ↦ ap (λ (l : List Change). value_after l k n w) (cond_yes (is_change v c j) (record { cycle = c; net = j; value = v c j } ∷ []) [] t)
      ∙ elim (eqb_tells j k) [ inl s ↦ absurd (ne s.1) | inr s ↦ ap (λ (b : Bool). cond (b && nat_le c n) (v c j) w) s.0 ]
]

one_here : (v : Values) (c k n w : ℕ) → c ≤ n → value_after (own v c k) k n w ≡ cond (is_change v c k) (v c k) w
one_here v c k n w h = elim (yes_or_no (is_change v c k)) [
  | inr f ↦ ap (λ (l : List Change). value_after l k n w) (cond_no (is_change v c k) (record { cycle = c; net = k; value = v c k } ∷ []) [] f) ∙ sym (cond_no (is_change v c k) (v c k) w f)
  | inl t ↦ ap (λ (l : List Change). value_after l k n w) (cond_yes (is_change v c k) (record { cycle = c; net = k; value = v c k } ∷ []) [] t)
      ∙ ap (λ (b : Bool). cond (b && nat_le c n) (v c k) w) (eq-eqb k k refl) ∙ ap (λ (b : Bool). cond b (v c k) w) (le-leb c n h) ∙ sym (cond_yes (is_change v c k) (v c k) w t)
]

-- the changes of a cycle
row_later : (v : Values) (c j k n w : ℕ) (xs : List Net) → n < c → value_after (changes_from v c j xs) k n w ≡ w
row_later v c j k n w [] h = refl
row_later v c j k n w (x ∷ xs) h = after_both (own v c j) (changes_from v c (suc j) xs) k n w ∙ row_later v c (suc j) k n (value_after (own v c j) k n w) xs h ∙ one_later v c j k n w h

row_behind : (v : Values) (c j k n w : ℕ) (xs : List Net) → k < j → value_after (changes_from v c j xs) k n w ≡ w
row_behind v c j k n w [] h = refl
row_behind v c j k n w (x ∷ xs) h = after_both (own v c j) (changes_from v c (suc j) xs) k n w ∙ row_behind v c (suc j) k n (value_after (own v c j) k n w) xs (omega arith) ∙ one_other v c j k n w (λ e. absurd (omega (arith, e)))

row_value : (v : Values) (c j k n w : ℕ) (xs : List Net) → c ≤ n → j ≤ k → k < j + length xs → value_after (changes_from v c j xs) k n w ≡ cond (is_change v c k) (v c k) w
row_value v c j k n w [] h p q = absurd (omega arith)
row_value v c j k n w (x ∷ xs) h p q = elim (eqb_tells j k) [
  | inl t ↦ after_both (own v c j) (changes_from v c (suc j) xs) k n w ∙ row_behind v c (suc j) k n (value_after (own v c j) k n w) xs (omega (arith, t.1))
      ∙ ap (λ (i : ℕ). value_after (own v c i) k n w) t.1 ∙ one_here v c k n w h
  | inr f ↦ after_both (own v c j) (changes_from v c (suc j) xs) k n w ∙ row_value v c (suc j) k n (value_after (own v c j) k n w) xs h (omega (arith, f.1)) (omega (arith, f.1))
      ∙ ap (λ (u : ℕ). cond (is_change v c k) (v c k) u) (one_other v c j k n w f.1)
]

-- the changes up to a cycle from which on none is asked for
until : (nets : List Net) (v : Values) (last k n : ℕ) → last ≤ n → k < length nets → value_of (changes_to nets v last) k n ≡ v last k
until nets v zero k n h q = row_value v 0 0 k n 0 nets h (omega arith) (omega arith)
until nets v (suc m) k n h q =
    after_both (changes_to nets v m) (changes_from v (suc m) 0 nets) k n 0
    ∙ ap (λ (w : ℕ). value_after (changes_from v (suc m) 0 nets) k n w) (until nets v m k n (omega arith) q)
    ∙ row_value v (suc m) 0 k n (v m k) nets h (omega arith) (omega arith)
    ∙ kept (v (suc m) k) (v m k)
  where
    kept : (a b : ℕ) → cond (not (nat_eq a b)) a b ≡ a
    kept a b = elim (eqb_tells a b) [ inl t ↦ cond_no (not (nat_eq a b)) a b (ap not t.0) ∙ sym t.1 | inr f ↦ cond_yes (not (nat_eq a b)) a b (ap not f.0) ]

pub gives_values : (nets : List Net) (v : Values) (last n k : ℕ) → n ≤ last → k < length nets → value_of (changes_to nets v last) k n ≡ v n k
gives_values nets v zero n k h q = until nets v 0 k n (omega arith) q ∙ ap (λ (m : ℕ). v m k) (omega arith)
gives_values nets v (suc m) n k h q = elim (leb_tells (suc m) n) [
  | inl t ↦ until nets v (suc m) k n t.1 q ∙ ap (λ (i : ℕ). v i k) (omega (arith, t.1, h))
  | inr f ↦ after_both (changes_to nets v m) (changes_from v (suc m) 0 nets) k n 0 ∙ row_later v (suc m) 0 k n (value_after (changes_to nets v m) k n 0) nets f.1 ∙ gives_values nets v m n k (omega (arith, f.1)) q
]
