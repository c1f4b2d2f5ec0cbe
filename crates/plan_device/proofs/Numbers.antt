-- Tests over the numbers below n.
use Rattle.std.proofs.Common.{◌≡◌, ℕ, zero, suc, ◌<◌, ◌⊎◌, ◌==◌, [], ◌∷◌, filter, Bool, true, false, Some, refl, sym, ap, ◌∙◌, inl, inr, arith}
use Rattle.std.specs.Prelude.{◌||◌}
use Rattle.std.specs.List.{list_any}
use Rattle.std.proofs.lemmas.List.Elements.{filter-append}
use Rattle.std.proofs.lemmas.List.Folds.{list_any-append}
use Rattle.std.proofs.lemmas.Bool.Decides.{nat_tests}
use Rattle.run_data.specs.Seen.{first}
use Rattle.run_data.proofs.Lists.{first-append}
use Rattle.plan_device.specs.Pins.{numbers}

pub last_or_before : (j n : ℕ) → j < suc n → (j < n) ⊎ (j ≡ n)
last_or_before j zero h = inr (omega arith)
last_or_before j (suc n) h = grind arith

pub none_of_numbers : (p : ℕ → Bool) (n : ℕ) → ((j : ℕ) → j < n → p j ≡ false) → filter p (numbers n) ≡ []
none_of_numbers p zero h = refl
none_of_numbers p (suc n) h = filter-append p (numbers n) (n ∷ []) ∙ rw (none_of_numbers p n (λ j k. h j (omega arith)), h n (omega arith))

pub first_of_numbers : (p : ℕ → Bool) (n i : ℕ) → i < n → ((j : ℕ) → j < i → p j ≡ false) → p i ≡ true → first (filter p (numbers n)) ≡ Some i
first_of_numbers p zero i h none here = absurd (omega arith)
first_of_numbers p (suc n) i h none here =
    ap first (filter-append p (numbers n) (n ∷ [])) ∙ first-append (filter p (numbers n)) (filter p (n ∷ []))
    ∙ elim (last_or_before i n h) [
      | inl less ↦ rw (first_of_numbers p n i less none here)
      | inr is ↦ rw (none_of_numbers p n (λ j k. none j (omega arith)), ap p (sym is) ∙ here) (ap Some (sym is))
    ]

or_true : (b : Bool) → (b || (true || false)) ≡ true
or_true true = refl
or_true false = refl

pub any_of_numbers : (p : ℕ → Bool) (n j : ℕ) → j < n → p j ≡ true → list_any p (numbers n) ≡ true
any_of_numbers p zero j h here = absurd (omega arith)
any_of_numbers p (suc n) j h here = list_any-append p (numbers n) (n ∷ []) ∙ elim (last_or_before j n h) [
  | inl less ↦ rw (any_of_numbers p n j less here)
  | inr is ↦ rw (ap p (sym is) ∙ here) (or_true (list_any p (numbers n)))
]

pub not_of_numbers : (p : ℕ → Bool) (n : ℕ) → ((j : ℕ) → j < n → p j ≡ false) → list_any p (numbers n) ≡ false
not_of_numbers p zero h = refl
not_of_numbers p (suc n) h = list_any-append p (numbers n) (n ∷ []) ∙ rw (not_of_numbers p n (λ j k. h j (omega arith)), h n (omega arith))

-- ---- equal numbers

pub same_or_other : (a b : ℕ) → (a ≡ b) ⊎ (a ≡ b → ⊥)
same_or_other zero zero = inl refl
same_or_other zero (suc b) = inr (λ e. absurd (omega arith))
same_or_other (suc a) zero = inr (λ e. absurd (omega arith))
same_or_other (suc a) (suc b) = elim (same_or_other a b) [ inl e ↦ inl (ap suc e) | inr h ↦ inr (λ e. h (omega arith)) ]

pub is_same : (a b : ℕ) → (a == b) ≡ true → a ≡ b
is_same a b h = grind (arith, nat_tests)
