-- A statement on a number, which holds of a given one and of each other, or of those below.
use Rattle.std.proofs.Common.{◌≡◌, ℕ, ◌+◌, ◌<◌, ◌≤◌, sym, subst, ⊎_elim, arith}
use Rattle.std.proofs.lemmas.Bool.{cases_eq, cases_lt}

pub at_or : (P : ℕ → Type 0) (s p : ℕ) → P s → ((s ≡ p → ⊥) → P p) → P p
at_or P s p here other = ⊎_elim (λ (e : s ≡ p). subst P e here) other (cases_eq s p)

pub is_or : (P : ℕ → Type 0) (s p : ℕ) → P s → ((p ≡ s → ⊥) → P p) → P p
is_or P s p here other = ⊎_elim (λ (e : p ≡ s). subst P (sym e) here) other (cases_eq p s)

pub up_to : (P : ℕ → Type 0) (p q : ℕ) → q < p + 1 → (q < p → P q) → P p → P q
up_to P p q l below here = ⊎_elim below (λ (e : p ≤ q). let same : p ≡ q = omega arith in subst P same here) (cases_lt q p)

pub short_of : (P : ℕ → Type 0) (p q : ℕ) → q < p + 1 → (P p → ⊥) → P q → q < p
short_of P p q l never h = ⊎_elim (λ (e : q < p). e) (λ (e : p ≤ q). let same : q ≡ p = omega arith in absurd (never (subst P same h))) (cases_lt q p)
