-- Sums over the numbers below n.
use Rattle.std.proofs.Common.{◌≡◌, ℕ, zero, suc, ◌+◌, ◌<◌, ◌≤◌, Bool, true, false, cond, inl, inr, refl, sym, subst, arith}
use Rattle.std.specs.Prelude.{◌⊎◌}
use Rattle.std.proofs.lemmas.Bool.{cases_lt}
use Rattle.task_graph.specs.Arcs.{total}

pub total_le : (n : ℕ) (f g : ℕ → ℕ) → ((i : ℕ) → i < n → f i ≤ g i) → total n f ≤ total n g
total_le zero f g le = omega arith
total_le (suc n) f g le = let r = total_le n f g (λ i h. le i (omega arith)) in let b = le n (omega arith) in omega arith

last_step : (n : ℕ) (f g : ℕ → ℕ) (k : ℕ) → ((i : ℕ) → i < suc n → f i ≤ g i) → k < suc n → f k < g k → (k < n → total n f < total n g) → (k < n) ⊎ (n ≤ k) → total n f + f n < total n g + g n
last_step n f g k le l s before (inl h) = let r = before h in let b = le n (omega arith) in omega arith
last_step n f g k le l s before (inr h) =
    let r = total_le n f g (λ i q. le i (omega arith)) in
    let e : k ≡ n = omega arith in
    let b : f n < g n = subst (λ v. f v < g v) e s in omega arith

-- one of them is greater
pub total_lt : (n : ℕ) (f g : ℕ → ℕ) (k : ℕ) → ((i : ℕ) → i < n → f i ≤ g i) → k < n → f k < g k → total n f < total n g
total_lt zero f g k le l s = absurd (omega arith)
total_lt (suc n) f g k le l s = last_step n f g k le l s (λ h. total_lt n f g k (λ i q. le i (omega arith)) h s) (cases_lt k n)

pub total_small : (n : ℕ) (f : ℕ → ℕ) → ((i : ℕ) → f i ≤ 1) → total n f ≤ n
total_small zero f low = omega arith
total_small (suc n) f low = let r = total_small n f low in let b = low n in omega arith

-- what a test counts
pub counts_low : (b : Bool) → cond b 1 0 ≤ 1
counts_low true = omega arith
counts_low false = omega arith

pub counts_more : (a b : Bool) → (a ≡ true → b ≡ true) → cond a 1 0 ≤ cond b 1 0
counts_more true b h = subst (λ v. 1 ≤ cond v 1 0) (sym (h refl)) (omega arith)
counts_more false b h = omega arith

pub counts_less : (a b : Bool) → (a ≡ true → ⊥) → b ≡ true → cond a 1 0 < cond b 1 0
counts_less true b f t = absurd (f refl)
counts_less false b f t = subst (λ v. 0 < cond v 1 0) (sym t) (omega arith)
