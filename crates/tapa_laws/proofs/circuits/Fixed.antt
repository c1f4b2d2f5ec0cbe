-- A function of numbers by cycle whose result, up to each cycle, is decided by its argument in the cycles before has a fixed point.
use Rattle.std.proofs.Common.{◌≡◌, ℕ, zero, suc, ◌<◌, ◌≤◌, inl, inr, refl, subst, ◌∙◌, arith}
use Rattle.std.specs.Prelude.{◌⊎◌}
use Rattle.std.proofs.lemmas.Bool.{cases_lt}
use Rattle.vlog_tree.specs.Table.{Name}
use Rattle.tapa_laws.specs.circuits.Reactive.{Seen}

-- the same in the cycles below n
abbrev pub Agree : ℕ → Seen → Seen → Type 0
Agree n h k = (j : ℕ) → j < n → (x : Name) → h j x ≡ k j x

module _ (F : Seen → Seen) (near : (n : ℕ) (h k : Seen) → Agree n h k → Agree (suc n) (F h) (F k)) where
  -- right in the cycles below the number
  guess : ℕ → Seen
  guess zero = λ n x. 0
  guess (suc k) = F (guess k)

  better : (k : ℕ) → Agree k (guess k) (guess (suc k))
  unfolding guess
  better zero = λ j low x. absurd (omega arith)
  better (suc k) = near k (guess k) (guess (suc k)) (better k)

  stays_at : (k n : ℕ) → (n ≤ k → Agree n (guess n) (guess k)) → n ≤ suc k → (k < n) ⊎ (n ≤ k) → Agree n (guess n) (guess (suc k))
  stays_at k n ih low (inl above) = λ j below x. let same : n ≡ suc k = omega arith in subst (λ z. guess n j x ≡ guess z j x) same refl
  stays_at k n ih low (inr within) = λ j below x. ih within j below x ∙ better k j (omega arith) x

  stays : (k n : ℕ) → n ≤ k → Agree n (guess n) (guess k)
  stays zero n low = λ j below x. absurd (omega arith)
  stays (suc k) n low = stays_at k n (stays k n) low (cases_lt k n)

  pub limit : Seen
  limit n x = guess (suc n) n x

  limit_is : (k : ℕ) → Agree k limit (guess k)
  unfolding limit
  limit_is k j low x = stays k (suc j) (omega arith) j (omega arith) x

  pub limit_fixed : (n : ℕ) (x : Name) → F limit n x ≡ limit n x
  unfolding limit guess
  limit_fixed n x = near n limit (guess n) (limit_is n) n (omega arith) x
