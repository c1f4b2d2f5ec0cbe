-- What chains reach.
use Rattle.std.proofs.Common.{ℕ, ◌<◌, ◌≤◌, arith}
use Rattle.tapa_base.specs.Lists.{Chain, one, more}

pub snoc : {N : Type 0} (R : N → N → Type 0) (a b c : N) → Chain R a b → R b c → Chain R a c
snoc R a b c (one h) s = more b h (one s)
snoc R a b c (more d h r) s = more d h (snoc R d b c r s)

-- where no step goes to a higher level, and each first step to a lower one, no chain comes back
module _ (R : ℕ → ℕ → Type 0) (level : ℕ → ℕ) (rises_not : (j k : ℕ) → R j k → level k ≤ level j) where
  chain_rises_not : (j k : ℕ) → Chain R j k → level k ≤ level j
  chain_rises_not j k (one s) = rises_not j k s
  chain_rises_not j k (more b s r) = let f : level b ≤ level j = rises_not j b s in let g : level k ≤ level b = chain_rises_not b k r in omega arith

  pub no_way_back : (j : ℕ) → ((k : ℕ) → R j k → level k < level j) → Chain R j j → ⊥
  no_way_back j falls (one s) = let f : level j < level j = falls j s in absurd (omega arith)
  no_way_back j falls (more b s r) = let f : level b < level j = falls b s in let g : level j ≤ level b = chain_rises_not b j r in absurd (omega arith)
