-- What several instances store.
use Rattle.std.proofs.Common.{◌≡◌, ℕ, Bool, true, false, cond, ◌&&◌, List, [], ◌∷◌, ◌++◌, inl, inr, refl, ap, ◌∙◌}
use Rattle.std.specs.Prelude.{◌≢◌, ◌==◌, nat_lt}
use Rattle.std.proofs.lemmas.Bool.{ne_eqb}
use Rattle.tapa_base.specs.Lists.{Has}
use Rattle.sim_tape.specs.declared.gates.Pair.{Pair}
use Rattle.sim_tape.specs.Tape.{number_at, pair_value}
use Rattle.sim_gates.specs.declared.writes.Store.{Store}
use Rattle.sim_gates.specs.Next.{hits, cell_after}

-- one after another
pub cells_both : (ns : List ℕ) (count : ℕ) (q : Pair) (a : ℕ) (xs ys : List Store) (n : ℕ) → cell_after ns count q a (xs ++ ys) n ≡ cell_after ns count q a ys (cell_after ns count q a xs n)
cells_both ns count q a [] ys n = refl
cells_both ns count q a (u ∷ xs) ys n = cells_both ns count q a xs ys (cond (hits ns count q a u) (pair_value ns u.value) n)

no_hit : (x l y z : Bool) → l ≡ false → (x && (l && y && z)) ≡ false
no_hit true false y z e = refl
no_hit false false y z e = refl
no_hit x true y z e = cc

-- stores into other memories leave a cell
pub cells_missed : (ns : List ℕ) (count : ℕ) (q : Pair) (a : ℕ) (stores : List Store) (n : ℕ) → ((u : Store) → Has stores u → u.memory.low ≢ q.low) → cell_after ns count q a stores n ≡ n
cells_missed ns count q a [] n other = refl
cells_missed ns count q a (u ∷ stores) n other =
    ap (λ b. cell_after ns count q a stores (cond b (pair_value ns u.value) n))
    (no_hit (number_at ns u.on == 1) (u.memory.low == q.low) (a == pair_value ns u.at) (nat_lt (pair_value ns u.at) count) (ne_eqb u.memory.low q.low (other u (inl refl))))
    ∙ cells_missed ns count q a stores n (λ v h. other v (inr h))
