-- The streams by rounds are the least solution of the tasks' equations.
use Rattle.std.proofs.Common.{◌≡◌, ℕ, zero, suc, ◌+◌, ◌<◌, ◌≤◌, subst, arith, ⊎_elim}
use Rattle.std.proofs.lemmas.Bool.{cases_lt}
use Rattle.kahn_model.specs.Network.{Network, IsNetwork, put_on, stream}
use Rattle.kahn_model.specs.Prefix.{IsPrefixOf}
use Rattle.kahn_model.proofs.Grow.{stream_next, ticks_grow}
use Rattle.kahn_model.proofs.Order.{prefix_flat_map, prefix_refl, prefix_trans}
use Rattle.tapa_laws.specs.kahn.LeastSolution.{StreamHistory, IsGrowing, IsSolution, IsPartOfHistory, StreamsAreTheLeastSolution, written_by_tasks}

-- a later stage has at least as much
later : (y : StreamHistory) → IsGrowing y → (n m s : ℕ) → n ≤ m → IsPrefixOf (y n s) (y m s)
later y grows n zero s less = subst (λ (k : ℕ). IsPrefixOf (y n s) (y k s)) (let same : n ≡ 0 = omega arith in same) (prefix_refl (y n s))
later y grows n (suc m) s less =
    ⊎_elim
    (λ (last : m < n). subst (λ (k : ℕ). IsPrefixOf (y n s) (y k s)) (let same : n ≡ suc m = omega arith in same) (prefix_refl (y n s)))
    (λ (before : n ≤ m). prefix_trans (y n s) (y m s) (y (suc m) s) (later y grows n m s before) (grows m s))
    (cases_lt m n)

module _ (net : Network) (ok : IsNetwork net) where
  solves : IsSolution net (stream net)
  solves = record {
    grows = stream_next net ok;
    all = λ n. (suc n, λ s. prefix_refl (stream net (suc n) s));
    only = λ n. (n, stream_next net ok n);
  }

  module _ (y : StreamHistory) (grows : IsGrowing y) (all : IsPartOfHistory (written_by_tasks net y) y) where
    -- what the tasks write on a round's streams they write on those of a stage that has at least as much
    next_round : (n m : ℕ) → ((s : ℕ) → IsPrefixOf (stream net n s) (y m s)) → (s : ℕ) → IsPrefixOf (stream net (suc n) s) (written_by_tasks net y (n + m) s)
    next_round n m before s =
        prefix_flat_map (put_on s) _ _
        (ticks_grow _ _ (stream net n) (y (n + m)) (ok.grows (net.producer s) (suc n) (suc (n + m)) (omega arith))
        (λ r. prefix_trans (stream net n r) (y m r) (y (n + m) r) (before r) (later y grows m (n + m) r (omega arith))))

    least : IsPartOfHistory (stream net) y
    least zero = (0, λ s. tt)
    least (suc n) =
        let before = least n in
        let stage = n + before.0 in
        let come = all stage in
        (come.0, λ s. prefix_trans (stream net (suc n) s) (written_by_tasks net y stage s) (y come.0 s) (next_round n before.0 before.1 s) (come.1 s))

pub least_solution : StreamsAreTheLeastSolution
least_solution = λ net ok. record { solves = solves net ok; least = least net ok }
