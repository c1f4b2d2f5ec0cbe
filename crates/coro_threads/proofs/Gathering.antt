-- One more seat is gathered.
use Rattle.std.proofs.Common.{ℕ, zero, suc, ◌≤◌, List, [], ◌∷◌, ◌++◌, slice_index, arith}
use Rattle.std.specs.Prelude.{All}
use Rattle.net_core.specs.declared.body.Body.{Ghosts}
use Rattle.coro_threads.specs.declared.seats.Worker.{Worker}
use Rattle.coro_threads.specs.Seats.{IsBehind}

module _ {B : Type 0} {g : Ghosts B} where
  pub behind_more : (old new : List ℕ) (w : Worker B g) (done : List (Worker B g)) → IsBehind new w → ((i : ℕ) → slice_index old i ≤ slice_index new i) → All (IsBehind old) done → All (IsBehind new) (w ∷ done)
  behind_more old new w done first further all zero d l i = first i
  behind_more old new w done first further all (suc k) d l i = omega (arith, all k d (omega (arith, l)) i, further i)

  pub still_all : (P : Worker B g → Type 0) (xs : List (Worker B g)) (w : Worker B g) → All P (xs ++ w ∷ []) → All P xs
  still_all P [] w all k d l = absurd (omega (arith, l))
  still_all P (x ∷ xs) w all zero d l = all zero d (omega arith)
  still_all P (x ∷ xs) w all (suc k) d l = still_all P xs w (λ j e m. all (suc j) e (omega (arith, m))) k d (omega (arith, l))
