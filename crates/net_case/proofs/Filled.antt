-- What the loop that fills the queues of all streams keeps.
use Rattle.std.proofs.Common.{◌≡◌, ℕ, ◌+◌, ◌*◌, ◌<◌, ◌≤◌, List, [], length, Some, sym, ◌∙◌, subst, ⊎_elim, arith}
use Rattle.std.specs.Prelude.{slice_get, slice_set}
use Rattle.std.proofs.lemmas.Bool.{cases_eq}
use Rattle.tapa_base.specs.declared.token.Token.{Token}
use Rattle.tapa_syntax.specs.declared.program.Program.{Program}
use Rattle.net_core.specs.Bindings.{depth_of}
use Rattle.net_core.proofs.Moves.{get_set_same, get_set_other}
use Rattle.net_case.specs.declared.queue.Queue.{Queue}
use Rattle.net_case.specs.Queue.{waits, space}

-- one queue is replaced
module _ (queues : List Queue) (n : ℕ) (q r : Queue) (inside : n < length queues) (at : slice_get queues n ≡ Some q) where
  is_here : (t : ℕ) (y : Queue) → t ≡ n → slice_get (slice_set queues n r) t ≡ Some y → r ≡ y
  is_here t y e g = let z = sym (get_set_same queues n r inside) ∙ subst (λ m. slice_get (slice_set queues n r) m ≡ Some y) e g in cc

  is_other : (t : ℕ) (y : Queue) → (t ≡ n → ⊥) → slice_get (slice_set queues n r) t ≡ Some y → slice_get queues t ≡ Some y
  is_other t y d g = sym (get_set_other queues n t r (λ e. d (sym e))) ∙ g

  pub filled_more : (lists : ℕ → List Token) → ((t : ℕ) (y : Queue) → t < n → slice_get queues t ≡ Some y → waits y ≡ lists t) → waits r ≡ lists n → (t : ℕ) (y : Queue) → t < n + 1 → slice_get (slice_set queues n r) t ≡ Some y → waits y ≡ lists t
  filled_more lists before now t y l g =
      ⊎_elim
      (λ (w : t ≡ n). subst (λ z. waits z ≡ lists t) (is_here t y w g) (subst (λ m. waits r ≡ lists m) (sym w) now))
      (λ (o : t ≡ n → ⊥). before t y (omega arith) (is_other t y o g))
      (cases_eq t n)

  pub empty_more : ((t : ℕ) (y : Queue) → n ≤ t → slice_get queues t ≡ Some y → waits y ≡ []) → (t : ℕ) (y : Queue) → n + 1 ≤ t → slice_get (slice_set queues n r) t ≡ Some y → waits y ≡ []
  empty_more before t y l g = before t y (omega arith) (is_other t y (λ e. omega arith) g)

  pub spaces_more : (program : Program) → ((t : ℕ) (y : Queue) → slice_get queues t ≡ Some y → 2 * depth_of program t ≤ space y) → space q ≤ space r → (t : ℕ) (y : Queue) → slice_get (slice_set queues n r) t ≡ Some y → 2 * depth_of program t ≤ space y
  spaces_more program before more t y g =
      ⊎_elim
      (λ (w : t ≡ n).
      let a : 2 * depth_of program t ≤ space q = before t q (subst (λ m. slice_get queues m ≡ Some q) (sym w) at) in
      subst (λ z. 2 * depth_of program t ≤ space z) (is_here t y w g) (omega arith))
      (λ (o : t ≡ n → ⊥). before t y (is_other t y o g))
      (cases_eq t n)
