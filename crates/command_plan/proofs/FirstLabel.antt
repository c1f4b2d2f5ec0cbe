-- The first instance of a group.
use Rattle.std.proofs.Common.{◌≡◌, ◌≢◌, ◌<◌, ◌==◌, ℕ, true, false, List, length, get_or, Some, ap, ◌∙◌, arith}
use Rattle.std.specs.Prelude.{slice_get}
use Rattle.std.proofs.lemmas.Bool.Decides.{nat_tests}
use Rattle.std.proofs.lemmas.List.Sums.{position_or_len_is}
use Rattle.std.proofs.lemmas.Option.{slice_get-get_or, slice_get_within, get_or_from_slice_get}
use Rattle.task_graph.specs.Streams.{least_of}
use Rattle.flow_cert.proofs.Yes.{is_inner as equals}
use Rattle.tapa_base.proofs.Tests.{differs}

module _ (xs : List ℕ) (g : ℕ) where
  other : (k : ℕ) → k < length xs → slice_get xs k ≢ Some g → (get_or xs k 0 == g) ≡ false
  other k inside n = differs (get_or xs k 0) g (λ e. n (slice_get-get_or xs k 0 inside ∙ ap Some e))

  pub least_at : (i : ℕ) → slice_get xs i ≡ Some g → ((k : ℕ) → k < i → slice_get xs k ≢ Some g) → least_of xs g ≡ i
  least_at i at first =
      let inside : i < length xs = slice_get_within xs i g at in
      position_or_len_is (λ (x : ℕ). x == g) xs i 0 (omega arith) (λ k lt. other k (omega arith) (first k lt)) (λ l. equals (get_or xs i 0) g (get_or_from_slice_get xs i g 0 at))

  pub least_none : ((k : ℕ) → slice_get xs k ≢ Some g) → least_of xs g ≡ length xs
  least_none none = position_or_len_is (λ (x : ℕ). x == g) xs (length xs) 0 (omega arith) (λ k lt. other k lt (none k)) (λ l. absurd (omega arith))
