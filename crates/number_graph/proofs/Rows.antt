-- Rows of numbers as they grow.
use Rattle.std.proofs.Common.{◌≡◌, ℕ, zero, suc, List, [], ◌∷◌, ◌++◌, length, get_or, inl, inr, refl, sym, ap, subst}
use Rattle.std.specs.Prelude.{◌⊎◌, ◌≢◌, ◌↔◌, Vec}
use Rattle.std.proofs.lemmas.Bool.{cases_eq}
use Rattle.tapa_base.specs.Lists.{Has}
use Rattle.number_graph.specs.Graphs.{rows_of, targets_of}
use Rattle.tapa_base.proofs.Lists.{has_left, has_right, has_split}

pub rows_len : {A : Type 0} (rows : List (Vec ℕ A)) → length (rows_of rows) ≡ length rows
rows_len [] = refl
rows_len (v ∷ vs) = ap suc (rows_len vs)

pub row_at : {A : Type 0} (rows : List (Vec ℕ A)) (j : ℕ) → get_or (rows_of rows) j [] ≡ targets_of rows j
row_at [] j = refl
row_at (v ∷ vs) zero = refl
row_at (v ∷ vs) (suc j) = row_at vs j

-- a last row without targets
pub row_push : {X A : Type 0} (rows : List (Vec X A)) (v : Vec X A) → v.items ≡ [] → (j : ℕ) → targets_of (rows ++ v ∷ []) j ≡ targets_of rows j
row_push [] v e zero = e
row_push [] v e (suc j) = refl
row_push (x ∷ xs) v e zero = refl
row_push (x ∷ xs) v e (suc j) = row_push xs v e j

-- one more edge
module _ (edges : List (ℕ × ℕ)) (old new : ℕ → List ℕ) (a b : ℕ) (so_far : (j k : ℕ) → Has (old j) k ↔ Has edges (j, k))
    (at : new a ≡ old a ++ b ∷ []) (others : (i : ℕ) → i ≢ a → new i ≡ old i) where
  at_a : (k : ℕ) → Has (old a) k ⊎ Has (b ∷ []) k → Has {N = ℕ × ℕ} (edges ++ (a, b) ∷ []) (a, k)
  at_a k (inl h) = has_left edges ((a, b) ∷ []) (a, k) ((so_far a k).0 h)
  at_a k (inr (inl e)) = has_right edges ((a, b) ∷ []) (a, k) (inl (ap (λ (n : ℕ). (a, n)) e))
  at_a k (inr (inr h)) = absurd h

  down : (j k : ℕ) → (j ≡ a) ⊎ (j ≢ a) → Has (new j) k → Has {N = ℕ × ℕ} (edges ++ (a, b) ∷ []) (j, k)
  down j k (inl e) h =
      subst (λ n. Has {N = ℕ × ℕ} (edges ++ (a, b) ∷ []) (n, k)) (sym e)
      (at_a k (has_split (old a) (b ∷ []) k (subst (λ l. Has l k) at (subst (λ n. Has (new n) k) e h))))
  down j k (inr ne) h = has_left edges ((a, b) ∷ []) (j, k) ((so_far j k).0 (subst (λ l. Has l k) (others j ne) h))

  kept_of : (j k : ℕ) → (j ≡ a) ⊎ (j ≢ a) → Has (old j) k → Has (new j) k
  kept_of j k (inl e) h = subst (λ n. Has (new n) k) (sym e) (subst (λ l. Has l k) (sym at) (has_left (old a) (b ∷ []) k (subst (λ n. Has (old n) k) e h)))
  kept_of j k (inr ne) h = subst (λ l. Has l k) (sym (others j ne)) h

  up : (j k : ℕ) → Has edges (j, k) ⊎ Has {N = ℕ × ℕ} ((a, b) ∷ []) (j, k) → Has (new j) k
  up j k (inl h) = kept_of j k (cases_eq j a) ((so_far j k).1 h)
  up j k (inr (inl e)) =
      let first : a ≡ j = ap (λ (p : ℕ × ℕ). p.0) e in
      let second : b ≡ k = ap (λ (p : ℕ × ℕ). p.1) e in
      subst (λ n. Has (new n) k) first (subst (λ l. Has l k) (sym at) (has_right (old a) (b ∷ []) k (inl second)))
  up j k (inr (inr h)) = absurd h

  pub one_more : (j k : ℕ) → Has (new j) k ↔ Has {N = ℕ × ℕ} (edges ++ (a, b) ∷ []) (j, k)
  one_more j k = (down j k (cases_eq j a), λ h. up j k (has_split edges ((a, b) ∷ []) (j, k) h))
