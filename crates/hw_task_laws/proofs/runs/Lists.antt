-- Lists with one element for each number, and what a machine holds as such lists.
use Rattle.std.proofs.Common.{◌≡◌, ℕ, zero, suc, ◌<◌, ◌≤◌, List, [], ◌∷◌, ◌++◌, length, get_or, Some, refl, sym, ap, ◌∙◌, arith, ⊎_elim}
use Rattle.std.specs.Prelude.{slice_get, slice_index_or}
use Rattle.std.proofs.lemmas.Bool.{cases_eq}
use Rattle.std.proofs.lemmas.List.{length_push, get_or_append_left, get_or_at, get_or_past, ext_get_or, length-set}
use Rattle.std.proofs.lemmas.Option.{slice_get-get_or}
use Rattle.kahn_model.specs.Trace.{State, with_cell}
use Rattle.hw_build.specs.Scope.{each}

-- one for each number
abbrev pub ones : {A : Type 0} → (ℕ → A) → ℕ → List A
ones f n = each (λ k. f k ∷ []) n

module _ {A : Type 0} (f : ℕ → A) where
  pub ones_length : (n : ℕ) → length (ones f n) ≡ n
  ones_length zero = refl
  ones_length (suc n) = let p = length_push (ones f n) (f n) in let r = ones_length n in omega (arith, p, r)

  pub ones_at : (n k : ℕ) (d : A) → k < n → get_or (ones f n) k d ≡ f k
  ones_at zero k d h = absurd (omega (arith, h))
  ones_at (suc n) k d h =
      ⊎_elim (λ (e : k ≡ n). ap (λ z. get_or (ones f n ++ f n ∷ []) z d) e ∙ get_or_at (ones f n) (f n) [] d n (ones_length n) ∙ ap f (sym e))
      (λ (e : k ≡ n → ⊥).
      let l : k < n = omega (arith, h, e) in
      let r = ones_length n in
      get_or_append_left (ones f n) (f n ∷ []) d k (omega (arith, l, r)) ∙ ones_at n k d l)
      (cases_eq k n)

  pub ones_past : (n k : ℕ) (d : A) → n ≤ k → get_or (ones f n) k d ≡ d
  ones_past n k d h = let r = ones_length n in get_or_past (ones f n) k d (omega (arith, h, r))

  -- a list of as many elements
  pub ones_are : (n : ℕ) (xs : List A) (d : A) → length xs ≡ n → ((k : ℕ) → k < n → f k ≡ get_or xs k d) → ones f n ≡ xs
  ones_are n xs d e h =
      let r = ones_length n in
      ext_get_or d (ones f n) xs (r ∙ sym e) (λ k l. let m : k < n = omega (arith, l, r) in ones_at n k d m ∙ h k m)

-- what is held, by its parts
abbrev held_of : List ℕ → List (List ℕ) → List (List ℕ) → State
held_of vars arrays cells = record { vars = vars; arrays = arrays; cells = cells }

pub same_held : (σ τ : State) → σ.vars ≡ τ.vars → σ.arrays ≡ τ.arrays → σ.cells ≡ τ.cells → σ ≡ τ
same_held σ τ p q r = ap (λ x. held_of x σ.arrays σ.cells) p ∙ ap (λ x. held_of τ.vars x σ.cells) q ∙ ap (λ x. held_of τ.vars τ.arrays x) r

-- rows keep their lengths where a cell is set
pub row_kept : (rows : List (List ℕ)) (a i v b : ℕ) → length (slice_index_or (with_cell rows a i v) b []) ≡ length (slice_index_or rows b [])
row_kept [] a i v b = refl
row_kept (row ∷ rows) zero i v zero = length-set row i v
row_kept (row ∷ rows) zero i v (suc b) = refl
row_kept (row ∷ rows) (suc a) i v zero = refl
row_kept (row ∷ rows) (suc a) i v (suc b) = row_kept rows a i v b

pub got_form : {A : Type 0} (xs : List A) (k : ℕ) (d : A) → k < length xs → slice_get xs k ≡ Some (slice_index_or xs k d)
got_form xs k d h = slice_get-get_or xs k d h
