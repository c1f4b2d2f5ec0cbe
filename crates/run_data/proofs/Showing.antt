-- The lines of things that are counted, one after another.
use Rattle.std.proofs.Common.{◌≡◌, ℕ, zero, suc, ◌+◌, ◌<◌, List, [], ◌∷◌, ◌++◌, length, take, drop, get_or, refl, sym, ◌∙◌, ap, append_assoc, arith, add-zero, zero-add}
use Rattle.std.proofs.lemmas.List.{append-nil}
use Rattle.run_data.specs.Lines.{lines_from}

module _ {A : Type 0} (line : A → ℕ → List ℕ) where
  -- the lines so far, and those to come
  lines_so_far : (n : ℕ) (xs : List A) (i : ℕ) → lines_from line n xs ≡ lines_from line n (take i xs) ++ lines_from line (n + i) (drop i xs)
  lines_so_far n xs zero = ap (λ (m : ℕ). lines_from line m xs) (sym (add-zero n))
  lines_so_far n [] (suc i) = refl
  lines_so_far n (x ∷ xs) (suc i) =
      ap (λ (l : List ℕ). line x n ++ l) (lines_so_far (suc n) xs i ∙ ap (λ (m : ℕ). lines_from line (suc n) (take i xs) ++ lines_from line m (drop i xs)) (omega arith))
      ∙ sym (append_assoc (line x n) (lines_from line (suc n) (take i xs)) (lines_from line (n + suc i) (drop i xs)))

  pub first_so_far : (xs : List A) (i : ℕ) → lines_from line 0 xs ≡ lines_from line 0 (take i xs) ++ lines_from line (0 + i) (drop i xs)
  first_so_far = lines_so_far 0

  -- the next line, and those behind it
  lines_next : (n : ℕ) (xs : List A) (i : ℕ) (d : A) → i < length xs → lines_from line n xs ≡ lines_from line n (take i xs) ++ (line (get_or xs i d) (n + i) ++ lines_from line (n + suc i) (drop (suc i) xs))
  lines_next n [] i d h = absurd (omega arith)
  lines_next n (x ∷ xs) zero d h = ap (λ (m : ℕ). line x m ++ lines_from line (suc n) xs) (sym (add-zero n)) ∙ ap (λ (m : ℕ). line x (n + 0) ++ lines_from line m xs) (omega arith)
  lines_next n (x ∷ xs) (suc i) d h =
      ap (λ (l : List ℕ). line x n ++ l)
      (lines_next (suc n) xs i d (omega arith) ∙ ap (λ (m : ℕ). lines_from line (suc n) (take i xs) ++ (line (get_or xs i d) m ++ lines_from line (suc n + suc i) (drop (suc i) xs))) (omega arith)
      ∙ ap (λ (m : ℕ). lines_from line (suc n) (take i xs) ++ (line (get_or xs i d) (n + suc i) ++ lines_from line m (drop (suc i) xs))) (omega arith))
      ∙ sym (append_assoc (line x n) (lines_from line (suc n) (take i xs)) _)

  -- one more line
  lines_more : (n : ℕ) (xs : List A) (i : ℕ) (d : A) → i < length xs → lines_from line n (take (suc i) xs) ≡ lines_from line n (take i xs) ++ line (get_or xs i d) (n + i)
  lines_more n [] i d h = absurd (omega arith)
  lines_more n (x ∷ xs) zero d h = append-nil (line x n) ∙ ap (λ (m : ℕ). line x m) (sym (add-zero n))
  lines_more n (x ∷ xs) (suc i) d h =
      ap (λ (l : List ℕ). line x n ++ l) (lines_more (suc n) xs i d (omega arith) ∙ ap (λ (m : ℕ). lines_from line (suc n) (take i xs) ++ line (get_or xs i d) m) (omega arith))
      ∙ sym (append_assoc (line x n) (lines_from line (suc n) (take i xs)) _)

  -- the same from the first on
  pub first_next : (xs : List A) (i : ℕ) (d : A) → i < length xs → lines_from line 0 xs ≡ lines_from line 0 (take i xs) ++ (line (get_or xs i d) i ++ lines_from line (suc i) (drop (suc i) xs))
  first_next xs i d h =
      lines_next 0 xs i d h
      ∙ ap (λ (m : ℕ). lines_from line 0 (take i xs) ++ (line (get_or xs i d) m ++ lines_from line (0 + suc i) (drop (suc i) xs))) (zero-add i)
      ∙ ap (λ (m : ℕ). lines_from line 0 (take i xs) ++ (line (get_or xs i d) i ++ lines_from line m (drop (suc i) xs))) (zero-add (suc i))

  pub first_more : (xs : List A) (i : ℕ) (d : A) → i < length xs → lines_from line 0 (take (suc i) xs) ≡ lines_from line 0 (take i xs) ++ line (get_or xs i d) i
  first_more xs i d h = lines_more 0 xs i d h ∙ ap (λ (m : ℕ). lines_from line 0 (take i xs) ++ line (get_or xs i d) m) (zero-add i)
