-- Lines of lists that grow.
use Rattle.std.proofs.Common.{◌≡◌, ℕ, suc, ◌+◌, ◌<◌, Bool, true, false, cond, List, [], ◌∷◌, ◌++◌, Some, length, add-zero, zero-add, append-nil, refl, sym, ap, subst, ◌∙◌, append_assoc, arith}
use Rattle.std.specs.Prelude.{slice_get}
use Rattle.tapa_base.specs.Gaps.{Bytes}
use Rattle.vcd_text.specs.Dump.{lines_from}

-- lines of two lists, one behind the other
pub lines_both : {A : Type 0} (line : ℕ → A → Bytes) (k : ℕ) (xs ys : List A) → lines_from line k (xs ++ ys) ≡ lines_from line k xs ++ lines_from line (k + length xs) ys
lines_both line k [] ys = ap (λ (n : ℕ). lines_from line n ys) (sym (add-zero k))
lines_both line k (x ∷ xs) ys =
    let next : suc k + length xs ≡ k + suc (length xs) = omega arith in
    ap (λ (l : Bytes). line k x ++ l) (lines_both line (suc k) xs ys)
    ∙ ap (λ (n : ℕ). line k x ++ (lines_from line (suc k) xs ++ lines_from line n ys)) next
    ∙ sym (append_assoc (line k x) (lines_from line (suc k) xs) (lines_from line (k + suc (length xs)) ys))

-- one more, or none
pub lines_if : {A : Type 0} (line : ℕ → A → Bytes) (xs : List A) (x : A) (b : Bool) → lines_from line 0 (xs ++ cond b (x ∷ []) []) ≡ lines_from line 0 xs ++ cond b (line (length xs) x) []
lines_if line xs x true =
    lines_both line 0 xs (x ∷ []) ∙ ap (λ (n : ℕ). lines_from line 0 xs ++ (line n x ++ [])) (zero-add (length xs)) ∙ ap (λ (l : Bytes). lines_from line 0 xs ++ l) (append-nil (line (length xs) x))
lines_if {A} line xs x false = ap (λ (l : List A). lines_from line 0 l) (append-nil xs) ∙ sym (append-nil (lines_from line 0 xs))

-- lines that are the same one by one
lines_same : {A : Type 0} (f g : ℕ → A → Bytes) (k : ℕ) (xs : List A) → ((i : ℕ) (x : A) → slice_get xs i ≡ Some x → f (k + i) x ≡ g (k + i) x) → lines_from f k xs ≡ lines_from g k xs
lines_same f g k [] h = refl
lines_same {A} f g k (x ∷ xs) h =
    let first : f k x ≡ g k x = subst (λ (m : ℕ). f m x ≡ g m x) (add-zero k) (h 0 x refl) in
    let rest : lines_from f (suc k) xs ≡ lines_from g (suc k) xs =
    lines_same f g (suc k) xs (λ i y at. let next : k + suc i ≡ suc k + i = omega arith in subst (λ (m : ℕ). f m y ≡ g m y) next (h (suc i) y at)) in
    ap (λ (l : Bytes). l ++ lines_from f (suc k) xs) first ∙ ap (λ (l : Bytes). g k x ++ l) rest

pub lines_alike : {A : Type 0} (f g : ℕ → A → Bytes) (xs : List A) → ((i : ℕ) (x : A) → slice_get xs i ≡ Some x → f i x ≡ g i x) → lines_from f 0 xs ≡ lines_from g 0 xs
lines_alike f g xs h = lines_same f g 0 xs (λ i x at. subst (λ (m : ℕ). f m x ≡ g m x) (sym (zero-add i)) (h i x at))
