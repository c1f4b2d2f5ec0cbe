-- A module that grows by one list of elements after another.
use Rattle.std.proofs.Common.{◌≡◌, ℕ, ◌+◌, List, [], ◌∷◌, ◌++◌, refl, sym, ap, ◌∙◌, add-one}
use Rattle.vlog_tree.specs.Form.{ModuleTree}
use Rattle.hw_build.specs.Elements.{Element, with, with_all}
use Rattle.hw_build.specs.Scope.{each}

pub all_append : (d : ModuleTree) (xs ys : List Element) → with_all d (xs ++ ys) ≡ with_all (with_all d xs) ys
all_append d [] ys = refl
all_append d (x ∷ xs) ys = all_append (with d x) xs ys

-- first one list and then another
pub both : (d e f : ModuleTree) (xs ys : List Element) → e ≡ with_all d xs → f ≡ with_all e ys → f ≡ with_all d (xs ++ ys)
both d e f xs ys p q = q ∙ ap (λ m. with_all m ys) p ∙ sym (all_append d xs ys)

pub each_next : {A : Type 0} (f : ℕ → List A) (n : ℕ) → each f (n + 1) ≡ each f n ++ f n
each_next f n = ap (each f) (add-one n)

pub each_step : (d : ModuleTree) (f : ℕ → List Element) (n : ℕ) → with_all d (each f (n + 1)) ≡ with_all (with_all d (each f n)) (f n)
each_step d f n = ap (with_all d) (each_next f n) ∙ all_append d (each f n) (f n)

-- one part more
pub each_more : (d e g : ModuleTree) (f : ℕ → List Element) (n : ℕ) → e ≡ with_all d (each f n) → g ≡ with_all e (f n) → g ≡ with_all d (each f (n + 1))
each_more d e g f n p q = both d e g (each f n) (f n) p q ∙ sym (ap (with_all d) (each_next f n))

-- and of so many the last
pub each_end : (d e : ModuleTree) (f : ℕ → List Element) (n k : ℕ) → n ≡ k → e ≡ with_all d (each f n) → e ≡ with_all d (each f k)
each_end d e f n k h p = p ∙ ap (λ z. with_all d (each f z)) h
