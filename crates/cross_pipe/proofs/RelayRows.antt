-- Relays that are made of others.
use Rattle.std.proofs.Common.{◌≡◌, ℕ, ◌/◌, ◌%◌, ◌<◌, List, [], ◌∷◌, ◌++◌, cond, sym, ap, ◌∙◌, append_assoc}
use Rattle.std.proofs.lemmas.Bool.{eq-eqb, ne_eqb}
use Rattle.vlog_tree.specs.Form.{ModuleTree}
use Rattle.hw_channel_lines.specs.Texts.{step_tree, even_tree, odd_tree, row_tree, AreRelays, One, More}

pub even_is : (bits steps : ℕ) → steps % 2 ≡ 0 → even_tree bits steps (steps / 2) ≡ row_tree bits steps
even_is bits steps e = sym (ap (λ b. cond b (even_tree bits steps (steps / 2)) (odd_tree bits steps (steps / 2))) (eq-eqb (steps % 2) 0 e))

pub odd_is : (bits steps : ℕ) → (steps % 2 ≡ 0 → ⊥) → odd_tree bits steps (steps / 2) ≡ row_tree bits steps
odd_is bits steps e = sym (ap (λ b. cond b (even_tree bits steps (steps / 2)) (odd_tree bits steps (steps / 2))) (ne_eqb (steps % 2) 0 e))

-- a relay of one step, added at the end
pub one_added : (bits steps : ℕ) (old new : List ModuleTree) (m : ModuleTree) → steps ≡ 1 → m ≡ step_tree bits → new ≡ old ++ m ∷ [] → (xs : List ModuleTree) × (new ≡ old ++ xs) × AreRelays bits steps xs
one_added bits steps old new m e is f = (step_tree bits ∷ [], f ∙ ap (λ x. old ++ x ∷ []) is, One steps e)

-- one of more steps, added before those that it is made of
pub more_added : (bits steps : ℕ) (old between new : List ModuleTree) (m : ModuleTree) → 1 < steps → m ≡ row_tree bits steps → between ≡ old ++ m ∷ [] → (xs : List ModuleTree) × (new ≡ between ++ xs) × AreRelays bits (steps / 2) xs → (xs : List ModuleTree) × (new ≡ old ++ xs) × AreRelays bits steps xs
more_added bits steps old between new m l is f t =
    (row_tree bits steps ∷ t.0, t.1 ∙ ap (λ k. k ++ t.0) (f ∙ ap (λ x. old ++ x ∷ []) is) ∙ append_assoc old (row_tree bits steps ∷ []) t.0, More steps t.0 l t.2)
