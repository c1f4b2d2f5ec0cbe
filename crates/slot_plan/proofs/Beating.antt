-- Lists of slots neither of which comes after the other, and plans that beat each other, are one.
use Rattle.std.proofs.Common.{◌≡◌, ℕ, ◌<◌, List, [], ◌∷◌, length, refl, ap, ◌∙◌, arith, ⊎_elim}
use Rattle.task_graph.specs.declared.Graph.{Graph}
use Rattle.plan_device.specs.declared.device.Device.{Device}
use Rattle.slot_plan.specs.Least.{NotAfter, Beats}

-- two lists of one length neither of which comes after the other are one
not_after_both : (p q : List ℕ) → length p ≡ length q → NotAfter p q → NotAfter q p → p ≡ q
not_after_both [] [] e a b = refl
not_after_both [] (y ∷ ys) e a b = absurd b
not_after_both (x ∷ xs) [] e a b = absurd a
not_after_both (x ∷ xs) (y ∷ ys) e a b =
    ⊎_elim
    (λ (l : x < y). ⊎_elim
    (λ (k : y < x). absurd (let i : ⊥ = omega arith in i))
    (λ (k : (y ≡ x) × NotAfter ys xs). absurd (let f = k.0 in let i : ⊥ = omega arith in i))
    b)
    (λ (l : (x ≡ y) × NotAfter xs ys). ⊎_elim
    (λ (k : y < x). absurd (let f = l.0 in let i : ⊥ = omega arith in i))
    (λ (k : (y ≡ x) × NotAfter ys xs).
    let rest = not_after_both xs ys (omega arith) l.1 k.1 in
    ap (λ (z : ℕ). z ∷ xs) l.0 ∙ ap (λ (zs : List ℕ). y ∷ zs) rest)
    b)
    a

-- of two lists that beat each other each is the other
pub beat_both : (g : Graph) (d : Device) (p q : List ℕ) → length p ≡ length q → Beats g d p q → Beats g d q p → p ≡ q
beat_both g d p q e a b =
    let x = a.cheap in
    let y = b.cheap in
    not_after_both p q e (a.first (omega arith)) (b.first (omega arith))
