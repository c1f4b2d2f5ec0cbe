-- The machines of the bodies so far.
use Rattle.std.proofs.Common.{◌≡◌, ◌⊎◌, ℕ, zero, suc, List, [], ◌∷◌, ◌++◌, length, Some, inl, inr, refl, sym, ap, subst, ◌∙◌}
use Rattle.std.specs.Prelude.{slice_get}
use Rattle.tapa_syntax.specs.declared.program.Leaf.{Leaf}
use Rattle.task_fsm.specs.declared.machine.Fsm.{Fsm}
use Rattle.task_fsm.specs.Lowered.{IsLowered}

-- each of these machines is that of the body of its number
abbrev pub AreOf : List Leaf → List Fsm → Type 0
AreOf bodies machines = (b : ℕ) (leaf : Leaf) (machine : Fsm) → slice_get bodies b ≡ Some leaf → slice_get machines b ≡ Some machine → IsLowered leaf machine

-- the last of a list with one more, or one of those before
last_or : {A : Type 0} (xs : List A) (x y : A) (k : ℕ) → slice_get (xs ++ x ∷ []) k ≡ Some y → ((k ≡ length xs) × (x ≡ y)) ⊎ (slice_get xs k ≡ Some y)
last_or [] x y zero e = inl (refl, cc)
last_or [] x y (suc k) e = cc
last_or (z ∷ xs) x y zero e = inr e
last_or (z ∷ xs) x y (suc k) e = elim (last_or xs x y k e) [
  | inl t ↦ inl (ap suc t.0, t.1)
  | inr t ↦ inr t
]

pub one_more : (bodies : List Leaf) (machines : List Fsm) (new : List Fsm) (machine : Fsm) → AreOf bodies machines → new ≡ machines ++ machine ∷ [] → ((leaf : Leaf) → slice_get bodies (length machines) ≡ Some leaf → IsLowered leaf machine) → AreOf bodies new
one_more bodies machines new machine are is last b leaf m at_leaf at_machine =
    let e : slice_get (machines ++ machine ∷ []) b ≡ Some m = ap (λ l. slice_get l b) (sym is) ∙ at_machine in
    elim (last_or machines machine m b e) [
      | inl t ↦ subst (IsLowered leaf) t.1 (last leaf (ap (slice_get bodies) (sym t.0) ∙ at_leaf))
      | inr t ↦ are b leaf m at_leaf t
    ]
