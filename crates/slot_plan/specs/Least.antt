-- The least plan, and the first of several.
use Rattle.std.specs.Prelude.{◌≡◌, ℕ, ◌<◌, ◌≤◌, ◌⊎◌, List, [], ◌∷◌, ⊤}
use Rattle.task_graph.specs.declared.Graph.{Graph}
use Rattle.plan_device.specs.declared.device.Device.{Device}
use Rattle.slot_plan.specs.Plan.{cost, IsPlanOf}

-- in the order of lists, the first is not after the second
abbrev pub NotAfter : List ℕ → List ℕ → Type 0
NotAfter [] ys = ⊤
NotAfter (x ∷ xs) [] = ⊥
NotAfter (x ∷ xs) (y ∷ ys) = (x < y) ⊎ ((x ≡ y) × NotAfter xs ys)

-- p costs no more than q, and comes no later where it costs the same
pub record Beats (g : Graph) (d : Device) (p q : List ℕ) : Type 0 where
  pub cheap : cost g d p ≤ cost g d q
  pub first : cost g d p ≡ cost g d q → NotAfter p q

-- a plan that beats every plan of which this holds, as it holds of it
pub record IsLeastOf (g : Graph) (d : Device) (P : List ℕ → Type 0) (p : List ℕ) : Type 0 where
  pub plan : IsPlanOf g d p
  pub holds : P p
  pub beats : (q : List ℕ) → IsPlanOf g d q → P q → Beats g d p q

-- no plan of which this holds
abbrev pub HasNoneOf : Graph → Device → (List ℕ → Type 0) → Type 0
HasNoneOf g d P = (q : List ℕ) → IsPlanOf g d q → P q → ⊥

-- a plan that beats every plan
pub record IsLeastPlanOf (g : Graph) (d : Device) (p : List ℕ) : Type 0 where
  pub plan : IsPlanOf g d p
  pub beats : (q : List ℕ) → IsPlanOf g d q → Beats g d p q
