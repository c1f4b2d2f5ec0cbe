-- One more visit of a pass.
use Rattle.std.proofs.Common.{◌≡◌, ℕ, ◌+◌, ◌<◌, ◌≤◌, ◌⊎◌, List, length, Bool, true, Some, subst, inl, inr, ⊎_elim, arith}
use Rattle.std.specs.Prelude.{slice_get}
use Rattle.std.proofs.lemmas.Bool.{cases_lt}
use Rattle.std.proofs.lemmas.Option.{slice_get_within}
use Rattle.net_core.specs.declared.net_state.NetState.{NetState}
use Rattle.net_core.specs.Load.{IsIn}
use Rattle.net_core.specs.Settle.{IsAtRest, Visited}

-- an instance is at rest, or on the new list, or still to be visited
abbrev pub IsCovered : NetState → ℕ → List ℕ → List ℕ → ℕ → ℕ → Type 0
IsCovered net budget now later x j = (IsAtRest net budget j ⊎ IsIn j later) ⊎ ((m : ℕ) × (x ≤ m) × (slice_get now m ≡ Some j))

pub covered_first : (net : NetState) (budget : ℕ) (now later : List ℕ) (j : ℕ) → IsAtRest net budget j ⊎ IsIn j now → IsCovered net budget now later 0 j
covered_first net budget now later j h =
    ⊎_elim (λ (q : IsAtRest net budget j). inl (inl q)) (λ (n : IsIn j now). inr (n.0, omega arith, n.1)) h

pub covered_more : (old new : NetState) (now : List ℕ) (i budget left : ℕ) (later later' : List ℕ) (go : Bool) → Visited old new i budget left later later' go → go ≡ true → (x : ℕ) → slice_get now x ≡ Some i → (j : ℕ) → j < length old.program.instances.items → IsCovered old budget now later x j → IsCovered new budget now later' (x + 1) j
covered_more old new now i budget left later later' go v g x at j l h =
    ⊎_elim
    (λ (q : IsAtRest old budget j ⊎ IsIn j later). inl (v.rest g j l (inr q)))
    (λ (n : (m : ℕ) × (x ≤ m) × (slice_get now m ≡ Some j)).
    let a = n.1 in
    ⊎_elim
    (λ (s : x < n.0). inr (n.0, omega arith, n.2))
    (λ (s : n.0 ≤ x).
    let e : n.0 ≡ x = omega arith in
    let here : slice_get now x ≡ Some j = subst (λ z. slice_get now z ≡ Some j) e n.2 in
    let same : j ≡ i = cc in
    inl (v.rest g j l (inl same)))
    (cases_lt x n.0))
    h

pub covered_last : (net : NetState) (budget : ℕ) (now later : List ℕ) (x j : ℕ) → length now ≤ x → IsCovered net budget now later x j → IsAtRest net budget j ⊎ IsIn j later
covered_last net budget now later x j l h =
    ⊎_elim
    (λ (q : IsAtRest net budget j ⊎ IsIn j later). q)
    (λ (n : (m : ℕ) × (x ≤ m) × (slice_get now m ≡ Some j)). let w = slice_get_within now n.0 j n.2 in let a = n.1 in absurd (omega arith))
    h
