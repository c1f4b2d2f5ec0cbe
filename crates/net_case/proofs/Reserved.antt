-- What the loop over the ports of all instances keeps while it reserves space in them.
use Rattle.std.proofs.Common.{◌≡◌, ℕ, ◌+◌, ◌*◌, ◌<◌, ◌≤◌, List, length, Some, sym, ◌∙◌, subst, ⊎_elim, arith}
use Rattle.std.specs.Prelude.{slice_get, slice_set}
use Rattle.std.proofs.lemmas.Bool.{cases_eq}
use Rattle.tapa_syntax.specs.declared.program.Program.{Program}
use Rattle.net_core.specs.declared.ports.Ports.{Ports}
use Rattle.net_core.specs.Ports.{space_at}
use Rattle.net_core.specs.Bindings.{stream_at, depth_of, Reads}
use Rattle.net_core.proofs.Moves.{get_set_same, get_set_other}
use Rattle.net_case.specs.Make.{HaveSameTokens}

pub same_twice : (a b c : Ports) → HaveSameTokens a b → HaveSameTokens b c → HaveSameTokens a c
same_twice a b c r s = record {
  ends = s.ends ∙ r.ends;
  carries = λ p. s.carries p ∙ r.carries p;
  waits_same = λ p. s.waits_same p ∙ r.waits_same p;
}

-- the ports of one instance are replaced
module _ (all : List Ports) (n : ℕ) (q r : Ports) (inside : n < length all) (at : slice_get all n ≡ Some q) where
  here : slice_get (slice_set all n r) n ≡ Some r
  here = get_set_same all n r inside

  is_here : (j : ℕ) (y : Ports) → j ≡ n → slice_get (slice_set all n r) j ≡ Some y → r ≡ y
  is_here j y e g = let z = sym here ∙ subst (λ m. slice_get (slice_set all n r) m ≡ Some y) e g in cc

  is_other : (j : ℕ) (y : Ports) → (j ≡ n → ⊥) → slice_get (slice_set all n r) j ≡ Some y → slice_get all j ≡ Some y
  is_other j y d g = sym (get_set_other all n j r (λ e. d (sym e))) ∙ g

  pub kept_more : (first : List Ports) → ((j : ℕ) (x y : Ports) → slice_get first j ≡ Some x → slice_get all j ≡ Some y → HaveSameTokens x y) → HaveSameTokens q r → (j : ℕ) (x y : Ports) → slice_get first j ≡ Some x → slice_get (slice_set all n r) j ≡ Some y → HaveSameTokens x y
  kept_more first kept same j x y e g =
      ⊎_elim
      (λ (w : j ≡ n).
      subst (HaveSameTokens x) (is_here j y w g)
      (same_twice x q r (kept j x q e (subst (λ m. slice_get all m ≡ Some q) (sym w) at)) same))
      (λ (d : j ≡ n → ⊥). kept j x y e (is_other j y d g))
      (cases_eq j n)

  pub spaces_more : (program : Program) → ((j : ℕ) (x : Ports) → j < n → slice_get all j ≡ Some x → (p : ℕ) → Reads program j p → 2 * depth_of program (stream_at program j p) ≤ space_at x p) → ((p : ℕ) → Reads program n p → 2 * depth_of program (stream_at program n p) ≤ space_at r p) → (j : ℕ) (x : Ports) → j < n + 1 → slice_get (slice_set all n r) j ≡ Some x → (p : ℕ) → Reads program j p → 2 * depth_of program (stream_at program j p) ≤ space_at x p
  spaces_more program before now j x l g p d =
      ⊎_elim
      (λ (w : j ≡ n).
      subst (λ z. 2 * depth_of program (stream_at program j p) ≤ space_at z p) (is_here j x w g)
      (subst (λ m. 2 * depth_of program (stream_at program m p) ≤ space_at r p) (sym w) (now p (subst (λ m. Reads program m p) w d))))
      (λ (o : j ≡ n → ⊥). before j x (omega arith) (is_other j x o g) p d)
      (cases_eq j n)
