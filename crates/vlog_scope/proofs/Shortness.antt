-- Steps on a chain, and where it ends.
use Rattle.std.proofs.Common.{◌≡◌, ℕ, zero, suc, ◌<◌, ◌≤◌, false, List, [], ◌∷◌, length, get_or, refl, sym, ap, ◌∙◌, arith}
use Rattle.std.specs.Prelude.{nat_lt}
use Rattle.std.proofs.lemmas.Bool.Decides.{nat_tests}
use Rattle.std.proofs.lemmas.List.{get_or_default}
use Rattle.vlog_scope.specs.Chains.{further, longest, IsShort}
use Rattle.tapa_base.proofs.Tests.{ge_of as at_most}

past : (nexts : List ℕ) (p d : ℕ) → length nexts ≤ p → get_or nexts p d ≡ d
past [] p d high = refl
past (n ∷ nexts) zero d high = absurd (omega arith)
past (n ∷ nexts) (suc p) d high = past nexts p d (omega arith)

-- past the last place no step leads on
pub stays : (nexts : List ℕ) (n p : ℕ) → length nexts ≤ p → further nexts n p ≡ p
unfolding further
stays nexts zero p high = refl
stays nexts (suc n) p high = ap (λ q. further nexts n q) (past nexts p p high) ∙ stays nexts n p high

pub no_step : (nexts : List ℕ) (n p : ℕ) → n ≡ 0 → further nexts n p ≡ p
unfolding further
no_step nexts n p e = ap (λ k. further nexts k p) e

pub stepped : (nexts : List ℕ) (n rest p : ℕ) → n ≡ suc rest → p < length nexts → further nexts rest (get_or nexts p 0) ≡ further nexts n p
unfolding further
stepped nexts n rest p e low = ap (λ q. further nexts rest q) (sym (get_or_default nexts p p 0 low)) ∙ sym (ap (λ k. further nexts k p) e)

pub short_of : (nexts : List ℕ) (head : ℕ) → nat_lt (further nexts longest head) (length nexts) ≡ false → IsShort nexts head
unfolding IsShort
short_of nexts head e = at_most (further nexts longest head) (length nexts) e
