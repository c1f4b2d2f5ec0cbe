-- Counts of failures over several looks.
use Rattle.std.proofs.Common.{◌≡◌, ◌≢◌, ◌⊎◌, ◌≤◌, ℕ, List, Bool, true, false, refl, sym, subst, inl, inr, ⊎_elim, arith}
use Rattle.std.specs.Prelude.{min, ◌+◌, ◌-◌, ◌^◌}
use Rattle.std.specs.Str.{bytes_eq}
use Rattle.std.proofs.lemmas.Slice.Eq.{bytes_eq-Decides}
use Rattle.std.proofs.lemmas.Bool.Decides.{not_from_Decides}
use Rattle.tapa_files.specs.Outside.{Rose}
use Rattle.tapa_base.proofs.Tests.{bool_cases, since}

-- a count that rose after a later look rose after an earlier one
pub rose_since : (a b c : ℕ) → a ≤ b → Rose b c → Rose a c
rose_since a b c later h = since (2 ^ 64 - 1) a b c later h

-- two names are one or not
pub one_name : (a b : List ℕ) → (a ≡ b) ⊎ (a ≢ b)
one_name a b =
    ⊎_elim
    (λ (e : bytes_eq a b ≡ true). inl ((bytes_eq-Decides a b).0 e))
    (λ (e : bytes_eq a b ≡ false). inr (not_from_Decides {P = a ≡ b} (bytes_eq a b) (bytes_eq-Decides a b) e))
    (bool_cases (bytes_eq a b))

-- no count falls where one name was asked for
pub later_all : (name : List ℕ) (old new : List ℕ → ℕ) → old name ≤ new name → ((other : List ℕ) → other ≢ name → new other ≡ old other) → (file : List ℕ) → old file ≤ new file
later_all name old new later others file =
    ⊎_elim
    (λ (e : file ≡ name). subst (λ (f : List ℕ). old f ≤ new f) (sym e) later)
    (λ (n : file ≢ name). let same = others file n in omega (arith, same))
    (one_name file name)
