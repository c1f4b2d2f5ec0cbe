-- Ports with their rooms made.
use Rattle.std.proofs.Common.{◌≡◌, ℕ, ◌+◌, ◌-◌, ◌≤◌, List, length, true, false, Some, sym, ap, ◌∙◌, refl, subst, ⊎_elim, arith}
use Rattle.std.specs.Prelude.{slice_index}
use Rattle.std.proofs.lemmas.Bool.{cases_eq}
use Rattle.tapa_syntax.specs.declared.program.End.{End}
use Rattle.tapa_syntax.specs.LeafKinds.{writes_of}
use Rattle.net_core.specs.declared.ports.Ports.{Ports}
use Rattle.net_core.specs.Ports.{waiting, carried, room_at, space_at, port_count, ends_of, Adjusted}
use Rattle.net_core.proofs.Cases.{short_of}
use Rattle.net_core.proofs.Moves.{port_count_is}
use Rattle.net_case.specs.Batch.{WritesAt, KeepsTokens, AreRoomsWhole}

pub kept_none : (a : Ports) → KeepsTokens a a
kept_none a = record { ends = refl; carries = λ p. refl; waits = λ p. refl; spaces = λ p. omega arith }

-- a change of one port's room keeps them too
pub kept_more : (a b c : Ports) (s : ℕ) → KeepsTokens a b → Adjusted b s c → waiting c s ≡ waiting b s → space_at b s ≤ space_at c s → KeepsTokens a c
kept_more a b c s h j w space = record {
  ends = j.ends ∙ h.ends;
  carries = λ p. j.carries p ∙ h.carries p;
  waits = λ p. ⊎_elim (λ (e : p ≡ s). subst (λ q. waiting c q ≡ waiting b q) (sym e) w) (λ (d : p ≡ s → ⊥). j.waits p d) (cases_eq p s) ∙ h.waits p;
  spaces = λ p.
      let more : space_at b p ≤ space_at c p = ⊎_elim (λ (e : p ≡ s). subst (λ q. space_at b q ≤ space_at c q) (sym e) space) (λ (d : p ≡ s → ⊥). j.spaces p d) (cases_eq p s) in
      let first = h.spaces p in
      omega arith;
}

-- the port at s has its room, and the others keep theirs
pub whole_more : (limits : List ℕ) (b c : Ports) (s room : ℕ) → AreRoomsWhole limits s b → Adjusted b s c → room_at c s ≡ room → room ≡ slice_index limits s - length (carried b s) → AreRoomsWhole limits (s + 1) c
whole_more limits b c s room h j e r p l w =
    ⊎_elim
    (λ (q : p ≡ s). subst (λ x. room_at c x ≡ slice_index limits x - length (carried c x)) (sym q) (e ∙ r ∙ ap (λ ts. slice_index limits s - length ts) (sym (j.carries s))))
    (λ (d : p ≡ s → ⊥).
    let before : WritesAt b p = subst (λ (es : List End). writes_of es p ≡ Some true) j.ends w in
    j.rooms p d ∙ h p (omega arith) before ∙ ap (λ ts. slice_index limits p - length ts) (sym (j.carries p)))
    (cases_eq p s)

-- a port that reads has none
pub whole_skip : (limits : List ℕ) (b : Ports) (s : ℕ) → AreRoomsWhole limits s b → (WritesAt b s → ⊥) → AreRoomsWhole limits (s + 1) b
whole_skip limits b s h d p l w = h p (short_of (WritesAt b) s p l d w) w

-- as many ports after a change of one
pub still_many : (b c : Ports) (s : ℕ) → Adjusted b s c → port_count c ≡ port_count b
still_many b c s j =
    let x = port_count_is b in
    let y = port_count_is c in
    let z = ap length j.ends in
    omega arith

-- a port that was asked and does not write
pub not_writing : (b : Ports) (s : ℕ) → writes_of (ends_of b) s ≡ Some false → WritesAt b s → ⊥
not_writing b s h w = let both : Some false ≡ Some true = sym h ∙ w in absurd (cc)
