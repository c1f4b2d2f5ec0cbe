-- The atoms of the first states.
use Rattle.std.proofs.Common.{◌≡◌, ℕ, zero, suc, ◌+◌, ◌<◌, List, [], ◌∷◌, ◌++◌, length, get_or, map, refl, sym, ap, ◌∙◌, arith, ⊎_elim}
use Rattle.std.proofs.lemmas.Bool.{cases_eq}
use Rattle.std.proofs.lemmas.List.{get_or-map, get_or_push, get_or_append_left, length_push, map_push}
use Rattle.vlog_tree.specs.declared.tree.Atom.{Atom}
use Rattle.hw_build.specs.Scope.{each}
use Rattle.hw_lines.specs.Shape.{Shape}
use Rattle.hw_lines.specs.States.{index_wires, value_wires}
use Rattle.hw_nets.proofs.Grows.{each_next}
use Rattle.hw_states.specs.declared.operands.Operands.{Operands}
use Rattle.hw_states.specs.Operands.{atoms_of, atoms_at, IsOperands, AreOperands}

pub each_length : {A : Type 0} (f : ℕ → A) (n : ℕ) → length (each (λ k. f k ∷ []) n) ≡ n
each_length f zero = refl
each_length f (suc n) = let e = length_push (each (λ k. f k ∷ []) n) (f n) in let h : length (each (λ k. f k ∷ []) n) ≡ n = each_length f n in e ∙ omega (arith, h)

pub each_at : {A : Type 0} (f : ℕ → A) (n k : ℕ) (d : A) → k < n → get_or (each (λ k. f k ∷ []) n) k d ≡ f k
each_at f zero k d h = absurd (omega arith)
each_at f (suc n) k d h =
    let s : length (each (λ k. f k ∷ []) n) ≡ n = each_length f n in
    ⊎_elim
    (λ e. get_or_push (each (λ k. f k ∷ []) n) (f n) d k (s ∙ sym e) ∙ ap f (sym e))
    (λ e. get_or_append_left (each (λ k. f k ∷ []) n) (f n ∷ []) d k (omega (arith, s, h, e)) ∙ each_at f n k d (omega (arith, h, e)))
    (cases_eq k n)

-- the atoms of state k
pair : Shape → ℕ → Atom × Atom
pair S k = ((index_wires S k).atom, (value_wires S k).atom)

lengths : (operands : List Operands) → length (map atoms_of operands) ≡ length operands
lengths [] = refl
lengths (o ∷ operands) = ap suc (lengths operands)

pub operands_count : (S : Shape) (operands : List Operands) (n : ℕ) → AreOperands S operands n → length operands ≡ n
unfolding pair
operands_count S operands n h = sym (lengths operands) ∙ ap length h.atoms ∙ each_length (pair S) n

pub operands_more : (S : Shape) (operands : List Operands) (o : Operands) (k : ℕ) → AreOperands S operands k → IsOperands S k o → AreOperands S (operands ++ o ∷ []) (k + 1)
operands_more S operands o k h is = record {
  atoms =
      map_push atoms_of operands o ∙ ap (λ zs. zs ++ (o.index, o.value) ∷ []) h.atoms ∙ ap (λ i. each (atoms_at S) k ++ (i, o.value) ∷ []) is.index
      ∙ ap (λ v. each (atoms_at S) k ++ ((index_wires S k).atom, v) ∷ []) is.value ∙ sym (each_next (atoms_at S) k);
}

pub operand_at : (S : Shape) (operands : List Operands) (n k : ℕ) (o : Operands) → AreOperands S operands n → k < n → o ≡ get_or operands k o → IsOperands S k o
unfolding pair
operand_at S operands n k o h l e =
    let c : length operands ≡ n = operands_count S operands n h in
    let p : atoms_of o ≡ pair S k =
    ap atoms_of e ∙ sym (get_or-map atoms_of operands k o (atoms_of o) (omega (arith, c, l))) ∙ ap (λ zs. get_or zs k (atoms_of o)) h.atoms ∙ each_at (pair S) n k (atoms_of o) l in
    record { index = ap (λ (q : Atom × Atom). q.0) p; value = ap (λ (q : Atom × Atom). q.1) p }
