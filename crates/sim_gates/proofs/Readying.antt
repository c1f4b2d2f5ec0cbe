-- What blocks find on a tape is there.
use Rattle.std.proofs.Common.{◌≡◌, ℕ, zero, suc, ◌<◌, ◌≤◌, Bool, true, false, List, [], ◌∷◌, Option, Some, None, length, get_or, refl, sym, ap, subst, ◌∙◌, map, arith}
use Rattle.std.specs.Prelude.{is_some, reverse, IsSome}
use Rattle.std.specs.List.{AllByRecursion}
use Rattle.std.proofs.lemmas.List.{get_or_past}
use Rattle.vlog_tree.specs.declared.tree.Step.{Step}
use Rattle.vlog_tree.specs.declared.tree.Step.TheVariants.{Else, End}
use Rattle.vlog_tree.specs.declared.table.Declaration.{Declaration}
use Rattle.vlog_tree.specs.Form.{nested}
use Rattle.vlog_tree.specs.Table.{Name, declaration_name}
use Rattle.vlog_tree.specs.Cycle.{and_then}
use Rattle.vlog_scope.specs.NameTable.{places_from}
use Rattle.sim_tape.specs.declared.gates.Pair.{Pair}
use Rattle.sim_gates.specs.Nets.{pair_in}
use Rattle.sim_gates.specs.declared.parts.Part.{Part}
use Rattle.sim_gates.specs.Next.{SamePlaces}
use Rattle.sim_gates.specs.Ready.{elses}

-- a name with a pair has a place, and the pair there
pub has_place : (ds : List Declaration) (pairs : List (Option Pair)) (x : Name) → places_from 0 (map declaration_name ds) x ≡ None → IsSome (pair_in ds pairs x) → ⊥
has_place ds pairs x e h =
    let none : is_some {T = Pair} None ≡ true = ap (λ o. is_some (and_then o (λ (k : ℕ × Bool). get_or pairs k.0 None))) (sym e) ∙ h in
    cc

pub pair_there : (ds : List Declaration) (pairs next : List (Option Pair)) (x : Name) (place : ℕ) (again : Bool) → places_from 0 (map declaration_name ds) x ≡ Some (place, again) → SamePlaces pairs next
    → IsSome (pair_in ds pairs x) → IsSome (get_or next place None)
pair_there ds pairs next x place again e same h =
    same place ∙ sym (ap (λ o. is_some (and_then o (λ (k : ℕ × Bool). get_or pairs k.0 None))) e) ∙ h

pub else_nested : (l : List Bool) (rest : List Step) → nested l (Else ∷ rest) ≡ true → (parts : List Bool) × (l ≡ false ∷ parts) × (nested (true ∷ parts) rest ≡ true)
else_nested [] rest h = cc
else_nested (true ∷ parts) rest h = cc
else_nested (false ∷ parts) rest h = (parts, refl, h)

pub end_nested : (l : List Bool) (rest : List Step) → nested l (End ∷ rest) ≡ true → (b : Bool) × (parts : List Bool) × (l ≡ b ∷ parts) × (nested parts rest ≡ true)
end_nested [] rest h = cc
end_nested (b ∷ parts) rest h = (b, parts, refl, h)

-- none is open
pub none_open : (items : List Part) (b : Bool) (parts : List Bool) → length items ≡ 0 → elses (reverse items) ≡ b ∷ parts → ⊥
none_open [] b parts z e = cc
none_open (p ∷ items) b parts z e = absurd (omega arith)

pub rest_open : (p : Part) (old new : List Part) (b : Bool) (parts : List Bool) → old ≡ p ∷ new → elses old ≡ b ∷ parts → (p.is_else ≡ b) × (elses new ≡ parts)
rest_open p old new b parts e f =
    let g : p.is_else ∷ elses new ≡ b ∷ parts = ap elses (sym e) ∙ f in
    ((let h : p.is_else ≡ b = cc in h), (let h : elses new ≡ parts = cc in h))

pub all_by : {A : Type 0} (P : A → Type 0) (xs : List A) (i : ℕ) (x : A) → i < length xs → x ≡ get_or xs i x → AllByRecursion P xs → P x
all_by P [] i x low is h = absurd (omega arith)
all_by P (y ∷ ys) zero x low is h = subst P (sym is) h.0
all_by P (y ∷ ys) (suc i) x low is h = all_by P ys i x (omega arith) is h.1

pub past_some : (pairs : List (Option Pair)) (i : ℕ) → length pairs ≤ i → IsSome (get_or pairs i None) → ⊥
past_some pairs i past h =
    let none : is_some {T = Pair} None ≡ true = ap is_some (sym (get_or_past pairs i None past)) ∙ h in
    cc
