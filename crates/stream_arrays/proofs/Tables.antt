-- Tables of names, as lists of names with their numbers.
use Rattle.std.proofs.Common.{◌≡◌, ℕ, List, [], ◌∷◌, Bool, true, false, cond, Some, refl, ap, ◌∙◌}
use Rattle.std.specs.Prelude.{Vec, bytes_eq}
use Rattle.std.specs.Cmp.Lexicographic.{nat_list_eq_equiv}
use Rattle.std.specs.Map.{lookup}
use Rattle.std.specs.declared.alloc.Global.{Global}
use Rattle.indexmap.specs.IndexMap.{insert_entry}
use Rattle.stream_arrays.specs.Numbers.{numbering_of, found, numbered}

abbrev same_key : Vec ℕ Global → Vec ℕ Global → Bool
same_key k l = bytes_eq k.items l.items

-- what a table has for a name
pub lookup_is : (x : List ℕ) (es : List (Vec ℕ Global × ℕ)) → lookup (λ (k : Vec ℕ Global). bytes_eq x k.items) es ≡ found (numbering_of es) x
lookup_is x [] = refl
lookup_is x (e ∷ es) =
    ap (λ b. cond b (Some e.1) (lookup (λ (k : Vec ℕ Global). bytes_eq x k.items) es)) (nat_list_eq_equiv.symm x e.0.items)
    ∙ ap (λ o. cond (bytes_eq e.0.items x) (Some e.1) o) (lookup_is x es)

-- a name has another number
pub numbered_is : (k : Vec ℕ Global) (n : ℕ) (es : List (Vec ℕ Global × ℕ)) → numbering_of (insert_entry same_key es k n) ≡ numbered (numbering_of es) k.items n
numbered_is k n [] = refl
numbered_is k n (e ∷ es) = by (bytes_eq e.0.items k.items) (nat_list_eq_equiv.symm k.items e.0.items) (numbered_is k n es)
  where
    by : (b : Bool) → bytes_eq k.items e.0.items ≡ b → numbering_of (insert_entry same_key es k n) ≡ numbered (numbering_of es) k.items n
        → numbering_of (cond (bytes_eq k.items e.0.items) ((e.0, n) ∷ es) (e ∷ insert_entry same_key es k n)) ≡ cond b ((e.0.items, n) ∷ numbering_of es) ((e.0.items, e.1) ∷ numbered (numbering_of es) k.items n)
    by true p r = ap (λ b. numbering_of (cond b ((e.0, n) ∷ es) (e ∷ insert_entry same_key es k n))) p
    by false p r = ap (λ b. numbering_of (cond b ((e.0, n) ∷ es) (e ∷ insert_entry same_key es k n))) p ∙ ap (λ z. (e.0.items, e.1) ∷ z) r
