-- Tables of names, as the declarations of a block.
use Rattle.std.proofs.Common.{◌≡◌, ℕ, List, [], ◌∷◌, ◌++◌, Bool, true, false, cond, Some, None, refl, ap, ◌∙◌}
use Rattle.std.specs.Prelude.{Option, Vec, bytes_eq, is_some}
use Rattle.std.specs.Cmp.Lexicographic.{nat_list_eq_equiv}
use Rattle.std.specs.Map.{lookup}
use Rattle.std.specs.declared.alloc.Global.{Global}
use Rattle.indexmap.specs.IndexMap.{insert_entry}
use Rattle.check_scope.specs.declared.entity.Entity.{Entity}
use Rattle.check_scope.specs.Scopes.{declared_in, in_block, AreSound, IsSound}
use Rattle.check_scope.proofs.Scopes.{sound_more}

abbrev same_key : Vec ℕ Global → Vec ℕ Global → Bool
same_key k l = bytes_eq k.items l.items

-- what a table has for a name is what its block declares
pub lookup_is : (x : List ℕ) (es : List (Vec ℕ Global × Entity)) → lookup (λ (k : Vec ℕ Global). bytes_eq x k.items) es ≡ in_block x (declared_in es)
lookup_is x [] = refl
lookup_is x (e ∷ es) =
    ap (λ b. cond b (Some e.1) (lookup (λ (k : Vec ℕ Global). bytes_eq x k.items) es)) (nat_list_eq_equiv.symm x e.0.items)
    ∙ ap (λ o. cond (bytes_eq e.0.items x) (Some e.1) o) (lookup_is x es)

-- a name that is not there yet is declared behind the others
pub declared_last : (k : Vec ℕ Global) (s : Entity) (es : List (Vec ℕ Global × Entity)) → in_block k.items (declared_in es) ≡ None → declared_in (insert_entry same_key es k s) ≡ declared_in es ++ (k.items, s) ∷ []
declared_last k s [] h = refl
declared_last k s (e ∷ es) h = by (bytes_eq e.0.items k.items) (nat_list_eq_equiv.symm k.items e.0.items) (declared_last k s es) h
  where
    by : (b : Bool) → bytes_eq k.items e.0.items ≡ b → (in_block k.items (declared_in es) ≡ None → declared_in (insert_entry same_key es k s) ≡ declared_in es ++ (k.items, s) ∷ []) → cond b (Some e.1) (in_block k.items (declared_in es)) ≡ None → declared_in (cond (bytes_eq k.items e.0.items) ((e.0, s) ∷ es) (e ∷ insert_entry same_key es k s)) ≡ (e.0.items, e.1) ∷ declared_in es ++ (k.items, s) ∷ []
    by true p r q = absurd (cc)
    by false p r q =
        ap (λ b. declared_in (cond b ((e.0, s) ∷ es) (e ∷ insert_entry same_key es k s))) p
        ∙ ap (λ ds. (e.0.items, e.1) ∷ ds) (r q)

pub sound_declared : (k : Vec ℕ Global) (s : Entity) (es : List (Vec ℕ Global × Entity)) → AreSound (declared_in es) → IsSound s → AreSound (declared_in es ++ (k.items, s) ∷ [])
sound_declared k s es h g = sound_more (declared_in es) k.items s h g

pub is_none : (o : Option Entity) → is_some o ≡ false → o ≡ None
is_none None h = refl
is_none (Some s) h = absurd (cc)
