-- Modules at the end of paths.
use Rattle.std.proofs.Common.{◌≡◌, Bool, true, false, ◌<◌, List, [], ◌∷◌, Option, Some, None, length, get_or, drop, cond, refl, ap, arith}
use Rattle.std.proofs.lemmas.Bool.Decides.{nat_tests}
use Rattle.std.specs.Prelude.{◌==◌, bytes_eq}
use Rattle.vlog_tree.specs.declared.tree.Item.{Item}
use Rattle.vlog_tree.specs.declared.tree.Item.TheVariants.{Wire, Reg, Memory, Assign, Always, Instance}
use Rattle.vlog_tree.specs.Form.{ModuleTree}
use Rattle.vlog_tree.specs.Cycle.{Path, and_then, child_of, module_at}
use Rattle.vlog_tree.specs.Table.{Name, module_named}
use Rattle.vlog_tree.proofs.Walks.{opened}
use Rattle.vlog_values.specs.Scopes.{or_else}
use Rattle.vlog_ref_cycle.specs.Sources.{same_path}

choice : {A : Type 0} (b : Bool) (x : A) (o : Option A) → cond b (Some x) o ≡ or_else (cond b (Some x) None) o
choice true x o = refl
choice false x o = refl

-- the child of the first line, or else of the others
pub child_first : (it : Item) (items : List Item) (x : Name) → child_of (it ∷ items) x ≡ or_else (child_of (it ∷ []) x) (child_of items x)
child_first (Instance m i connections) items x = choice (bytes_eq i x) m (child_of items x)
child_first (Wire w y) items x = refl
child_first (Reg w y) items x = refl
child_first (Memory w y n) items x = refl
child_first (Assign y e) items x = refl
child_first (Always b) items x = refl

-- a path from its first name on
pub path_opened : (path : Path) (x : Name) → 0 < length path → x ≡ get_or path 0 x → path ≡ x ∷ drop 1 path
path_opened path x h e = opened path 0 x h e

pub module_inside : (ms : List ModuleTree) (top : ModuleTree) (path : Path) (x : Name) → 0 < length path → x ≡ get_or path 0 x
    → module_at ms top path ≡ and_then (module_at ms top (drop 1 path)) (λ m. and_then (child_of m.items x) (module_named ms))
module_inside ms top path x h e = ap (module_at ms top) (path_opened path x h e)

pub empty_same : (a b : Path) → length a ≡ 0 → (length b == 0) ≡ same_path a b
empty_same [] [] h = refl
empty_same [] (y ∷ ys) h = grind (arith, nat_tests)
empty_same (x ∷ xs) b h = absurd (omega arith)

pub none_same : (a b : Path) → (length a ≡ 0 → ⊥) → length b ≡ 0 → false ≡ same_path a b
none_same [] b h e = absurd (h refl)
none_same (x ∷ xs) [] h e = refl
none_same (x ∷ xs) (y ∷ ys) h e = absurd (omega arith)
