-- Modules have one top.
use Rattle.std.proofs.Common.{◌≡◌, ℕ, zero, suc, Bool, true, false, cond, List, [], ◌∷◌, Some, refl, sym, ap, subst, ◌∙◌}
use Rattle.std.specs.Prelude.{◌==◌, filter, slice_get}
use Rattle.vlog_tree.specs.Form.{ModuleTree}
use Rattle.vlog_tree.specs.Table.{times_in}
use Rattle.vlog_tree.specs.V6.{contained_names}
use Rattle.vlog_tree.specs.Refused.{IsDesign}
use Rattle.vlog_design.specs.Designs.{DesignTree}

-- ---- an element that alone passes a test stands at one place

module _ {A : Type 0} (p : A → Bool) where
  abbrev put : Bool → A → List A → List A
  put b x l = cond b (x ∷ l) l

  some_same : (x y : A) → Some x ≡ Some y → x ≡ y
  some_same x y e = cc

  none_first : (b : Bool) (x : A) (l : List A) → put b x l ≡ [] → b ≡ false
  none_first true x l e = absurd cc
  none_first false x l e = refl

  none_behind : (b : Bool) (x : A) (l : List A) → put b x l ≡ [] → l ≡ []
  none_behind true x l e = absurd cc
  none_behind false x l e = e

  one_behind : (b : Bool) (x m : A) (l rest : List A) → b ≡ true → put b x l ≡ m ∷ rest → l ≡ rest
  one_behind true x m l rest t e = cc
  one_behind false x m l rest t e = absurd cc

  none_at : (xs : List A) (m : A) (i : ℕ) → filter p xs ≡ [] → slice_get xs i ≡ Some m → p m ≡ true → ⊥
  none_at [] m i e at t = cc
  none_at (x ∷ xs) m zero e at t = let wrong : p x ≡ false = none_first (p x) x (filter p xs) e in let same : p x ≡ p m = ap p (some_same x m at) in cc
  none_at (x ∷ xs) m (suc i) e at t = none_at xs m i (none_behind (p x) x (filter p xs) e) at t

  passes_of : (b : Bool) (x m : A) (l rest : List A) → p x ≡ b → (l ≡ m ∷ rest → p m ≡ true) → put b x l ≡ m ∷ rest → p m ≡ true
  passes_of true x m l rest is ih e = let first : x ≡ m = cc in sym (ap p first) ∙ is
  passes_of false x m l rest is ih e = ih e

  -- the first that a filter leaves passes
  passes : (xs : List A) (m : A) (rest : List A) → filter p xs ≡ m ∷ rest → p m ≡ true
  passes [] m rest e = absurd cc
  passes (x ∷ xs) m rest e = passes_of (p x) x m (filter p xs) rest refl (passes xs m rest) e

  both_behind : (b : Bool) (x m : A) (xs : List A) (i j : ℕ) → (filter p xs ≡ m ∷ [] → i ≡ j) → put b x (filter p xs) ≡ m ∷ [] → slice_get xs i ≡ Some m → p m ≡ true → i ≡ j
  both_behind true x m xs i j ih e at t = absurd (none_at xs m i (one_behind true x m (filter p xs) [] refl e) at t)
  both_behind false x m xs i j ih e at t = ih e

  one_place : (xs : List A) (m : A) (i j : ℕ) → filter p xs ≡ m ∷ [] → slice_get xs i ≡ Some m → slice_get xs j ≡ Some m → p m ≡ true → i ≡ j
  one_place [] m i j e at there t = absurd cc
  one_place (x ∷ xs) m zero zero e at there t = refl
  one_place (x ∷ xs) m zero (suc j) e at there t = absurd (none_at xs m j (one_behind (p x) x m (filter p xs) [] (ap p (some_same x m at) ∙ t) e) there t)
  one_place (x ∷ xs) m (suc i) zero e at there t = absurd (none_at xs m i (one_behind (p x) x m (filter p xs) [] (ap p (some_same x m there) ∙ t) e) at t)
  one_place (x ∷ xs) m (suc i) (suc j) e at there t = ap suc (both_behind (p x) x m xs i j (λ f. one_place xs m i j f at there t) e at t)

-- ---- designs

one_top : (ms : List ModuleTree) (top other : ℕ) → IsDesign ms top → IsDesign ms other → other ≡ top
one_top ms top other d e =
    let is_root = λ (m : ModuleTree). times_in (contained_names ms) m.name == 0 in
    let here = d.one_top in
    let there = e.one_top in
    let same : there.0 ≡ here.0 = only there.0 here.0 (sym there.2 ∙ here.2) in
    one_place is_root ms here.0 other top here.2 (there.1 ∙ ap (λ (m : ModuleTree). Some m) same) here.1 (passes is_root ms here.0 [] here.2)
  where
    only : (m k : ModuleTree) → m ∷ [] ≡ k ∷ [] → m ≡ k
    only m k e = cc

-- designs of the same modules are one
pub one_design : (d e : DesignTree) → IsDesign d.modules d.top → IsDesign e.modules e.top → e.modules ≡ d.modules → e ≡ d
one_design d e h k same =
    let top = one_top d.modules d.top e.top h (subst (λ (ms : List ModuleTree). IsDesign ms e.top) same k) in
    λ i. record { modules = same i; top = top i }
