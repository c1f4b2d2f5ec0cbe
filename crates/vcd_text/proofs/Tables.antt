-- Nets that are found by their names.
use Rattle.tapa_base.proofs.Got.{the_same}
use Rattle.std.proofs.Common.{◌≡◌, ◌⊎◌, ℕ, zero, suc, ◌<◌, Bool, true, false, cond, inl, inr, List, [], ◌∷◌, ◌++◌, map, refl, sym, ap, subst, ◌∙◌, arith}
use Rattle.std.specs.Prelude.{Vec, Some, bytes_eq, slice_get, not, ◌||◌}
use Rattle.std.specs.Bool.{MatchBool}
use Rattle.std.specs.List.{list_all, list_any}
use Rattle.std.specs.Str.{IsAscii}
use Rattle.std.specs.declared.alloc.Global.{Global}
use Rattle.std.proofs.lemmas.List.{map-append}
use Rattle.std.proofs.lemmas.Option.{none-some}
use Rattle.std.proofs.lemmas.Slice.Eq.{bytes_eq-Decides}
use Rattle.indexmap.specs.IndexSet.{insert_key}
use Rattle.tapa_base.specs.declared.shape.Port.{Port}
use Rattle.vlog_tree.specs.Names.{IsName, starts_name, goes_on}
use Rattle.vlog_tree.specs.Table.{Name}
use Rattle.vcd_text.specs.Head.{IsFree}
use Rattle.vcd_text.specs.Table.{AreNamed}
use Rattle.vcd_text.proofs.Common.{not_both}
use Rattle.vcd_text.proofs.Names.{started, name_parts, no_name}
use Rattle.tapa_base.proofs.Tests.{bool_cases as yes_or_no, both_true as both}

-- ---- names are ASCII

low : (b : ℕ) → goes_on b ≡ true → b < 128
unfolding goes_on starts_name
low b h = grind arith

all_low : (w : List ℕ) → list_all goes_on w ≡ true → IsAscii w
all_low [] h i = omega arith
all_low (b ∷ w) h zero = low b (both (goes_on b) (list_all goes_on w) h).0
all_low (b ∷ w) h (suc i) = all_low w (both (goes_on b) (list_all goes_on w) h).1 i

pub name_ascii : (w : List ℕ) → IsName w → IsAscii w
name_ascii [] h i = absurd (no_name h)
name_ascii (b ∷ w) h zero = low b (started b (name_parts b w h).0)
name_ascii (b ∷ w) h (suc i) = all_low w (name_parts b w h).1 i

-- ---- a name among those of nets

abbrev Names : Type 0
Names = List (Vec ℕ Global)

abbrev is_name_of : Name → Vec ℕ Global → Bool
is_name_of x k = bytes_eq x k.items

first_name : {a b : Name} {xs ys : List Name} → a ∷ xs ≡ b ∷ ys → a ≡ b
first_name e = cc

more_names : {a b : Name} {xs ys : List Name} → a ∷ xs ≡ b ∷ ys → xs ≡ ys
more_names e = cc

-- no net has a name that is not found
none_has : (nets : List Port) (names : Names) (x : Name) → AreNamed nets names → list_any (is_name_of x) names ≡ false → IsFree nets x
none_has [] names x e h i p at same = absurd (none-some p at)
none_has (q ∷ nets) [] x e h i p at same = cc e
none_has (q ∷ nets) (k ∷ names) x e h i p at same = by (yes_or_no (bytes_eq x k.items)) (λ f j there. none_has nets names x (more_names e) (rest f) j p there same) i at
  where
    rest : bytes_eq x k.items ≡ false → list_any (is_name_of x) names ≡ false
    rest f = sym (ap (λ (b : Bool). b || list_any (is_name_of x) names) f) ∙ h

    here : bytes_eq x k.items ≡ true → list_any (is_name_of x) (k ∷ names) ≡ true
    here t = ap (λ (b : Bool). b || list_any (is_name_of x) names) t

    by : (bytes_eq x k.items ≡ true) ⊎ (bytes_eq x k.items ≡ false) → (bytes_eq x k.items ≡ false → (j : ℕ) → slice_get nets j ≡ Some p → ⊥) → (i : ℕ) → slice_get (q ∷ nets) i ≡ Some p → ⊥
    by (inl t) later i at = not_both (list_any (is_name_of x) (k ∷ names)) (here t) h
    by (inr f) later zero at = not_both (bytes_eq x k.items) ((bytes_eq-Decides x k.items).1 (sym same ∙ ap (λ (r : Port). r.name) (sym (the_same q p at)) ∙ sym (first_name e))) f
    by (inr f) later (suc i) at = later f i at

-- some net has a name that is found
some_has : (nets : List Port) (names : Names) (x : Name) → AreNamed nets names → list_any (is_name_of x) names ≡ true → IsFree nets x → ⊥
some_has nets [] x e h free = not_both false h refl
some_has [] (k ∷ names) x e h free = cc e
some_has (q ∷ nets) (k ∷ names) x e h free = elim (yes_or_no (bytes_eq x k.items)) [
  | inl t ↦ free 0 q refl (sym (first_name e) ∙ sym ((bytes_eq-Decides x k.items).0 t))
  | inr f ↦ some_has nets names x (more_names e) (sym (ap (λ (b : Bool). b || list_any (is_name_of x) names) f) ∙ h) (λ i p at same. free (suc i) p at same)
]

pub free_or_not : (nets : List Port) (names : Names) (x : Name) → AreNamed nets names → MatchBool (not (list_any (λ (k : Vec ℕ Global). bytes_eq x k.items) names)) (IsFree nets x) (IsFree nets x → ⊥)
free_or_not nets names x e = by (list_any (is_name_of x) names) refl
  where
    by : (t : Bool) → list_any (is_name_of x) names ≡ t → MatchBool (not t) (IsFree nets x) (IsFree nets x → ⊥)
    by true h = some_has nets names x e h
    by false h = none_has nets names x e h

-- ---- one net more

absent : (nets : List Port) (names : Names) (x : Name) → AreNamed nets names → IsFree nets x → list_any (is_name_of x) names ≡ false
absent nets names x e free = elim (yes_or_no (list_any (is_name_of x) names)) [
  | inl t ↦ absurd (some_has nets names x e t free)
  | inr f ↦ f
]

pub named_more : (nets : List Port) (names : Names) (k : Vec ℕ Global) (p : Port) → AreNamed nets names → k.items ≡ p.name → IsFree nets p.name → AreNamed (nets ++ p ∷ []) (insert_key (λ (a b : Vec ℕ Global). bytes_eq a.items b.items) names k)
named_more nets names k p e same free =
    let none : list_any (is_name_of k.items) names ≡ false = absent nets names k.items e (subst (IsFree nets) (sym same) free) in
    ap (λ (b : Bool). map (λ (j : Vec ℕ Global). j.items) (cond b names (names ++ k ∷ []))) none
    ∙ map-append (λ (j : Vec ℕ Global). j.items) names (k ∷ [])
    ∙ ap (λ (l : List Name). l ++ k.items ∷ []) e
    ∙ ap (λ (n : Name). map (λ (q : Port). q.name) nets ++ n ∷ []) same
    ∙ sym (map-append (λ (q : Port). q.name) nets (p ∷ []))
