-- Modules of which none contains itself have one that no other contains.
use Rattle.std.proofs.Common.{◌≡◌, ℕ, zero, suc, ◌+◌, ◌≤◌, Bool, true, false, cond, List, [], ◌∷◌, ◌++◌, length, map, Some, None, inl, inr, refl, sym, ap, subst, ◌∙◌, arith}
use Rattle.std.specs.Prelude.{◌⊎◌, ◌==◌, ◌&&◌, bytes_eq, filter, slice_get, not}
use Rattle.std.specs.List.{flat_map}
use Rattle.std.specs.Option.{option_map_or}
use Rattle.std.specs.Cmp.Lexicographic.{bytes_decides}
use Rattle.std.proofs.lemmas.Bool.{eqb-true}
use Rattle.std.proofs.lemmas.List.{length-map}
use Rattle.std.proofs.lemmas.List.Sums.{sum_by-cons}
use Rattle.tapa_base.specs.Lists.{Has, one, more}
use Rattle.vlog_tree.specs.Form.{ModuleTree}
use Rattle.vlog_tree.specs.Table.{Name, NameUse, clk, first_violation, port_declared, times_in}
use Rattle.vlog_tree.specs.Labels.{rst, done}
use Rattle.vlog_tree.specs.V6.{module_children, contained_names, roots, first_name, is_top, has_port, top_ports, clock_connections, is_whole_top, module_tops, v6_uses}
use Rattle.vlog_tree.specs.Loops.{Reaches, own_containment, containment, own_places, IsLoopless}
use Rattle.tapa_base.proofs.Lists.{has_flat, of_flat, has_map}
use Rattle.tapa_base.proofs.Tests.{zero_left as none_more}

-- a name that stands at least once
counted_of : (y : Name) (names : List Name) (x : Name) (b : Bool) → bytes_eq y x ≡ b → ((times_in names x == 0) ≡ false → Has names x) → ((cond b 1 0 + times_in names x) == 0) ≡ false → Has (y ∷ names) x
counted_of y names x true e ih h = inl ((bytes_decides y x).0 e)
counted_of y names x false e ih h = inr (ih (sym (ap (λ n. n == 0) (none_more (times_in names x))) ∙ h))

counted : (names : List Name) (x : Name) → (times_in names x == 0) ≡ false → Has names x
counted [] x h = cc
counted (y ∷ names) x h = counted_of y names x _ refl (counted names x) (sym (ap (λ n. n == 0) (sum_by-cons (λ (y : Name). cond (bytes_eq y x) 1 0) y names)) ∙ h)

-- what a filter leaves out
left_of : {A : Type 0} (p : A → Bool) (x y : A) (xs : List A) (b : Bool) → p x ≡ b → (filter p xs ≡ [] → Has xs y → p y ≡ false) → cond b (x ∷ filter p xs) (filter p xs) ≡ [] → (x ≡ y) ⊎ Has xs y → p y ≡ false
left_of p x y xs true e ih h has = cc
left_of p x y xs false e ih h (inl same) = ap p (sym same) ∙ e
left_of p x y xs false e ih h (inr has) = ih h has

left_out : {A : Type 0} (p : A → Bool) (xs : List A) (y : A) → filter p xs ≡ [] → Has xs y → p y ≡ false
left_out p [] y h has = absurd has
left_out p (x ∷ xs) y h has = left_of p x y xs (p x) refl (left_out p xs y) h has

-- one name taken out of a list
pub record Without (left : List Name) (x : Name) : Type 0 where
  pub rest : List Name
  pub len : length left ≡ suc (length rest)
  pub others : (y : Name) → Has left y → Has rest y ⊎ (y ≡ x)

without_of : (z : Name) (left : List Name) (x : Name) → (Has left x → Without left x) → (z ≡ x) ⊎ Has left x → Without (z ∷ left) x
without_of z left x ih (inl e) = record { rest = left; len = refl; others = λ y h. elim h [ inl s ↦ inr (sym s ∙ e) | inr k ↦ inl k ] }
without_of z left x ih (inr h) =
    let w : Without left x = ih h in
    record {
      rest = z ∷ w.rest;
      len = ap suc w.len;
      others = λ y k. elim k [ inl s ↦ inl (inl s) | inr t ↦ (elim (w.others y t) [ inl r ↦ inl (inr r) | inr e ↦ inr e ]) ];
    }

without : (left : List Name) (x : Name) → Has left x → Without left x
without [] x h = absurd h
without (z ∷ left) x h = without_of z left x (without left x) h

module _ (ms : List ModuleTree) (loopless : (m : ModuleTree) → Has ms m → Reaches (containment ms) m.name m.name → ⊥)
    (outer : (m : ModuleTree) → Has ms m → (k : ModuleTree) × Has ms k × Has (containment ms) (k.name, m.name)) where
  abbrev Covers : List Name → ModuleTree → Type 0
  Covers left h = (m : ModuleTree) → Has ms m → Has left m.name ⊎ ((m.name ≡ h.name) ⊎ Reaches (containment ms) h.name m.name)

  next : (left : List Name) (h k : ModuleTree) → Has ms k → Has (containment ms) (k.name, h.name) → (Without left k.name → ⊥)
      → Has left k.name ⊎ ((k.name ≡ h.name) ⊎ Reaches (containment ms) h.name k.name) → ⊥
  next left h k has step go (inl l) = go (without left k.name l)
  next left h k has step go (inr (inl e)) = loopless k has (one (subst (λ x. Has (containment ms) (k.name, x)) (sym e) step))
  next left h k has step go (inr (inr r)) = loopless k has (more h.name step r)

  covers : (left : List Name) (h k : ModuleTree) → Has (containment ms) (k.name, h.name) → (w : Without left k.name) → Covers left h → Covers w.rest k
  covers left h k step w cover m hm =
      elim (cover m hm) [
        | inl t ↦ (elim (w.others m.name t) [ inl r ↦ inl r | inr e ↦ inr (inl e) ])
        | inr p ↦ inr (inr (elim p [
          | inl e ↦ one (subst (λ x. Has (containment ms) (k.name, x)) (sym e) step)
          | inr r ↦ more h.name step r
        ]))
      ]

  -- what is not left is contained in h, so the next outer module is one that is left
  chase : (fuel : ℕ) (left : List Name) → length left ≤ fuel → (h : ModuleTree) → Has ms h → Covers left h → ⊥
  chase zero left le h hh cover =
      let p = outer h hh in
      next left h p.0 p.1 p.2 (λ w. absurd (omega (arith, w.len))) (cover p.0 p.1)
  chase (suc fuel) left le h hh cover =
      let p = outer h hh in
      next left h p.0 p.1 p.2 (λ w. chase fuel w.rest (omega (arith, w.len)) p.0 p.1 (covers left h p.0 p.2 w cover)) (cover p.0 p.1)

  pub no_module : (m : ModuleTree) → Has ms m → ⊥
  no_module m h = chase (length ms) (map (λ (k : ModuleTree). k.name) ms) (let e = length-map ms (λ (k : ModuleTree). k.name) in omega (arith, e)) m h (λ k hk. inl (has_map (λ (k : ModuleTree). k.name) ms k hk))

child_edge : (k : ModuleTree) (x : Name) → Has (module_children k) x → Has (own_containment k) (k.name, x)
unfolding own_containment
child_edge k x h = has_map (λ (y : Name). (k.name, y)) (module_children k) x h

outer_of : (ms : List ModuleTree) → roots ms ≡ [] → (m : ModuleTree) → Has ms m → (k : ModuleTree) × Has ms k × Has (containment ms) (k.name, m.name)
outer_of ms none m h =
    let inner : Has (contained_names ms) m.name = counted (contained_names ms) m.name (left_out (λ (k : ModuleTree). times_in (contained_names ms) k.name == 0) ms m none h) in
    let t = of_flat module_children ms m.name inner in
    (t.0, t.1, has_flat own_containment ms t.0 (t.0.name, m.name) t.1 (child_edge t.0 m.name t.2))

-- a module's name on no loop is in no module that it contains
flat : (ms : List ModuleTree) (t : Name → Bool) → IsLoopless ms t → (m : ModuleTree) → Has ms m → Reaches (containment ms) m.name m.name → ⊥
flat ms t loopless m h r = loopless (m.name, None) (has_flat own_places ms m (m.name, None) h (inl refl)) r

pub has_root : (ms : List ModuleTree) (t : Name → Bool) → IsLoopless ms t → (m : ModuleTree) → Has ms m → roots ms ≡ [] → ⊥
has_root ms t loopless m h none = no_module ms (flat ms t loopless) (outer_of ms none) m h

-- where nothing is wrong in a text, nothing is in a part of it
none_cons : (b : Bool) (x : Name) (us vs : List NameUse) → (first_violation (us ++ vs) ≡ None → (first_violation us ≡ None) × (first_violation vs ≡ None))
    → cond b (Some x) (first_violation (us ++ vs)) ≡ None → (cond b (Some x) (first_violation us) ≡ None) × (first_violation vs ≡ None)
none_cons true x us vs ih e = cc
none_cons false x us vs ih e = ih e

none_of : (us vs : List NameUse) → first_violation (us ++ vs) ≡ None → (first_violation us ≡ None) × (first_violation vs ≡ None)
none_of [] vs e = (refl, e)
none_of (u ∷ us) vs e = none_cons u.1 u.0 us vs (none_of us vs) e

none_all : {A : Type 0} (f : A → List NameUse) (xs : List A) (x : A) → first_violation (flat_map f xs) ≡ None → Has xs x → first_violation (f x) ≡ None
none_all f [] x e h = absurd h
none_all f (y ∷ ys) x e (inl s) = ap (λ z. first_violation (f z)) (sym s) ∙ (none_of (f y) (flat_map f ys) e).0
none_all f (y ∷ ys) x e (inr h) = none_all f ys x (none_of (f y) (flat_map f ys) e).1 h

not_wrong : (b : Bool) (x : Name) (us : List NameUse) → first_violation ((x, b) ∷ us) ≡ None → b ≡ false
not_wrong true x us e = cc
not_wrong false x us e = refl

then_whole : (top whole : Bool) → (top && not whole) ≡ false → top ≡ true → whole ≡ true
then_whole true true e t = refl
then_whole true false e t = cc
then_whole false whole e t = cc

first_of_four : (a b c d : Bool) → (a && b && c && d) ≡ true → a ≡ true
first_of_four true b c d e = refl
first_of_four false b c d e = cc

filtered_of : {A : Type 0} (p : A → Bool) (x y : A) (xs : List A) (b : Bool) → (Has (filter p xs) y → Has xs y) → Has (cond b (x ∷ filter p xs) (filter p xs)) y → (x ≡ y) ⊎ Has xs y
filtered_of p x y xs true ih (inl e) = inl e
filtered_of p x y xs true ih (inr h) = inr (ih h)
filtered_of p x y xs false ih h = inr (ih h)

filtered : {A : Type 0} (p : A → Bool) (xs : List A) (y : A) → Has (filter p xs) y → Has xs y
filtered p [] y h = h
filtered p (x ∷ xs) y h = filtered_of p x y xs (p x) (filtered p xs y) h

top_named : (ms : List ModuleTree) (m : ModuleTree) (rest : List ModuleTree) → roots ms ≡ m ∷ rest → is_top ms m.name ≡ true
top_named ms m rest e = ap (λ (l : List ModuleTree). option_map_or (λ y. bytes_eq y m.name) (first_name l) false) e ∙ (bytes_decides m.name m.name).1 refl

whole_top : (ms : List ModuleTree) (m : ModuleTree) → first_violation (module_tops ms m) ≡ None → is_top ms m.name ≡ true → (length (roots ms) == 1) ≡ true
unfolding module_tops is_whole_top
whole_top ms m e t =
    let ports = map port_declared m.ports in
    let others = cond (is_top ms m.name) (top_ports ports [] m.ports) [] ++ flat_map clock_connections m.items in
    let wrong = is_top ms m.name && not (is_whole_top ms ports) in
    let whole = then_whole (is_top ms m.name) (is_whole_top ms ports) (not_wrong wrong m.name others e) t in
    first_of_four (length (roots ms) == 1) (has_port ports clk) (has_port ports rst) (has_port ports done) whole

empty_rest : (m : ModuleTree) (rest : List ModuleTree) → (length (m ∷ rest) == 1) ≡ true → m ∷ rest ≡ m ∷ []
empty_rest m [] e = refl
empty_rest m (k ∷ rest) e = let one : length (m ∷ k ∷ rest) ≡ 1 = eqb-true (length (m ∷ k ∷ rest)) 1 e in absurd (omega (arith, one))

-- the only root, at its place
module _ (ms : List ModuleTree) (loopless : IsLoopless ms (is_top ms)) (outside : first_violation (v6_uses ms) ≡ None) (place : ℕ)
    (found : (m : ModuleTree) (rest : List ModuleTree) → roots ms ≡ m ∷ rest → slice_get ms place ≡ Some m) where
  root_of : (k : ModuleTree) → Has ms k → (rs : List ModuleTree) → roots ms ≡ rs → (m : ModuleTree) × (slice_get ms place ≡ Some m) × (roots ms ≡ m ∷ [])
  root_of k h [] e = absurd (has_root ms (is_top ms) loopless k h e)
  root_of k h (m ∷ rest) e =
      let has : Has ms m = filtered (λ (k : ModuleTree). times_in (contained_names ms) k.name == 0) ms m (subst (λ l. Has l m) (sym e) (inl refl)) in
      let one = whole_top ms m (none_all (module_tops ms) ms m outside has) (top_named ms m rest e) in
      (m, found m rest e, e ∙ empty_rest m rest (ap (λ l. length l == 1) (sym e) ∙ one))

  of_some : (l : List ModuleTree) → 1 ≤ length l → (k : ModuleTree) × Has l k
  of_some [] h = absurd (omega arith)
  of_some (k ∷ l) h = (k, inl refl)

  pub one_root : 1 ≤ length ms → (m : ModuleTree) × (slice_get ms place ≡ Some m) × (roots ms ≡ m ∷ [])
  one_root h = let s = of_some ms h in root_of s.0 s.1 (roots ms) refl
