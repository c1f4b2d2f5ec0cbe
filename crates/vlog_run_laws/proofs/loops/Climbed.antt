-- Each module of a design stands at the end of a path from the root.
use Rattle.std.proofs.Common.{◌≡◌, ℕ, ◌+◌, ◌<◌, ◌≤◌, Bool, true, false, cond, List, [], ◌∷◌, Option, Some, None, inl, inr, refl, sym, ap, subst, ◌∙◌, arith, map}
use Rattle.std.specs.Prelude.{◌⊎◌, ◌==◌, bytes_eq, filter, count_by, is_some}
use Rattle.std.specs.List.{flat_map}
use Rattle.std.specs.Cmp.Lexicographic.{bytes_decides}
use Rattle.std.proofs.lemmas.Bool.{eqb-true}
use Rattle.std.proofs.lemmas.List.Sums.{sum_by-cons}
use Rattle.vlog_tree.specs.declared.table.Declaration.{Declaration}
use Rattle.vlog_tree.specs.declared.tree.Item.{Item}
use Rattle.vlog_tree.specs.declared.tree.Item.TheVariants.{Wire, Reg, Memory, Assign, Always, Instance}
use Rattle.vlog_tree.specs.Form.{ModuleTree}
use Rattle.tapa_base.specs.Lists.{Has, one, more}
use Rattle.vlog_tree.specs.Cycle.{Path, module_at, child_of, and_then}
use Rattle.vlog_tree.specs.Table.{Name, module_declared, module_named, is_module_name, is_doubled_name, first_violation, times_in}
use Rattle.vlog_tree.specs.V2.{v2_uses, module_uses}
use Rattle.vlog_tree.specs.V6.{item_children, module_children, contained_names, roots}
use Rattle.vlog_tree.specs.Loops.{item_instances, instances, containment, own_containment, Reaches}
use Rattle.tapa_base.proofs.Lists.{has_flat, of_flat, of_map, chains}
use Rattle.vlog_run_laws.proofs.runs.Sound.{right}
use Rattle.vlog_run_laws.proofs.runs.Alone.{same_name, counted, below_two, alone, module_there, module_is, IsNamed}
use Rattle.vlog_run_laws.proofs.runs.Drivers.{count_map}
use Rattle.vlog_run_laws.proofs.runs.Ending.{Ends, ends, all_end}
use Rattle.vlog_run_laws.proofs.runs.Module.{contains}
use Rattle.vlog_run_laws.proofs.runs.Settled.{module_in, child_at}
use Rattle.tapa_base.proofs.Tests.{zero_left as none_more}

-- what a filter leaves in
kept_of : {A : Type 0} (p : A → Bool) (x y : A) (xs : List A) (b : Bool) → p x ≡ b → (Has (filter p xs) y → Has xs y × (p y ≡ true)) → Has (cond b (x ∷ filter p xs) (filter p xs)) y → ((x ≡ y) ⊎ Has xs y) × (p y ≡ true)
kept_of p x y xs true e ih (inl same) = (inl same, ap p (sym same) ∙ e)
kept_of p x y xs true e ih (inr h) = let r = ih h in (inr r.0, r.1)
kept_of p x y xs false e ih h = let r = ih h in (inr r.0, r.1)

pub kept : {A : Type 0} (p : A → Bool) (xs : List A) (y : A) → Has (filter p xs) y → Has xs y × (p y ≡ true)
kept p [] y h = absurd h
kept p (x ∷ xs) y h = kept_of p x y xs (p x) refl (kept p xs y) h

left_of : {A : Type 0} (p : A → Bool) (x y : A) (xs : List A) (b : Bool) → p x ≡ b → p y ≡ true → (Has xs y → Has (filter p xs) y) → (x ≡ y) ⊎ Has xs y → Has (cond b (x ∷ filter p xs) (filter p xs)) y
left_of p x y xs true e t ih (inl same) = inl same
left_of p x y xs true e t ih (inr h) = inr (ih h)
left_of p x y xs false e t ih (inl same) = let clash : true ≡ false = sym t ∙ ap p (sym same) ∙ e in cc
left_of p x y xs false e t ih (inr h) = ih h

left_in : {A : Type 0} (p : A → Bool) (xs : List A) (y : A) → p y ≡ true → Has xs y → Has (filter p xs) y
left_in p [] y t h = absurd h
left_in p (x ∷ xs) y t h = left_of p x y xs (p x) refl t (left_in p xs y t) h

stands_of : (y : Name) (names : List Name) (x : Name) (b : Bool) → bytes_eq y x ≡ b → ((times_in names x == 0) ≡ false → Has names x) → ((cond b 1 0 + times_in names x) == 0) ≡ false → Has (y ∷ names) x
stands_of y names x true e ih h = inl ((bytes_decides y x).0 e)
stands_of y names x false e ih h = inr (ih (sym (ap (λ n. n == 0) (none_more (times_in names x))) ∙ h))

stands : (names : List Name) (x : Name) → (times_in names x == 0) ≡ false → Has names x
stands [] x h = cc
stands (y ∷ names) x h = stands_of y names x _ refl (stands names x) (sym (ap (λ n. n == 0) (sum_by-cons (λ (y : Name). cond (bytes_eq y x) 1 0) y names)) ∙ h)

-- a contained module is an instance of another
child_instance : (it : Item) (x : Name) → Has (item_children it) x → (i : Name) × Has (item_instances it) (x, i)
child_instance (Instance m i connections) x (inl e) = (i, inl (ap (λ z. (z, i)) e))
child_instance (Instance m i connections) x (inr h) = absurd h
child_instance (Wire w y) x h = absurd h
child_instance (Reg w y) x h = absurd h
child_instance (Memory w y n) x h = absurd h
child_instance (Assign y e) x h = absurd h
child_instance (Always b) x h = absurd h

pub instance_in : (m : ModuleTree) (x : Name) → Has (module_children m) x → (i : Name) × Has (instances m) (x, i)
unfolding module_children
instance_in m x h =
    let t = of_flat item_children m.items x h in
    let q = child_instance t.0 x t.2 in
    (q.0, has_flat item_instances m.items t.0 (x, q.0) t.1 q.1)

child_here : (items : List Item) (j i kn x : Name) (b : Bool) → (child_of items i ≡ Some x → Has (flat_map item_children items) x) → cond b (Some kn) (child_of items i) ≡ Some x → (kn ≡ x) ⊎ Has (flat_map item_children items) x
child_here items j i kn x true ih e = inl cc
child_here items j i kn x false ih e = inr (ih e)

child_in : (items : List Item) (i x : Name) → child_of items i ≡ Some x → Has (flat_map item_children items) x
child_in [] i x e = cc
child_in (Instance m j connections ∷ items) i x e = child_here items j i m x (bytes_eq j i) (child_in items i x) e
child_in (Wire w y ∷ items) i x e = child_in items i x e
child_in (Reg w y ∷ items) i x e = child_in items i x e
child_in (Memory w y n ∷ items) i x e = child_in items i x e
child_in (Assign y v ∷ items) i x e = child_in items i x e
child_in (Always b ∷ items) i x e = child_in items i x e

named_some : (ms : List ModuleTree) (m : ModuleTree) (x : Name) (b : Bool) → bytes_eq m.name x ≡ b → ((k : ModuleTree) → Has ms k → k.name ≡ x → is_some (module_named ms x) ≡ true)
    → (k : ModuleTree) → (m ≡ k) ⊎ Has ms k → k.name ≡ x → is_some (cond b (Some m) (module_named ms x)) ≡ true
named_some ms m x true e ih k h same = refl
named_some ms m x false e ih k (inl s) same = let clash : true ≡ false = sym ((bytes_decides m.name x).1 (ap (λ (t : ModuleTree). t.name) s ∙ same)) ∙ e in cc
named_some ms m x false e ih k (inr h) same = ih k h same

known_module : (ms : List ModuleTree) (x : Name) (k : ModuleTree) → Has ms k → k.name ≡ x → is_module_name ms x ≡ true
known_module [] x k h same = absurd h
known_module (m ∷ ms) x k h same = named_some ms m x (bytes_eq m.name x) refl (λ k h e. known_module ms x k h e) k h same

module _ (ms : List ModuleTree) (names : first_violation (v2_uses ms) ≡ None) where
  one_module : (k : ModuleTree) → Has ms k → is_doubled_name (map module_declared ms) k.name ≡ false
  unfolding module_uses
  one_module k h = right (v2_uses ms) names (k.name, is_doubled_name (map module_declared ms) k.name) (has_flat (module_uses ms) ms k (k.name, is_doubled_name (map module_declared ms) k.name) h (inl refl))

  -- a module's name stands for it alone
  pub named_is : (k : ModuleTree) → Has ms k → module_named ms k.name ≡ Some k
  named_is k h =
      let t = module_there ms k.name (known_module ms k.name k h refl) in
      let n : IsNamed ms k.name t.0 = module_is ms k.name t.0 t.1 in
      let low : count_by (λ (d : Declaration). bytes_eq d.name k.name) (map module_declared ms) < 2 = below_two _ (one_module k h) in
      let few : count_by (λ (m : ModuleTree). bytes_eq m.name k.name) ms < 2 = subst (λ n. n < 2) (count_map (λ (d : Declaration). bytes_eq d.name k.name) module_declared ms) low in
      let same : t.0 ≡ k = alone (λ (m : ModuleTree). bytes_eq m.name k.name) ms t.0 k n.has h (ap (λ z. bytes_eq z k.name) n.name ∙ same_name k.name) (same_name k.name) few in
      t.1 ∙ ap (λ z. Some z) same

contained_end : (ms : List ModuleTree) (x y : Name) → Has (containment ms) (x, y) → Has (contained_names ms) y
unfolding own_containment
contained_end ms x y h =
    let t = of_flat own_containment ms (x, y) h in
    let q = of_map (λ k. (t.0.name, k)) (module_children t.0) (x, y) t.2 in
    has_flat module_children ms t.0 y t.1 (subst (λ z. Has (module_children t.0) z) (ap (λ (p : Name × Name). p.1) q.2) q.1)

reached_end : (ms : List ModuleTree) (x y : Name) → Reaches (containment ms) x y → Has (contained_names ms) y
reached_end ms x y (one h) = contained_end ms x y h
reached_end ms x y (more b h r) = reached_end ms b y r

module _ (ms : List ModuleTree) (names : first_violation (v2_uses ms) ≡ None) (root : ModuleTree) (only : roots ms ≡ root ∷ []) (flat : (x : Name) → Reaches (containment ms) x x → ⊥) where
  root_kept : Has ms root × ((times_in (contained_names ms) root.name == 0) ≡ true)
  root_kept = kept (λ (m : ModuleTree). times_in (contained_names ms) m.name == 0) ms root (subst (λ l. Has l root) (sym only) (inl refl))

  pub root_in : Has ms root
  root_in = root_kept.0

  is_root : (k : ModuleTree) → Has ms k → (times_in (contained_names ms) k.name == 0) ≡ true → root ≡ k
  is_root k h e = elim (subst (λ l. Has l k) only (left_in (λ (m : ModuleTree). times_in (contained_names ms) m.name == 0) ms k e h)) [ inl s ↦ s | inr n ↦ absurd n ]

  -- no module contains the root
  pub root_outside : Has (contained_names ms) root.name → ⊥
  root_outside h =
      let some : 1 ≤ times_in (contained_names ms) root.name = counted (λ y. bytes_eq y root.name) (contained_names ms) root.name h (same_name root.name) in
      let none : times_in (contained_names ms) root.name ≡ 0 = eqb-true (times_in (contained_names ms) root.name) 0 root_kept.1 in
      absurd (omega arith)

  -- from the contained to what contains it
  abbrev Up : Name → Name → Type 0
  Up x y = Reaches (containment ms) y x

  ups_end : (x : Name) → Ends Up x
  ups_end x = all_end Up (contained_names ms) (λ x y r. reached_end ms y x r) (λ x y z r s. chains (λ a b. Has (containment ms) (a, b)) z y x s r) (λ x h r. flat x r) x

  abbrev AtPath : ModuleTree → Type 0
  AtPath k = (path : Path) × (module_at ms root path ≡ Some k)

  climb_of : (k : ModuleTree) → Has ms k → (b : Bool) → (times_in (contained_names ms) k.name == 0) ≡ b → ((p : ModuleTree) → Has ms p → Has (containment ms) (p.name, k.name) → AtPath p) → AtPath k
  climb_of k h true e ih = ([], ap (λ z. Some z) (is_root k h e))
  climb_of k h false e ih =
      let t = of_flat module_children ms k.name (stands (contained_names ms) k.name e) in
      let q = instance_in t.0 k.name t.2 in
      let p = ih t.0 t.1 (contains ms t.0 t.1 k.name q.0 q.1) in
      (q.0 ∷ p.0, child_at ms root names t.0 t.1 p.0 p.1 k.name q.0 k q.1 (named_is ms names k h))

  climb : (n : Name) → Ends Up n → (k : ModuleTree) → k.name ≡ n → Has ms k → AtPath k
  climb n (ends f) k same h =
      climb_of k h (times_in (contained_names ms) k.name == 0) refl
      (λ p in_p step. climb p.name (f p.name (one (subst (λ z. Has (containment ms) (p.name, z)) same step))) p refl in_p)

  -- a path to each module
  pub path_to : (k : ModuleTree) → Has ms k → (path : Path) × (module_at ms root path ≡ Some k)
  path_to k h = climb k.name (ups_end k.name) k refl h

  below_named : (p k : ModuleTree) → Has ms p → (o : Option Name) → ((x : Name) → o ≡ Some x → Has (module_children p) x) → and_then o (module_named ms) ≡ Some k → Has (contained_names ms) k.name
  below_named p k in_p None f e = cc
  below_named p k in_p (Some x) f e =
      let n : IsNamed ms x k = module_is ms x k e in
      has_flat module_children ms p k.name in_p (subst (λ z. Has (module_children p) z) (sym n.name) (f x refl))

  below_contained : (path : Path) (i : Name) (k : ModuleTree) (o : Option ModuleTree) → module_at ms root path ≡ o → and_then o (λ (m : ModuleTree). and_then (child_of m.items i) (module_named ms)) ≡ Some k → Has (contained_names ms) k.name
  unfolding module_children
  below_contained path i k None at e = cc
  below_contained path i k (Some p) at e = below_named p k (module_in ms root root_in path p at) (child_of p.items i) (λ x s. child_in p.items i x s) e

  -- the root stands at the end of the empty path alone
  pub root_path : (path : Path) (k : ModuleTree) → module_at ms root path ≡ Some k → k.name ≡ root.name → path ≡ []
  root_path [] k at same = refl
  root_path (i ∷ path) k at same = absurd (root_outside (subst (λ z. Has (contained_names ms) z) same (below_contained path i k (module_at ms root path) refl at)))
