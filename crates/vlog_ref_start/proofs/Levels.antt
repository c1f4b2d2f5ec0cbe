-- The instances at a depth are those to which so many names lead.
use Rattle.std.proofs.Common.{◌≡◌, ℕ, zero, suc, ◌+◌, ◌-◌, ◌<◌, List, [], ◌∷◌, Option, Some, None, length, inl, inr, refl, sym, ap, subst, arith}
use Rattle.vlog_tree.specs.declared.tree.Item.{Item}
use Rattle.vlog_tree.specs.declared.tree.Item.TheVariants.{Wire, Reg, Memory, Assign, Always, Instance}
use Rattle.vlog_tree.specs.Form.{ModuleTree}
use Rattle.tapa_base.specs.Lists.{Has}
use Rattle.vlog_tree.specs.Cycle.{Path, module_at}
use Rattle.vlog_tree.specs.Table.{module_named, first_violation}
use Rattle.vlog_tree.specs.V2.{v2_uses}
use Rattle.vlog_tree.specs.Loops.{item_instances}
use Rattle.tapa_base.proofs.Lists.{has_flat, of_flat, has_left, has_right, has_split}
use Rattle.vlog_run_laws.proofs.runs.Settled.{module_in, child_at}
use Rattle.vlog_run_laws.proofs.runs.Solved.{child_item, module_around}
use Rattle.vlog_ref_start.specs.Instances.{PlaceTree, place_of, line_places, inner_places, places_at, places_below}

module _ (ms : List ModuleTree) (root : ModuleTree) where
  abbrev pub Leads : PlaceTree → Type 0
  Leads p = module_at ms root p.0 ≡ Some p.1

  place_leads : (path : Path) (o : Option ModuleTree) → ((k : ModuleTree) → o ≡ Some k → module_at ms root path ≡ Some k) → (p : PlaceTree) → Has (place_of path o) p → Leads p
  place_leads path None f p h = absurd h
  place_leads path (Some k) f p (inl e) = subst (λ (q : PlaceTree). Leads q) e (f k refl)
  place_leads path (Some k) f p (inr h) = absurd h

  module _ (names : first_violation (v2_uses ms) ≡ None) (in_root : Has ms root) where
    line_leads : (m : ModuleTree) (path : Path) → module_at ms root path ≡ Some m → (it : Item) → Has m.items it → (p : PlaceTree) → Has (line_places ms path it) p → Leads p
    line_leads m path at (Instance kn i connections) has p h =
        place_leads (i ∷ path) (module_named ms kn)
        (λ k named. child_at ms root names m (module_in ms root in_root path m at) path at kn i k (has_flat item_instances m.items (Instance kn i connections) (kn, i) has (inl refl)) named) p h
    line_leads m path at (Wire w x) has p h = absurd h
    line_leads m path at (Reg w x) has p h = absurd h
    line_leads m path at (Memory w x n) has p h = absurd h
    line_leads m path at (Assign x e) has p h = absurd h
    line_leads m path at (Always b) has p h = absurd h

    level_leads : (n : ℕ) (p : PlaceTree) → Has (places_at ms root n) p → Leads p
    level_leads zero p (inl e) = subst (λ (q : PlaceTree). Leads q) e refl
    level_leads zero p (inr h) = absurd h
    level_leads (suc n) p h =
        let t = of_flat (inner_places ms) (places_at ms root n) p h in
        let q = of_flat (line_places ms t.0.0) t.0.1.items p t.2 in
        line_leads t.0.1 t.0.0 (level_leads n t.0 t.1) q.0 q.1 p q.2

    -- each of the instances that are found is one
    pub below_leads : (n : ℕ) (p : PlaceTree) → Has (places_below ms root n) p → Leads p
    below_leads zero p h = absurd h
    below_leads (suc n) p h = elim (has_split (places_below ms root n) (places_at ms root n) p h) [ inl l ↦ below_leads n p l | inr r ↦ level_leads n p r ]

  level_has : (path : Path) (m : ModuleTree) → module_at ms root path ≡ Some m → Has (places_at ms root (length path)) (path, m)
  level_has [] m at = let same : root ≡ m = cc at in let here : ModuleTree → PlaceTree = λ k. ([], k) in inl (ap here same)
  level_has (i ∷ path) m at =
      let a = module_around ms root i path m at in
      let t = child_item a.tree.items i a.kn a.child in
      has_flat (inner_places ms) (places_at ms root (length path)) (path, a.tree) (i ∷ path, m) (level_has path a.tree a.at)
      (has_flat (line_places ms path) a.tree.items (Instance a.kn i t.0) (i ∷ path, m) t.1 (subst (λ o. Has {N = PlaceTree} (place_of (i ∷ path) o) (i ∷ path, m)) (sym a.named) (inl refl)))

  level_below : (j k n : ℕ) → n ≡ suc (k + j) → (p : PlaceTree) → Has (places_at ms root k) p → Has (places_below ms root n) p
  level_below zero k n e p h = let same : suc k ≡ n = omega arith in subst (λ z. Has (places_below ms root z) p) same (has_right (places_below ms root k) (places_at ms root k) p h)
  level_below (suc j) k n e p h =
      let same : suc (suc (k + j)) ≡ n = omega arith in
      subst (λ z. Has (places_below ms root z) p) same (has_left (places_below ms root (suc (k + j))) (places_at ms root (suc (k + j))) p (level_below j k (suc (k + j)) refl p h))

  -- each instance is among those that are found, where no more names lead to it
  pub below_has : (n : ℕ) (path : Path) (m : ModuleTree) → module_at ms root path ≡ Some m → length path < n → Has (places_below ms root n) (path, m)
  below_has n path m at low = let e : n ≡ suc (length path + (n - suc (length path))) = omega arith in level_below (n - suc (length path)) (length path) n e (path, m) (level_has path m at)
