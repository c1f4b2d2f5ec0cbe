-- Fewer names lead to an instance than there are modules, since none of them contains itself.
use Rattle.std.proofs.Common.{◌≡◌, suc, ◌<◌, ◌≤◌, Bool, List, [], ◌∷◌, Option, Some, None, length, inl, inr, refl, sym, ap, subst, ◌∙◌, arith, map}
use Rattle.std.specs.Prelude.{◌⊎◌}
use Rattle.std.proofs.lemmas.List.{length-map}
use Rattle.vlog_tree.specs.Form.{ModuleTree}
use Rattle.tapa_base.specs.Lists.{Has, one}
use Rattle.vlog_tree.specs.Cycle.{Path, module_at}
use Rattle.vlog_tree.specs.Table.{Name}
use Rattle.vlog_tree.specs.Loops.{item_instances, containment, Reaches, own_places, IsLoopless}
use Rattle.vlog_tree.specs.declared.tree.Item.TheVariants.{Instance}
use Rattle.tapa_base.proofs.Lists.{has_flat, has_map, of_map, chains}
use Rattle.vlog_run_laws.proofs.runs.Ending.{Distinct, no_more}
use Rattle.vlog_run_laws.proofs.runs.Alone.{module_is, IsNamed}
use Rattle.vlog_run_laws.proofs.runs.Module.{contains}
use Rattle.vlog_run_laws.proofs.runs.Settled.{module_in}
use Rattle.vlog_run_laws.proofs.runs.Solved.{child_item, Around, module_around}

abbrev name_in : Option ModuleTree → Name
name_in None = []
name_in (Some m) = m.name

module _ (ms : List ModuleTree) (root : ModuleTree) (is_top : Name → Bool) (loopless : IsLoopless ms is_top) (in_root : Has ms root) where
  abbrev module_names : List Name
  module_names = map (λ (m : ModuleTree). m.name) ms

  -- the names of the modules on a way, the innermost first
  abbrev names_on : Path → List Name
  names_on [] = root.name ∷ []
  names_on (i ∷ path) = name_in (module_at ms root (i ∷ path)) ∷ names_on path

  names_length : (path : Path) → length (names_on path) ≡ suc (length path)
  names_length [] = refl
  names_length (i ∷ path) = ap suc (names_length path)

  name_has : (path : Path) (m : ModuleTree) → module_at ms root path ≡ Some m → Has module_names m.name
  name_has path m at = has_map (λ (m : ModuleTree). m.name) ms m (module_in ms root in_root path m at)

  no_module_loops : (x : Name) → Has module_names x → Reaches (containment ms) x x → ⊥
  no_module_loops x h r =
      let t = of_map (λ (m : ModuleTree). m.name) ms x h in
      loopless (x, None) (has_flat own_places ms t.0 (x, None) t.1 (inl (ap (λ z. (z, None)) t.2))) r

  -- what contains an instance's module
  step_down : (i : Name) (path : Path) (m : ModuleTree) (a : Around ms root i path m) → Reaches (containment ms) a.tree.name m.name
  step_down i path m a =
      let t = child_item a.tree.items i a.kn a.child in
      let n : IsNamed ms a.kn m = module_is ms a.kn m a.named in
      subst (λ z. Reaches (containment ms) a.tree.name z) (sym n.name)
      (one (contains ms a.tree (module_in ms root in_root path a.tree a.at) a.kn i (has_flat item_instances a.tree.items (Instance a.kn i t.0) (a.kn, i) t.1 (inl refl))))

  below_it : (i : Name) (path : Path) (m : ModuleTree) (a : Around ms root i path m) (s : Name) → (s ≡ a.tree.name) ⊎ Reaches (containment ms) s a.tree.name → Reaches (containment ms) s m.name
  below_it i path m a s (inl e) = subst (λ z. Reaches (containment ms) z m.name) (sym e) (step_down i path m a)
  below_it i path m a s (inr r) = chains (λ x y. Has (containment ms) (x, y)) s a.tree.name m.name r (step_down i path m a)

  -- each module on the way to another is that one, or contains it
  above : (path : Path) (m : ModuleTree) → module_at ms root path ≡ Some m → (s : Name) → Has (names_on path) s → (s ≡ m.name) ⊎ Reaches (containment ms) s m.name
  above [] m at s (inl e) = let same : root ≡ m = cc at in inl (sym e ∙ ap (λ (k : ModuleTree). k.name) same)
  above [] m at s (inr h) = absurd h
  above (i ∷ path) m at s (inl e) = inl (sym e ∙ ap name_in at)
  above (i ∷ path) m at s (inr h) = let a = module_around ms root i path m at in inr (below_it i path m a s (above path a.tree a.at s h))

  names_known : (path : Path) (m : ModuleTree) → module_at ms root path ≡ Some m → (s : Name) → Has (names_on path) s → Has module_names s
  names_known [] m at s (inl e) = subst (λ z. Has module_names z) e (name_has [] root refl)
  names_known [] m at s (inr h) = absurd h
  names_known (i ∷ path) m at s (inl e) = subst (λ z. Has module_names z) (sym (ap name_in at) ∙ e) (name_has (i ∷ path) m at)
  names_known (i ∷ path) m at s (inr h) = let a = module_around ms root i path m at in names_known path a.tree a.at s h

  not_above : (i : Name) (path : Path) (m : ModuleTree) → module_at ms root (i ∷ path) ≡ Some m → Has (names_on path) (name_in (module_at ms root (i ∷ path))) → ⊥
  not_above i path m at h =
      let a = module_around ms root i path m at in
      no_module_loops m.name (name_has (i ∷ path) m at) (below_it i path m a m.name (above path a.tree a.at m.name (subst (λ z. Has (names_on path) z) (ap name_in at) h)))

  names_distinct : (path : Path) (m : ModuleTree) → module_at ms root path ≡ Some m → Distinct (names_on path)
  names_distinct [] m at = (λ h. h, tt)
  names_distinct (i ∷ path) m at = let a = module_around ms root i path m at in (λ h. not_above i path m at h, names_distinct path a.tree a.at)

  pub way_short : (path : Path) (m : ModuleTree) → module_at ms root path ≡ Some m → length path < length ms
  way_short path m at =
      let few : length (names_on path) ≤ length module_names = no_more (names_on path) module_names (names_distinct path m at) (names_known path m at) in
      let more : length (names_on path) ≡ suc (length path) = names_length path in
      let same : length module_names ≡ length ms = length-map ms (λ (m : ModuleTree). m.name) in
      omega arith
