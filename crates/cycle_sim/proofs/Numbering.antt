-- The numbers that names of a design are found by.
use Rattle.std.proofs.Common.{◌≡◌, ℕ, zero, suc, ◌+◌, ◌<◌, Bool, true, false, cond, List, [], ◌∷◌, Some, length, get_or, refl, sym, ap, subst, ◌∙◌, map, arith}
use Rattle.std.specs.Prelude.{bytes_eq, slice_get, option_map, option_and_then}
use Rattle.std.specs.Cmp.Lexicographic.{bytes_decides}
use Rattle.vlog_tree.specs.Form.{ModuleTree}
use Rattle.tapa_base.specs.Lists.{Has}
use Rattle.vlog_tree.specs.Cycle.{Path, module_at}
use Rattle.vlog_tree.specs.Flattened.{FlatNet}
use Rattle.vlog_tree.specs.Loops.{instances}
use Rattle.vlog_tree.specs.Table.{Name, declared, declaration_name, net_kind_of, net_kind_is_read}
use Rattle.tapa_base.proofs.Lists.{has_got}
use Rattle.vlog_run_laws.proofs.runs.Sound.{declared_by}
use Rattle.sim_flat.specs.declared.instances.Instance as row
use Rattle.sim_flat.specs.Rows.{row_at}
use Rattle.sim_flat.specs.Instances.{IsNamed, StandsAt, IsModuleOf}
use Rattle.sim_flat.proofs.Once.{instance_once}
use Rattle.sim_flat.specs.declared.flat.Flat.{Flat}
use Rattle.sim_flat.specs.Flat.{IsFlat, HasNumber}
use Rattle.sim_flat.specs.Places.{place_in}
use Rattle.sim_flat.proofs.Names.{place_is, place_found, place_declared}
use Rattle.sim_flat.proofs.Standing.{module_of as module_leads}
use Rattle.cycle_sim.specs.SlotsTold.{child_place, module_of, instance_at, number_of}

child_here : (p : Name × Name) (ps : List (Name × Name)) (i kn : Name) → p ≡ (kn, i) → child_place (p ∷ ps) i ≡ Some 0
child_here p ps i kn e = ap (λ b. cond b (Some 0) (option_map suc (child_place ps i))) ((bytes_decides p.1 i).1 (ap (λ (z : Name × Name). z.1) e))

differs : (x y : Name) (b : Bool) → bytes_eq x y ≡ b → (x ≡ y → ⊥) → bytes_eq x y ≡ false
differs x y true e f = absurd (f ((bytes_decides x y).0 e))
differs x y false e f = e

child_behind : (p : Name × Name) (ps : List (Name × Name)) (i : Name) (c : ℕ) → bytes_eq p.1 i ≡ false → child_place ps i ≡ Some c → child_place (p ∷ ps) i ≡ Some (suc c)
child_behind p ps i c e h = ap (λ b. cond b (Some 0) (option_map suc (child_place ps i))) e ∙ ap (option_map suc) h

-- a name that stands at one place alone is found there
child_is : (ps : List (Name × Name)) (c : ℕ) (kn i : Name) → slice_get ps c ≡ Some (kn, i) → ((e : ℕ) (hn : Name) → slice_get ps e ≡ Some (hn, i) → c ≡ e) → child_place ps i ≡ Some c
child_is [] c kn i g once = cc
child_is (p ∷ ps) zero kn i g once = let e : p ≡ (kn, i) = cc g in child_here p ps i kn e
child_is (p ∷ ps) (suc c) kn i g once =
    let rest : child_place ps i ≡ Some c = child_is ps c kn i g (λ e hn h. let s : suc c ≡ suc e = once (suc e) hn h in omega arith) in
    child_behind p ps i c (differs p.1 i (bytes_eq p.1 i) refl (λ e. let z : suc c ≡ 0 = once 0 p.0 (ap (λ (x : Name). Some (p.0, x)) e) in absurd (omega arith))) rest

module _ (ms : List ModuleTree) (top : ModuleTree) (f : Flat) (flat : IsFlat ms top f) where
  abbrev rows : List row.Instance
  rows = f.instances.items

  above : (k : ℕ) → 0 < k → k < length rows → (row_at rows k).around < length rows
  above k pos low = let b : (row_at rows k).around < k = flat.instances.before k pos low in omega arith

  -- the instance at the end of a path is found
  pub stands_found : (path : Path) (k : ℕ) → k < length rows → StandsAt ms rows k path → instance_at ms f path ≡ Some k
  stands_found [] k low s = ap (λ n. Some n) (sym s)
  stands_found (i ∷ path) k low s =
      let a : ℕ = (row_at rows k).around in
      let n : IsNamed ms rows k i = s.1 in
      let here : instance_at ms f path ≡ Some a = stands_found path a (above k s.0 low) s.2 in
      let in_ms : Has ms n.outer = has_got ms (row_at rows a).kind n.outer n.got in
      let place : child_place (instances n.outer) i ≡ Some (row_at rows k).child =
      child_is (instances n.outer) (row_at rows k).child n.module_name i n.named (λ e hn h. instance_once ms flat.design.sound.names n.outer in_ms (row_at rows k).child e n.module_name hn i n.named h) in
      ap (λ o. option_and_then (λ k. option_and_then (λ m. option_map (λ c. get_or f.first_child.items k 0 + c) (child_place (instances m) i)) (module_of ms f k)) o) here
      ∙ ap (λ o. option_and_then (λ m. option_map (λ c. get_or f.first_child.items a 0 + c) (child_place (instances m) i)) o) n.got
      ∙ ap (λ o. option_map (λ c. get_or f.first_child.items a 0 + c) o) place
      ∙ ap (λ z. Some z) (sym (flat.instances.once k s.0 low))

  -- a net's number is found by its path and its name
  pub number_is_found : (number : ℕ) (n : FlatNet) → HasNumber ms f number n → number_of ms f n.0 n.1 ≡ Some number
  number_is_found number n h =
      let k : ℕ = h.instance in
      let m : ModuleTree = h.at.tree in
      let in_ms : Has ms m = has_got ms (row_at rows k).kind m h.at.of_module in
      ap (λ o. option_and_then (λ k. option_and_then (λ m. option_map (λ j. get_or f.first_net.items k 0 + j) (place_in (declared m) n.1)) (module_of ms f k)) o) (stands_found n.0 k h.at.there h.at.stands)
      ∙ ap (λ o. option_and_then (λ m. option_map (λ j. get_or f.first_net.items k 0 + j) (place_in (declared m) n.1)) o) h.at.of_module
      ∙ ap (λ o. option_map (λ j. get_or f.first_net.items k 0 + j) o) (place_is ms flat.design.sound.names m in_ms h.place n.1 h.at.declared_at)
      ∙ ap (λ z. Some z) (sym h.is)

  -- each name that a module of the design declares has a number
  pub named_number : (path : Path) (m : ModuleTree) (x : Name) → module_at ms top path ≡ Some m → Has (map declaration_name (declared m)) x → (number : ℕ) × HasNumber ms f number (path, x)
  named_number path m x at h =
      let k = flat.instances.numbers path m at in
      let t = flat.instances.modules k.0 path k.1 k.2 in
      let same : t.0 ≡ m = cc (t.1, at) in
      let of : IsModuleOf ms rows k.0 m = subst (λ (q : ModuleTree). IsModuleOf ms rows k.0 q) same t.2 in
      let p = place_found (declared m) x h in (
        get_or f.first_net.items k.0 0 + p.0,
        record { instance = k.0; place = p.0; at = record { there = k.1; stands = k.2; tree = m; of_module = of; declared_at = place_declared (declared m) x p.0 p.1 }; is = refl },
      )

  pub net_number : (path : Path) (m : ModuleTree) (x : Name) → module_at ms top path ≡ Some m → net_kind_is_read (net_kind_of (declared m) x) ≡ true → (number : ℕ) × HasNumber ms f number (path, x)
  net_number path m x at read = named_number path m x at (declared_by net_kind_is_read (declared m) x refl read)

  -- the module of a net is that at the end of its path
  pub tree_at : (number : ℕ) (n : FlatNet) (h : HasNumber ms f number n) → module_at ms top n.0 ≡ Some h.at.tree
  tree_at number n h = module_leads ms top f flat h.instance n.0 h.at.tree h.at.there h.at.stands h.at.of_module
