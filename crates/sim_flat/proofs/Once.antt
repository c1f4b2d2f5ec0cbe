-- Names that a module declares once stand at one place.
use Rattle.std.proofs.Common.{◌≡◌, ℕ, zero, suc, ◌+◌, ◌<◌, ◌≤◌, Bool, true, false, List, [], ◌∷◌, Some, None, refl, sym, ap, ◌∙◌, map, arith}
use Rattle.std.specs.Prelude.{bytes_eq, count_by, slice_get}
use Rattle.std.specs.List.{flat_map}
use Rattle.std.specs.Cmp.Lexicographic.{bytes_decides}
use Rattle.std.proofs.lemmas.List.Sums.{sum_by-append}
use Rattle.vlog_tree.specs.declared.tree.Item.{Item}
use Rattle.vlog_tree.specs.declared.tree.Item.TheVariants.{Wire, Reg, Memory, Assign, Always, Instance}
use Rattle.vlog_tree.specs.declared.table.Declaration.{Declaration}
use Rattle.vlog_tree.specs.declared.table.NetKind.TheVariants.{WireNet, Register, MemoryArray, ChildInstance}
use Rattle.vlog_tree.specs.Form.{ModuleTree}
use Rattle.tapa_base.specs.Lists.{Has}
use Rattle.vlog_tree.specs.Table.{Name, declared, port_declared, items_declared, first_violation, is_doubled_name, one_if}
use Rattle.vlog_tree.specs.V2.{v2_uses}
use Rattle.vlog_tree.specs.Loops.{item_instances, instances}
use Rattle.tapa_base.proofs.Lists.{has_got}
use Rattle.vlog_run_laws.proofs.runs.Alone.{same_name, count_cons, twice_counted, below_two, declared_once, instance_item, instance_single}

-- what is counted less than twice stands at one place
pub position_once : {A : Type 0} (p : A → Bool) (xs : List A) (c e : ℕ) (x y : A) → slice_get xs c ≡ Some x → slice_get xs e ≡ Some y → p x ≡ true → p y ≡ true → count_by p xs < 2 → c ≡ e
position_once p [] c e x y g h a b low = cc
position_once p (z ∷ zs) zero zero x y g h a b low = refl
position_once p (z ∷ zs) zero (suc e) x y g h a b low = let same : z ≡ x = cc in absurd (twice_counted p z zs y (ap p same ∙ a) (has_got zs e y h) b low)
position_once p (z ∷ zs) (suc c) zero x y g h a b low = let same : z ≡ y = cc in absurd (twice_counted p z zs x (ap p same ∙ b) (has_got zs c x g) a low)
position_once p (z ∷ zs) (suc c) (suc e) x y g h a b low =
    let n : count_by p (z ∷ zs) ≡ one_if (p z) + count_by p zs = count_cons p z zs in
    ap suc (position_once p zs c e x y g h a b (omega arith))

more_both : {A B : Type 0} (p : A → Bool) (q : B → Bool) (x : A) (xs : List A) (y : B) (ys : List B) → p x ≡ q y → count_by p xs ≤ count_by q ys → count_by p (x ∷ xs) ≤ count_by q (y ∷ ys)
more_both p q x xs y ys e h =
    let a : count_by p (x ∷ xs) ≡ one_if (p x) + count_by p xs = count_cons p x xs in
    let b : count_by q (y ∷ ys) ≡ one_if (q y) + count_by q ys = count_cons q y ys in
    let c : one_if (p x) ≡ one_if (q y) = ap one_if e in
    omega arith

more_behind : {A B : Type 0} (p : A → Bool) (q : B → Bool) (xs : List A) (y : B) (ys : List B) → count_by p xs ≤ count_by q ys → count_by p xs ≤ count_by q (y ∷ ys)
more_behind p q xs y ys h =
    let b : count_by q (y ∷ ys) ≡ one_if (q y) + count_by q ys = count_cons q y ys in
    omega arith

module _ (x : Name) where
  abbrev is_named : Name × Name → Bool
  is_named i = bytes_eq i.1 x

  abbrev declares : Declaration → Bool
  declares d = bytes_eq d.name x

  instances_few : (items : List Item) → count_by is_named (flat_map item_instances items) ≤ count_by declares (items_declared items)
  instances_few [] = omega arith
  instances_few (Instance m i connections ∷ items) = more_both is_named declares (m, i) (flat_map item_instances items) (record { name = i; net_kind = ChildInstance; bits = 0; cells = 0 }) (items_declared items) refl (instances_few items)
  instances_few (Wire w y ∷ items) = more_behind is_named declares (flat_map item_instances items) (record { name = y; net_kind = WireNet; bits = w; cells = 0 }) (items_declared items) (instances_few items)
  instances_few (Reg w y ∷ items) = more_behind is_named declares (flat_map item_instances items) (record { name = y; net_kind = Register; bits = w; cells = 0 }) (items_declared items) (instances_few items)
  instances_few (Memory w y n ∷ items) = more_behind is_named declares (flat_map item_instances items) (record { name = y; net_kind = MemoryArray; bits = w; cells = n }) (items_declared items) (instances_few items)
  instances_few (Assign y e ∷ items) = instances_few items
  instances_few (Always b ∷ items) = instances_few items

  instances_below : (m : ModuleTree) → is_doubled_name (declared m) x ≡ false → count_by is_named (instances m) < 2
  instances_below m h =
      let low : count_by declares (declared m) < 2 = below_two _ h in
      let split : count_by declares (declared m) ≡ count_by declares (map port_declared m.ports) + count_by declares (items_declared m.items) = sum_by-append (λ (d : Declaration). one_if (declares d)) (map port_declared m.ports) (items_declared m.items) in
      let few : count_by is_named (instances m) ≤ count_by declares (items_declared m.items) = instances_few m.items in
      omega arith

module _ (ms : List ModuleTree) (names : first_violation (v2_uses ms) ≡ None) (m : ModuleTree) (in_ms : Has ms m) where
  -- two instances of one name are one
  pub instance_once : (c e : ℕ) (kn hn i : Name) → slice_get (instances m) c ≡ Some (kn, i) → slice_get (instances m) e ≡ Some (hn, i) → c ≡ e
  instance_once c e kn hn i g h =
      let t = instance_item m.items kn i (has_got (instances m) c (kn, i) g) in
      position_once (is_named i) (instances m) c e (kn, i) (hn, i) g h (same_name i) (same_name i) (instances_below i m (instance_single ms names m in_ms kn i t.0 t.1).0)

  -- two declarations of one name stand at one place
  pub declared_at_once : (j k : ℕ) (d e : Declaration) → slice_get (declared m) j ≡ Some d → slice_get (declared m) k ≡ Some e → d.name ≡ e.name → j ≡ k
  declared_at_once j k d e g h same =
      position_once (declares d.name) (declared m) j k d e g h (same_name d.name) ((bytes_decides e.name d.name).1 (sym same)) (below_two _ (declared_once ms names m in_ms d (has_got (declared m) j d g)))
