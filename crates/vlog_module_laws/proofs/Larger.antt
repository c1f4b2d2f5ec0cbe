-- Modules among more modules.
use Rattle.std.proofs.Common.{◌≡◌, Bool, true, false, cond, ◌||◌, List, [], ◌∷◌, ◌++◌, Some, None, inl, inr, refl, sym, ap, subst, ◌∙◌, map}
use Rattle.std.specs.Prelude.{bytes_eq, count_by, not, is_some}
use Rattle.std.specs.List.{flat_map}
use Rattle.vlog_tree.specs.declared.tree.Connection.{Connection}
use Rattle.vlog_tree.specs.declared.tree.Item.{Item}
use Rattle.vlog_tree.specs.declared.tree.Item.TheVariants.{Wire, Reg, Memory, Assign, Always, Instance}
use Rattle.vlog_tree.specs.declared.table.Declaration.{Declaration}
use Rattle.vlog_tree.specs.Form.{ModuleTree}
use Rattle.tapa_base.specs.Lists.{Has}
use Rattle.vlog_tree.specs.Table.{Name, NameUse, is_clk, declared, port_declared, module_named, module_declared, is_doubled_name, is_module_name, ports_in, ports_of, first_violation, times_in}
use Rattle.vlog_tree.specs.V2.{all_connected, module_uses, item_uses, instance_uses, connection_uses, port_uses}
use Rattle.vlog_tree.specs.V3.{module_widths, port_widths, item_widths, connection_widths}
use Rattle.vlog_tree.specs.V4.{is_block_of, module_drives, line_driven, connection_driven, driving_use, breaks_driving}
use Rattle.vlog_tree.specs.Refused.{IsSound}
use Rattle.vlog_tree.specs.Loops.{Edges, Rests, directly, through, after, direct_edges, line_edges, connection_edge, memory_edges, instances, item_instances}
use Rattle.vlog_module_laws.specs.Larger.{IsWithin, AreApart, HaveInstancesOf, IsRightBeside}
use Rattle.tapa_base.proofs.Lists.{has_flat, of_flat, has_right}
use Rattle.vlog_module_laws.proofs.Lists.{flat_same, right, all_right, right_behind}

front_of : (ms ns : List ModuleTree) (m : ModuleTree) (x : Name) (k : ModuleTree) (b : Bool) → (module_named ms x ≡ Some k → module_named (ms ++ ns) x ≡ Some k)
    → cond b (Some m) (module_named ms x) ≡ Some k → cond b (Some m) (module_named (ms ++ ns) x) ≡ Some k
front_of ms ns m x k true f h = h
front_of ms ns m x k false f h = f h

pub front_within : (ms ns : List ModuleTree) → IsWithin ms (ms ++ ns)
front_within [] ns x k h = cc
front_within (m ∷ ms) ns x k h = front_of ms ns m x k (bytes_eq m.name x) (front_within ms ns x k) h

-- what a name that finds a module has by it
pub known_by : (ms : List ModuleTree) (x : Name) (k : ModuleTree) → module_named ms x ≡ Some k → (is_module_name ms x ≡ true) × (ports_of ms x ≡ k.ports)
known_by ms x k h = (ap (λ o. is_some o) h, ap ports_in h)

found_of : (ms : List ModuleTree) (m : ModuleTree) (x : Name) (b : Bool) → (is_some (module_named ms x) ≡ true → (k : ModuleTree) × Has ms k × (module_named ms x ≡ Some k)) → is_some (cond b (Some m) (module_named ms x)) ≡ true
    → (k : ModuleTree) × Has {N = ModuleTree} (m ∷ ms) k × (cond b (Some m) (module_named ms x) ≡ Some k)
found_of ms m x true f h = (m, inl refl, refl)
found_of ms m x false f h = let r = f h in (r.0, inr r.1, r.2)

pub found : (ms : List ModuleTree) (x : Name) → is_module_name ms x ≡ true → (k : ModuleTree) × Has ms k × (module_named ms x ≡ Some k)
found [] x h = cc
found (m ∷ ms) x h = found_of ms m x (bytes_eq m.name x) (found ms x) h

behind_of : (ms ns : List ModuleTree) (m : ModuleTree) (x : Name) (k : ModuleTree) (b : Bool) → (is_some (module_named ms x) ≡ false → module_named (ms ++ ns) x ≡ Some k) → is_some (cond b (Some m) (module_named ms x)) ≡ false
    → cond b (Some m) (module_named (ms ++ ns) x) ≡ Some k
behind_of ms ns m x k true f h = cc
behind_of ms ns m x k false f h = f h

named_behind : (ms ns : List ModuleTree) (x : Name) (k : ModuleTree) → is_module_name ms x ≡ false → module_named ns x ≡ Some k → module_named (ms ++ ns) x ≡ Some k
named_behind [] ns x k f h = h
named_behind (m ∷ ms) ns x k f h = behind_of ms ns m x k (bytes_eq m.name x) (λ e. named_behind ms ns x k e h) f

pub back_within : (ms ns : List ModuleTree) → AreApart ms ns → IsWithin ns (ms ++ ns)
back_within ms ns apart x k h = named_behind ms ns x k (apart x (known_by ns x k h).0) h

pub instance_there : (m : ModuleTree) (kn i : Name) (ls : List Connection) → Has m.items (Instance kn i ls) → Has (instances m) (kn, i)
instance_there m kn i ls h = has_flat item_instances m.items (Instance kn i ls) (kn, i) h (inl refl)

pub right_has_instances : (ms : List ModuleTree) (m : ModuleTree) → IsRightBeside ms m → HaveInstancesOf ms m
unfolding module_uses item_uses instance_uses
right_has_instances ms m r kn i h =
    let t = of_flat item_instances m.items (kn, i) h in
    at t.0 t.1 t.2 where
      not_no : (b : Bool) → not b ≡ false → b ≡ true
      not_no true e = refl
      not_no false e = cc

      at : (it : Item) → Has m.items it → Has (item_instances it) (kn, i) → is_module_name ms kn ≡ true
      at (Instance k j ls) has (inl e) =
          let same : k ≡ kn = ap (λ (p : Name × Name). p.0) e in
          subst (λ y. is_module_name ms y ≡ true) same
          (not_no (is_module_name ms k)
          (right (module_uses ms m) r.names (k, not (is_module_name ms k))
          (inr (has_right (flat_map (port_uses (declared m)) m.ports) (flat_map (item_uses ms (declared m)) m.items) (k, not (is_module_name ms k))
          (has_flat (item_uses ms (declared m)) m.items (Instance k j ls) (k, not (is_module_name ms k)) has (inl refl))))))
      at (Instance k j ls) has (inr e) = absurd e
      at (Wire w y) has e = absurd e
      at (Reg w y) has e = absurd e
      at (Memory w y n) has e = absurd e
      at (Assign y v) has e = absurd e
      at (Always b) has e = absurd e

module _ (ms all : List ModuleTree) (within : IsWithin ms all) where
  pub known_too : (x : Name) → is_module_name ms x ≡ true → (is_module_name all x ≡ true) × (ports_of ms x ≡ ports_of all x)
  known_too x h =
      let r = found ms x h in
      let one = known_by ms x r.0 r.2 in
      let two = known_by all x r.0 (within x r.0 r.2) in
      (two.0, one.1 ∙ sym two.1)

  module _ (m : ModuleTree) (have : HaveInstancesOf ms m) where
    abbrev ds : List Declaration
    ds = declared m

    ports_same : (kn i : Name) (ls : List Connection) → Has m.items (Instance kn i ls) → map port_declared (ports_of ms kn) ≡ map port_declared (ports_of all kn)
    ports_same kn i ls has = ap (map port_declared) (known_too kn (have kn i (instance_there m kn i ls has))).1

    known_same : (kn i : Name) (ls : List Connection) → Has m.items (Instance kn i ls) → is_module_name ms kn ≡ is_module_name all kn
    known_same kn i ls has = let h = have kn i (instance_there m kn i ls has) in h ∙ sym (known_too kn h).0

    abbrev uses_of : Name → Name → List Connection → Bool → List Declaration → List NameUse
    uses_of kn i ls known ports = (kn, not known) ∷ (i, is_doubled_name ds i || is_clk i || not (all_connected ports ls)) ∷ flat_map (connection_uses ports ds) ls

    uses_same : (it : Item) → Has m.items it → item_uses ms ds it ≡ item_uses all ds it
    unfolding item_uses instance_uses
    uses_same (Instance kn i ls) has =
        ap (λ b. uses_of kn i ls b (map port_declared (ports_of ms kn))) (known_same kn i ls has)
        ∙ ap (λ p. uses_of kn i ls (is_module_name all kn) p) (ports_same kn i ls has)
    uses_same (Wire w y) has = refl
    uses_same (Reg w y) has = refl
    uses_same (Memory w y n) has = refl
    uses_same (Assign y v) has = refl
    uses_same (Always b) has = refl

    widths_same : (it : Item) → Has m.items it → item_widths ms ds it ≡ item_widths all ds it
    unfolding item_widths
    widths_same (Instance kn i ls) has = ap (λ p. flat_map (connection_widths p ds) ls) (ports_same kn i ls has)
    widths_same (Wire w y) has = refl
    widths_same (Reg w y) has = refl
    widths_same (Memory w y n) has = refl
    widths_same (Assign y v) has = refl
    widths_same (Always b) has = refl

    driven_same : (it : Item) → Has m.items it → line_driven ms it ≡ line_driven all it
    driven_same (Instance kn i ls) has = ap (λ p. flat_map (connection_driven p) ls) (ports_same kn i ls has)
    driven_same (Wire w y) has = refl
    driven_same (Reg w y) has = refl
    driven_same (Memory w y n) has = refl
    driven_same (Assign y v) has = refl
    driven_same (Always b) has = refl

    edges_same : (it : Item) → Has m.items it → line_edges ms it ≡ line_edges all it
    edges_same (Instance kn i ls) has = ap (λ p. map (connection_edge p i) ls) (ports_same kn i ls has)
    edges_same (Wire w y) has = refl
    edges_same (Reg w y) has = refl
    edges_same (Memory w y n) has = refl
    edges_same (Assign y v) has = refl
    edges_same (Always b) has = refl

    pub module_widths_same : module_widths ms m ≡ module_widths all m
    unfolding module_widths
    module_widths_same = ap (λ l. flat_map port_widths m.ports ++ l) (flat_same (item_widths ms ds) (item_widths all ds) m.items widths_same)

    pub module_drives_same : module_drives ms m ≡ module_drives all m
    unfolding module_drives driving_use
    module_drives_same =
        ap
        (λ (l : List Name). map (λ (d : Declaration). (d.name, breaks_driving (times_in l d.name) (count_by (is_block_of d.name) m.items) d.net_kind)) ds)
        (flat_same (line_driven ms) (line_driven all) m.items driven_same)

    pub direct_same : (t u : Name → Bool) → t m.name ≡ u m.name → direct_edges ms t m ≡ direct_edges all u m
    direct_same t u e =
        ap (λ (l : Edges). l ++ memory_edges (t m.name) (map port_declared m.ports)) (flat_same (line_edges ms) (line_edges all) m.items edges_same)
        ∙ ap (λ b. flat_map (line_edges all) m.items ++ memory_edges b (map port_declared m.ports)) e

pub stays_right : (ms all : List ModuleTree) (m : ModuleTree) → IsWithin ms all → IsRightBeside ms m → is_doubled_name (map module_declared all) m.name ≡ false → IsRightBeside all m
unfolding module_uses
stays_right ms all m within r once =
    let have = right_has_instances ms m r in
    let items = flat_same (item_uses ms (declared m)) (item_uses all (declared m)) m.items (uses_same ms all within m have) in
    record {
      names =
          ap (λ b. cond b (Some m.name) (first_violation (flat_map (port_uses (declared m)) m.ports ++ flat_map (item_uses all (declared m)) m.items))) once
          ∙ ap (λ l. first_violation (flat_map (port_uses (declared m)) m.ports ++ l)) (sym items)
          ∙ right_behind (is_doubled_name (map module_declared ms) m.name) m.name (first_violation (flat_map (port_uses (declared m)) m.ports ++ flat_map (item_uses ms (declared m)) m.items)) r.names;
      widths = ap first_violation (sym (module_widths_same ms all within m have)) ∙ r.widths;
      drivers = ap first_violation (sym (module_drives_same ms all within m have)) ∙ r.drivers;
    }

flat_right : {A : Type 0} (f : A → List NameUse) (xs : List A) → ((x : A) → Has xs x → first_violation (f x) ≡ None) → first_violation (flat_map f xs) ≡ None
flat_right f xs h = all_right (flat_map f xs) (λ u has. let t = of_flat f xs u has in right (f t.0) (h t.0 t.1) u t.2)

right_flat : {A : Type 0} (f : A → List NameUse) (xs : List A) → first_violation (flat_map f xs) ≡ None → (x : A) → Has xs x → first_violation (f x) ≡ None
right_flat f xs h x has = all_right (f x) (λ u k. right (flat_map f xs) h u (has_flat f xs x u has k))

pub sound_of : (ms : List ModuleTree) → ((m : ModuleTree) → Has ms m → IsRightBeside ms m) → IsSound ms
sound_of ms h = record {
  names = flat_right (module_uses ms) ms (λ m has. (h m has).names);
  widths = flat_right (module_widths ms) ms (λ m has. (h m has).widths);
  drivers = flat_right (module_drives ms) ms (λ m has. (h m has).drivers);
}

pub each_right : (ms : List ModuleTree) → IsSound ms → (m : ModuleTree) → Has ms m → IsRightBeside ms m
each_right ms s m has = record {
  names = right_flat (module_uses ms) ms s.names m has;
  widths = right_flat (module_widths ms) ms s.widths m has;
  drivers = right_flat (module_drives ms) ms s.drivers m has;
}

pub named_has : (ms : List ModuleTree) (x : Name) (k : ModuleTree) → module_named ms x ≡ Some k → Has ms k
named_has ms x k h = let r = found ms x (known_by ms x k h).0 in let same : r.0 ≡ k = some_same (sym r.2 ∙ h) in subst (λ z. Has ms z) same r.1 where
  some_same : {a b : ModuleTree} → Some a ≡ Some b → a ≡ b
  some_same e = cc

module _ (ms all : List ModuleTree) (t u : Name → Bool) (within : IsWithin ms all) (have : (m : ModuleTree) → Has ms m → HaveInstancesOf ms m)
    (agree : (m : ModuleTree) → Has ms m → t m.name ≡ u m.name) where
  pub rests_more : {m : ModuleTree} {x y : Name} → Rests ms t m x y → Has ms m → Rests all u m x y
  rests_more (directly {m = m} {x = x} {y = y} h) has = directly (subst (λ (l : Edges). Has l (x, y)) (direct_same ms all within m (have m has) t u (agree m has)) h)
  rests_more (through {m = m} {a = a} {b = b} k kn i x y inst named out into inside ea eb) has = through k kn i x y inst (within kn k named) out into (rests_more inside (named_has ms kn k named)) ea eb
  rests_more (after {m = m} {x = x} {z = z} y r s) has = after y (rests_more r has) (rests_more s has)

  named_back : (kn : Name) (k : ModuleTree) → is_module_name ms kn ≡ true → module_named all kn ≡ Some k → module_named ms kn ≡ Some k
  named_back kn k known h = let r = found ms kn known in r.2 ∙ sym (within kn r.0 r.2) ∙ h

  pub rests_fewer : {m : ModuleTree} {x y : Name} → Rests all u m x y → Has ms m → Rests ms t m x y
  rests_fewer (directly {m = m} {x = x} {y = y} h) has = directly (subst (λ (l : Edges). Has l (x, y)) (sym (direct_same ms all within m (have m has) t u (agree m has))) h)
  rests_fewer (through {m = m} {a = a} {b = b} k kn i x y inst named out into inside ea eb) has =
      let n = named_back kn k (have m has kn i inst) named in
      through k kn i x y inst n out into (rests_fewer inside (named_has ms kn k n)) ea eb
  rests_fewer (after {m = m} {x = x} {z = z} y r s) has = after y (rests_fewer r has) (rests_fewer s has)
