-- What is counted once is alone.
use Rattle.std.proofs.Common.{◌≡◌, ℕ, ◌+◌, ◌<◌, ◌≤◌, Bool, true, false, cond, ◌||◌, List, [], ◌∷◌, Some, None, inl, inr, refl, sym, ap, subst, ◌∙◌, arith, map}
use Rattle.std.specs.Prelude.{◌⊎◌, bytes_eq, count_by, nat_le, not, is_some}
use Rattle.std.specs.List.{flat_map}
use Rattle.std.specs.Cmp.Lexicographic.{bytes_decides}
use Rattle.std.proofs.lemmas.List.Sums.{sum_by-append, sum_by-cons}
use Rattle.std.proofs.lemmas.Bool.Decides.{nat_tests}
use Rattle.vlog_tree.specs.declared.tree.Connection.{Connection}
use Rattle.vlog_tree.specs.declared.tree.Item.{Item}
use Rattle.vlog_tree.specs.declared.tree.Item.TheVariants.{Wire, Reg, Memory, Assign, Always, Instance}
use Rattle.vlog_tree.specs.declared.table.Declaration.{Declaration}
use Rattle.vlog_tree.specs.Form.{ModuleTree}
use Rattle.tapa_base.specs.Lists.{Has}
use Rattle.vlog_tree.specs.Cycle.{child_of}
use Rattle.vlog_tree.specs.Table.{find_name, Name, is_clk, declared, port_declared, items_declared, ports_of, ports_in, is_module_name, is_doubled_name, first_violation, module_named, one_if}
use Rattle.vlog_tree.specs.V2.{v2_uses, item_uses, instance_uses, inner_use, all_connected}
use Rattle.vlog_tree.specs.Loops.{item_instances}
use Rattle.tapa_base.proofs.Lists.{of_flat, of_map, has_left, has_right, has_split}
use Rattle.vlog_tree.proofs.Walks.{items_declared-cons}
use Rattle.vlog_tree.specs.declared.tree.PortDecl.{PortDecl}
use Rattle.vlog_tree.specs.declared.table.NetKind.TheVariants.{WireNet, Register, MemoryArray, ChildInstance}
use Rattle.vlog_run_laws.proofs.runs.Sound.{item_right, port_right}
use Rattle.tapa_base.proofs.Tests.{not_no, true_not_false}
use Rattle.std.proofs.lemmas.Bool.{or_parts as both_false}

pub same_name : (x : Name) → bytes_eq x x ≡ true
same_name x = (bytes_decides x x).1 refl

pub count_cons : {A : Type 0} (p : A → Bool) (x : A) (xs : List A) → count_by p (x ∷ xs) ≡ one_if (p x) + count_by p xs
count_cons p x xs = sum_by-cons (λ y. one_if (p y)) x xs

one_if_true : (b : Bool) → b ≡ true → one_if b ≡ 1
one_if_true true e = refl
one_if_true false e = cc

module _ {A : Type 0} (p : A → Bool) where
  pub counted : (xs : List A) (x : A) → Has xs x → p x ≡ true → 1 ≤ count_by p xs
  counted [] x h e = absurd h
  counted (y ∷ ys) x (inl s) e =
      let c : count_by p (y ∷ ys) ≡ one_if (p y) + count_by p ys = count_cons p y ys in
      let here : one_if (p y) ≡ 1 = one_if_true (p y) (ap p s ∙ e) in
      omega arith
  counted (y ∷ ys) x (inr h) e =
      let c : count_by p (y ∷ ys) ≡ one_if (p y) + count_by p ys = count_cons p y ys in
      let rest : 1 ≤ count_by p ys = counted ys x h e in
      omega arith

  pub twice_counted : (z : A) (zs : List A) (y : A) → p z ≡ true → Has zs y → p y ≡ true → count_by p (z ∷ zs) < 2 → ⊥
  twice_counted z zs y e k f low =
      let c : count_by p (z ∷ zs) ≡ one_if (p z) + count_by p zs = count_cons p z zs in
      let rest : 1 ≤ count_by p zs = counted zs y k f in
      let here : one_if (p z) ≡ 1 = one_if_true (p z) e in
      omega arith

  -- two that are counted where at most one is are the same
  pub alone : (xs : List A) (x y : A) → Has xs x → Has xs y → p x ≡ true → p y ≡ true → count_by p xs < 2 → x ≡ y
  alone [] x y h k e f low = absurd h
  alone (z ∷ zs) x y (inl s) (inl t) e f low = sym s ∙ t
  alone (z ∷ zs) x y (inl s) (inr k) e f low = absurd (twice_counted z zs y (ap p s ∙ e) k f low)
  alone (z ∷ zs) x y (inr h) (inl t) e f low = absurd (twice_counted z zs x (ap p t ∙ f) h e low)
  alone (z ∷ zs) x y (inr h) (inr k) e f low =
      let c : count_by p (z ∷ zs) ≡ one_if (p z) + count_by p zs = count_cons p z zs in
      alone zs x y h k e f (omega arith)

pub below_two : (n : ℕ) → nat_le 2 n ≡ false → n < 2
below_two n h = grind (arith, nat_tests)

-- whether a line declares a name
abbrev pub declares : Name → Item → Bool
declares x (Instance m i connections) = bytes_eq i x
declares x (Wire w y) = bytes_eq y x
declares x (Reg w y) = bytes_eq y x
declares x (Memory w y n) = bytes_eq y x
declares x (Assign y e) = false
declares x (Always b) = false

few_more : {A B : Type 0} (p : A → Bool) (q : B → Bool) (x : A) (xs : List A) (y : B) (ys : List B) → (p x ≡ true → q y ≡ true) → count_by p xs ≤ count_by q ys → count_by p (x ∷ xs) ≤ count_by q (y ∷ ys)
few_more p q x xs y ys f h =
    let a : count_by p (x ∷ xs) ≡ one_if (p x) + count_by p xs = count_cons p x xs in
    let b : count_by q (y ∷ ys) ≡ one_if (q y) + count_by q ys = count_cons q y ys in
    let c : one_if (p x) ≤ one_if (q y) = one_below (p x) (q y) f in
    omega arith where
      one_below : (a b : Bool) → (a ≡ true → b ≡ true) → one_if a ≤ one_if b
      one_below false b f = omega arith
      one_below true true f = omega arith
      one_below true false f = let e = f refl in cc

few_same : {A B : Type 0} (p : A → Bool) (q : B → Bool) (x : A) (xs : List A) (ys : List B) → p x ≡ false → count_by p xs ≤ count_by q ys → count_by p (x ∷ xs) ≤ count_by q ys
few_same p q x xs ys e h =
    let a : count_by p (x ∷ xs) ≡ one_if (p x) + count_by p xs = count_cons p x xs in
    let c : one_if (p x) ≡ 0 = ap (λ b. one_if b) e in
    omega arith

module _ (x : Name) where
  abbrev has_name : Declaration → Bool
  has_name d = bytes_eq d.name x

  lines_few : (items : List Item) → count_by (declares x) items ≤ count_by has_name (items_declared items)
  lines_few [] = omega arith
  lines_few (Instance m i connections ∷ items) = few_more (declares x) has_name (Instance m i connections) items (record { name = i; net_kind = ChildInstance; bits = 0; cells = 0 }) (items_declared items) (λ e. e) (lines_few items)
  lines_few (Wire w y ∷ items) = few_more (declares x) has_name (Wire w y) items (record { name = y; net_kind = WireNet; bits = w; cells = 0 }) (items_declared items) (λ e. e) (lines_few items)
  lines_few (Reg w y ∷ items) = few_more (declares x) has_name (Reg w y) items (record { name = y; net_kind = Register; bits = w; cells = 0 }) (items_declared items) (λ e. e) (lines_few items)
  lines_few (Memory w y n ∷ items) = few_more (declares x) has_name (Memory w y n) items (record { name = y; net_kind = MemoryArray; bits = w; cells = n }) (items_declared items) (λ e. e) (lines_few items)
  lines_few (Assign y e ∷ items) = few_same (declares x) has_name (Assign y e) items (items_declared items) refl (lines_few items)
  lines_few (Always b ∷ items) = few_same (declares x) has_name (Always b) items (items_declared items) refl (lines_few items)

child_first : (items : List Item) (kn j i : Name) (m : Name) (connections : List Connection) (b : Bool) → bytes_eq j i ≡ b → ((n : Name) × (ls : List Connection) × Has items (Instance n i ls) × (child_of items i ≡ Some n))
    → (n : Name) × (ls : List Connection) × Has {N = Item} (Instance m j connections ∷ items) (Instance n i ls) × (cond b (Some m) (child_of items i) ≡ Some n)
child_first items kn j i m connections true e r = (m, connections, inl (ap (λ z. Instance m z connections) ((bytes_decides j i).0 e)), refl)
child_first items kn j i m connections false e r = (r.0, r.1, inr r.2, r.3)

child_found : (items : List Item) (kn i : Name) (connections : List Connection) → Has items (Instance kn i connections) → (n : Name) × (ls : List Connection) × Has items (Instance n i ls) × (child_of items i ≡ Some n)
child_found [] kn i connections h = absurd h
child_found (Instance m j ls ∷ items) kn i connections (inl e) =
    let same : i ≡ j = cc e in
    (m, ls, inl (ap (λ z. Instance m z ls) (sym same)), ap (λ b. cond b (Some m) (child_of items i)) ((bytes_decides j i).1 (sym same)))
child_found (Instance m j ls ∷ items) kn i connections (inr h) = child_first items kn j i m ls (bytes_eq j i) refl (child_found items kn i connections h)
child_found (Wire w y ∷ items) kn i connections (inl e) = cc
child_found (Wire w y ∷ items) kn i connections (inr h) = let r = child_found items kn i connections h in (r.0, r.1, inr r.2, r.3)
child_found (Reg w y ∷ items) kn i connections (inl e) = cc
child_found (Reg w y ∷ items) kn i connections (inr h) = let r = child_found items kn i connections h in (r.0, r.1, inr r.2, r.3)
child_found (Memory w y n ∷ items) kn i connections (inl e) = cc
child_found (Memory w y n ∷ items) kn i connections (inr h) = let r = child_found items kn i connections h in (r.0, r.1, inr r.2, r.3)
child_found (Assign y v ∷ items) kn i connections (inl e) = cc
child_found (Assign y v ∷ items) kn i connections (inr h) = let r = child_found items kn i connections h in (r.0, r.1, inr r.2, r.3)
child_found (Always b ∷ items) kn i connections (inl e) = cc
child_found (Always b ∷ items) kn i connections (inr h) = let r = child_found items kn i connections h in (r.0, r.1, inr r.2, r.3)

pub of_items : (items : List Item) (d : Declaration) → Has (items_declared items) d → (it : Item) × Has items it × Has (items_declared (it ∷ [])) d
of_items [] d h = absurd h
of_items (it ∷ items) d h = elim (has_split (items_declared (it ∷ [])) (items_declared items) d (subst (λ l. Has l d) (items_declared-cons it items) h)) [
  | inl l ↦ (it, inl refl, l)
  | inr r ↦ (let t = of_items items d r in (t.0, inr t.1, t.2))
]

pub items_have : (items : List Item) (it : Item) (d : Declaration) → Has items it → Has (items_declared (it ∷ [])) d → Has (items_declared items) d
items_have [] it d h k = absurd h
items_have (z ∷ items) it d (inl e) k = subst (λ l. Has l d) (sym (items_declared-cons z items)) (has_left (items_declared (z ∷ [])) (items_declared items) d (subst (λ y. Has (items_declared (y ∷ [])) d) (sym e) k))
items_have (z ∷ items) it d (inr h) k = subst (λ l. Has l d) (sym (items_declared-cons z items)) (has_right (items_declared (z ∷ [])) (items_declared items) d (items_have items it d h k))

find_here : (ds : List Declaration) (c d : Declaration) (b : Bool) → bytes_eq c.name d.name ≡ b → (Has ds d → Has ds (find_name ds d.name) × (bytes_eq (find_name ds d.name).name d.name ≡ true)) → (c ≡ d) ⊎ Has ds d
    → Has (c ∷ ds) (cond b c (find_name ds d.name)) × (bytes_eq (cond b c (find_name ds d.name)).name d.name ≡ true)
find_here ds c d true e f h = (inl refl, e)
find_here ds c d false e f (inl s) = absurd (true_not_false (sym (ap (λ (k : Declaration). bytes_eq k.name d.name) s ∙ same_name d.name) ∙ e))
find_here ds c d false e f (inr h) = let r = f h in (inr r.0, r.1)

-- the declaration that a declared name stands for
pub find_there : (ds : List Declaration) (d : Declaration) → Has ds d → Has ds (find_name ds d.name) × (bytes_eq (find_name ds d.name).name d.name ≡ true)
find_there [] d h = absurd h
find_there (c ∷ ds) d h = find_here ds c d (bytes_eq c.name d.name) refl (find_there ds d) h

module _ (ms : List ModuleTree) (names : first_violation (v2_uses ms) ≡ None) (m : ModuleTree) (in_ms : Has ms m) where
  few_lines : (x : Name) → is_doubled_name (declared m) x ≡ false → count_by (declares x) m.items < 2
  few_lines x h =
      let low : count_by (λ (d : Declaration). bytes_eq d.name x) (declared m) < 2 = below_two _ h in
      let split : count_by (λ (d : Declaration). bytes_eq d.name x) (declared m) ≡ count_by (λ (d : Declaration). bytes_eq d.name x) (map port_declared m.ports) + count_by (λ (d : Declaration). bytes_eq d.name x) (items_declared m.items)
      = sum_by-append (λ (d : Declaration). one_if (bytes_eq d.name x)) (map port_declared m.ports) (items_declared m.items) in
      let few : count_by (declares x) m.items ≤ count_by (λ (d : Declaration). bytes_eq d.name x) (items_declared m.items) = lines_few x m.items in
      omega arith

  pub instance_single : (kn i : Name) (connections : List Connection) → Has m.items (Instance kn i connections) → (is_doubled_name (declared m) i ≡ false) × (all_connected (map port_declared (ports_of ms kn)) connections ≡ true)
  unfolding item_uses instance_uses
  instance_single kn i connections has =
      let u = item_right ms names m in_ms (Instance kn i connections) has (i, is_doubled_name (declared m) i || is_clk i || not (all_connected (map port_declared (ports_of ms kn)) connections)) (inr (inl refl)) in
      let v = both_false (is_doubled_name (declared m) i || is_clk i) (not (all_connected (map port_declared (ports_of ms kn)) connections)) u in
      ((both_false (is_doubled_name (declared m) i) (is_clk i) v.0).0, not_no _ v.1)

  few_instances : (kn i : Name) (connections : List Connection) → Has m.items (Instance kn i connections) → count_by (declares i) m.items < 2
  few_instances kn i connections has = few_lines i (instance_single kn i connections has).0

  wire_single : (w : ℕ) (x : Name) → Has m.items (Wire w x) → is_doubled_name (declared m) x ≡ false
  unfolding item_uses
  wire_single w x has = (both_false (is_doubled_name (declared m) x) (is_clk x) (item_right ms names m in_ms (Wire w x) has (inner_use (declared m) x) (inl refl))).0

  register_single : (w : ℕ) (x : Name) → Has m.items (Reg w x) → is_doubled_name (declared m) x ≡ false
  unfolding item_uses
  register_single w x has = (both_false (is_doubled_name (declared m) x) (is_clk x) (item_right ms names m in_ms (Reg w x) has (inner_use (declared m) x) (inl refl))).0

  memory_single : (w : ℕ) (x : Name) (n : ℕ) → Has m.items (Memory w x n) → is_doubled_name (declared m) x ≡ false
  unfolding item_uses
  memory_single w x n has = (both_false (is_doubled_name (declared m) x) (is_clk x) (item_right ms names m in_ms (Memory w x n) has (inner_use (declared m) x) (inl refl))).0

  pub register_clock : (w : ℕ) (x : Name) → Has m.items (Reg w x) → is_clk x ≡ false
  unfolding item_uses
  register_clock w x has = (both_false (is_doubled_name (declared m) x) (is_clk x) (item_right ms names m in_ms (Reg w x) has (inner_use (declared m) x) (inl refl))).1

  port_single : (p : PortDecl) → Has m.ports p → is_doubled_name (declared m) p.name ≡ false
  port_single p has = port_right ms names m in_ms p has

  -- a module has one memory of a name
  pub one_memory : (w w' n n' : ℕ) (x : Name) → Has m.items (Memory w x n) → Has m.items (Memory w' x n') → (w ≡ w') × (n ≡ n')
  one_memory w w' n n' x h k =
      let e : Memory w x n ≡ Memory w' x n' = alone (declares x) m.items (Memory w x n) (Memory w' x n') h k (same_name x) (same_name x) (few_lines x (memory_single w x n h)) in
      (cc e, cc e)

  line_single : (it : Item) → Has m.items it → (d : Declaration) → Has (items_declared (it ∷ [])) d → is_doubled_name (declared m) d.name ≡ false
  line_single (Wire w x) has d (inl e) = subst (λ (d : Declaration). is_doubled_name (declared m) d.name ≡ false) e (wire_single w x has)
  line_single (Wire w x) has d (inr h) = absurd h
  line_single (Reg w x) has d (inl e) = subst (λ (d : Declaration). is_doubled_name (declared m) d.name ≡ false) e (register_single w x has)
  line_single (Reg w x) has d (inr h) = absurd h
  line_single (Memory w x n) has d (inl e) = subst (λ (d : Declaration). is_doubled_name (declared m) d.name ≡ false) e (memory_single w x n has)
  line_single (Memory w x n) has d (inr h) = absurd h
  line_single (Instance kn i connections) has d (inl e) = subst (λ (d : Declaration). is_doubled_name (declared m) d.name ≡ false) e (instance_single kn i connections has).0
  line_single (Instance kn i connections) has d (inr h) = absurd h
  line_single (Assign x e) has d h = absurd h
  line_single (Always b) has d h = absurd h

  -- no name is declared twice
  pub declared_once : (d : Declaration) → Has (declared m) d → is_doubled_name (declared m) d.name ≡ false
  declared_once d h = elim (has_split (map port_declared m.ports) (items_declared m.items) d h) [
    | inl l ↦ (let t = of_map port_declared m.ports d l in subst (λ (d : Declaration). is_doubled_name (declared m) d.name ≡ false) t.2 (port_single t.0 t.1))
    | inr r ↦ (let t = of_items m.items d r in line_single t.0 t.1 d t.2)
  ]

  -- a name stands for its one declaration
  pub stands_for : (d : Declaration) → Has (declared m) d → find_name (declared m) d.name ≡ d
  stands_for d h =
      let f = find_there (declared m) d h in
      alone (λ (k : Declaration). bytes_eq k.name d.name) (declared m) (find_name (declared m) d.name) d f.0 h f.1 (same_name d.name) (below_two _ (declared_once d h))

  -- a module has one instance of a name
  pub one_instance : (kn kn' i : Name) (connections links' : List Connection) → Has m.items (Instance kn i connections) → Has m.items (Instance kn' i links') → (kn ≡ kn') × (connections ≡ links')
  one_instance kn kn' i connections links' h k =
      let e : Instance kn i connections ≡ Instance kn' i links' = alone (declares i) m.items (Instance kn i connections) (Instance kn' i links') h k (same_name i) (same_name i) (few_instances kn i connections h) in
      (cc e, cc e)

  pub child_is : (kn i : Name) (connections : List Connection) → Has m.items (Instance kn i connections) → child_of m.items i ≡ Some kn
  child_is kn i connections has =
      let r = child_found m.items kn i connections has in
      r.3 ∙ ap (λ n. Some n) (one_instance r.0 kn i r.1 connections r.2 has).0

pub instance_item : (items : List Item) (kn i : Name) → Has (flat_map item_instances items) (kn, i) → (connections : List Connection) × Has items (Instance kn i connections)
instance_item items kn i h = let t = of_flat item_instances items (kn, i) h in instance_of t.0 t.1 t.2 where
  instance_of : (it : Item) → Has items it → Has (item_instances it) (kn, i) → (connections : List Connection) × Has items (Instance kn i connections)
  instance_of (Instance m j connections) has (inl e) = (connections, subst (λ (q : Name × Name). Has items (Instance q.0 q.1 connections)) e has)
  instance_of (Instance m j connections) has (inr k) = absurd k
  instance_of (Wire w y) has k = absurd k
  instance_of (Reg w y) has k = absurd k
  instance_of (Memory w y n) has k = absurd k
  instance_of (Assign y e) has k = absurd k
  instance_of (Always b) has k = absurd k

named_here : (ms : List ModuleTree) (m : ModuleTree) (x : Name) (b : Bool) → (is_some (module_named ms x) ≡ true → (k : ModuleTree) × (module_named ms x ≡ Some k)) → is_some (cond b (Some m) (module_named ms x)) ≡ true → (k : ModuleTree) × (cond b (Some m) (module_named ms x) ≡ Some k)
named_here ms m x true f h = (m, refl)
named_here ms m x false f h = f h

pub module_there : (ms : List ModuleTree) (x : Name) → is_module_name ms x ≡ true → (k : ModuleTree) × (module_named ms x ≡ Some k)
module_there [] x h = cc
module_there (m ∷ ms) x h = named_here ms m x (bytes_eq m.name x) (module_there ms x) h

pub record IsNamed (ms : List ModuleTree) (x : Name) (k : ModuleTree) : Type 0 where
  pub name : k.name ≡ x
  pub has : Has ms k
  pub ports : ports_of ms x ≡ k.ports

is_named_here : (ms : List ModuleTree) (m : ModuleTree) (x : Name) (k : ModuleTree) (b : Bool) → bytes_eq m.name x ≡ b → (module_named ms x ≡ Some k → IsNamed ms x k) → cond b (Some m) (module_named ms x) ≡ Some k → (k.name ≡ x) × Has {N = ModuleTree} (m ∷ ms) k
is_named_here ms m x k true e f h = let same : m ≡ k = cc h in (ap (λ (t : ModuleTree). t.name) (sym same) ∙ (bytes_decides m.name x).0 e, inl same)
is_named_here ms m x k false e f h = let r = f h in (r.name, inr r.has)

pub module_is : (ms : List ModuleTree) (x : Name) (k : ModuleTree) → module_named ms x ≡ Some k → IsNamed ms x k
module_is [] x k h = cc
module_is (m ∷ ms) x k h = let r = is_named_here ms m x k (bytes_eq m.name x) refl (module_is ms x k) h in record { name = r.0; has = r.1; ports = ap ports_in h }
