-- What is declared by elements, and how names are looked up there.
use Rattle.std.proofs.Common.{◌≡◌, ℕ, ◌+◌, ◌≤◌, Bool, true, false, cond, ◌&&◌, List, [], ◌∷◌, ◌++◌, map, inl, inr, refl, sym, ap, subst, ◌∙◌, arith}
use Rattle.std.specs.Prelude.{◌⊎◌, bytes_eq, count_by, not}
use Rattle.std.specs.List.{list_any, flat_map}
use Rattle.std.proofs.lemmas.List.{map-append, append_assoc}
use Rattle.std.proofs.lemmas.List.Sums.{sum_by-append}
use Rattle.std.specs.Cmp.Lexicographic.{bytes_decides}
use Rattle.vlog_tree.specs.declared.tree.Item.{Item}
use Rattle.vlog_tree.specs.declared.tree.Item.TheVariants.{Wire as WireLine, Reg as RegisterLine, Memory as MemoryLine, Assign as AssignLine, Always as BlockLine, Instance as InstanceLine}
use Rattle.vlog_tree.specs.declared.table.Declaration.{Declaration}
use Rattle.vlog_tree.specs.declared.table.NetKind.{NetKind}
use Rattle.vlog_tree.specs.declared.table.NetKind.TheVariants.{Unknown, Input as InputNet, Output as OutputNet, WireNet, Register as RegisterNet, MemoryArray, ChildInstance}
use Rattle.vlog_tree.specs.Form.{ModuleTree}
use Rattle.tapa_base.specs.Lists.{Has}
use Rattle.vlog_tree.specs.Labels.{rst}
use Rattle.vlog_tree.specs.Table.{Name, clk, declared, port_declared, items_declared, find_name, net_kind_of, one_if}
use Rattle.tapa_base.proofs.Lists.{has_left, has_right, has_split}
use Rattle.vlog_module_laws.proofs.Lists.{count_cons, counted, none_counted}
use Rattle.hw_build.specs.Elements.{Element, Input, Output, Outlet, Wire, InstanceWire, Register, Memory, Block, Instance, element_ports, element_items, empty, with, with_all}
use Rattle.hw_build.specs.Fitting.{declarations, first_table, table_after, is_new, has_fitting_names, have_fitting_names}
use Rattle.vlog_module_laws.proofs.Forms.{itself as same_name}
use Rattle.tapa_base.proofs.Tests.{both_true}
use Rattle.std.proofs.lemmas.Bool.{or_parts as both_false}

abbrev pub clock_declared : Declaration
clock_declared = record { name = clk; net_kind = InputNet; bits = 1; cells = 0 }

abbrev pub reset_declared : Declaration
reset_declared = record { name = rst; net_kind = InputNet; bits = 1; cells = 0 }

-- how often a name is declared
abbrev pub times : List Declaration → Name → ℕ
times t x = count_by (λ (d : Declaration). bytes_eq d.name x) t

pub count_append : {A : Type 0} (p : A → Bool) (xs ys : List A) → count_by p (xs ++ ys) ≡ count_by p xs + count_by p ys
count_append p xs ys = sum_by-append (λ x. cond (p x) 1 0) xs ys

pub items_declared_append : (xs ys : List Item) → items_declared (xs ++ ys) ≡ items_declared xs ++ items_declared ys
items_declared_append [] ys = refl
items_declared_append (WireLine w x ∷ xs) ys = ap (λ l. record { name = x; net_kind = WireNet; bits = w; cells = 0 } ∷ l) (items_declared_append xs ys)
items_declared_append (RegisterLine w x ∷ xs) ys = ap (λ l. record { name = x; net_kind = RegisterNet; bits = w; cells = 0 } ∷ l) (items_declared_append xs ys)
items_declared_append (MemoryLine w x n ∷ xs) ys = ap (λ l. record { name = x; net_kind = MemoryArray; bits = w; cells = n } ∷ l) (items_declared_append xs ys)
items_declared_append (InstanceLine k i connections ∷ xs) ys = ap (λ l. record { name = i; net_kind = ChildInstance; bits = 0; cells = 0 } ∷ l) (items_declared_append xs ys)
items_declared_append (AssignLine x v ∷ xs) ys = items_declared_append xs ys
items_declared_append (BlockLine b ∷ xs) ys = items_declared_append xs ys

-- a table has what a module declares
pub record IsTable (m : ModuleTree) (t : List Declaration) : Type 0 where
  pub has : (d : Declaration) → Has t d → Has (declared m) d
  pub back : (d : Declaration) → Has (declared m) d → Has t d
  pub count : (x : Name) → times (declared m) x ≡ times t x

declared_with : (m : ModuleTree) (e : Element) → declared (with m e) ≡ (map port_declared m.ports ++ map port_declared (element_ports e)) ++ (items_declared m.items ++ items_declared (element_items e))
declared_with m e =
    ap (λ l. l ++ items_declared (m.items ++ element_items e)) (map-append port_declared m.ports (element_ports e))
    ∙ ap (λ l. (map port_declared m.ports ++ map port_declared (element_ports e)) ++ l) (items_declared_append m.items (element_items e))

module _ (a b c d : List Declaration) where
  shuffled : (x : Declaration) → Has ((a ++ c) ++ (b ++ d)) x → Has ((c ++ d) ++ (a ++ b)) x
  shuffled x h = elim (has_split (a ++ c) (b ++ d) x h) [
    | inl l ↦
        (elim (has_split a c x l) [
          | inl p ↦ has_right (c ++ d) (a ++ b) x (has_left a b x p)
          | inr p ↦ has_left (c ++ d) (a ++ b) x (has_left c d x p)
        ])
    | inr r ↦
        (elim (has_split b d x r) [
          | inl p ↦ has_right (c ++ d) (a ++ b) x (has_right a b x p)
          | inr p ↦ has_left (c ++ d) (a ++ b) x (has_right c d x p)
        ])
  ]

  shuffled_back : (x : Declaration) → Has ((c ++ d) ++ (a ++ b)) x → Has ((a ++ c) ++ (b ++ d)) x
  shuffled_back x h = elim (has_split (c ++ d) (a ++ b) x h) [
    | inl l ↦
        (elim (has_split c d x l) [
          | inl p ↦ has_left (a ++ c) (b ++ d) x (has_right a c x p)
          | inr p ↦ has_right (a ++ c) (b ++ d) x (has_right b d x p)
        ])
    | inr r ↦
        (elim (has_split a b x r) [
          | inl p ↦ has_left (a ++ c) (b ++ d) x (has_left a c x p)
          | inr p ↦ has_right (a ++ c) (b ++ d) x (has_left b d x p)
        ])
  ]

  shuffled_times : (x : Name) → times ((a ++ c) ++ (b ++ d)) x ≡ times (c ++ d) x + times (a ++ b) x
  shuffled_times x =
      let p = λ (d : Declaration). bytes_eq d.name x in
      let e1 : times ((a ++ c) ++ (b ++ d)) x ≡ times (a ++ c) x + times (b ++ d) x = count_append p (a ++ c) (b ++ d) in
      let e2 : times (a ++ c) x ≡ times a x + times c x = count_append p a c in
      let e3 : times (b ++ d) x ≡ times b x + times d x = count_append p b d in
      let e4 : times (c ++ d) x ≡ times c x + times d x = count_append p c d in
      let e5 : times (a ++ b) x ≡ times a x + times b x = count_append p a b in
      omega arith

with_table : (m : ModuleTree) (t : List Declaration) (e : Element) → IsTable m t → IsTable (with m e) (declarations e ++ t)
with_table m t e h =
    let ports = map port_declared m.ports in
    let items = items_declared m.items in
    let new_ports = map port_declared (element_ports e) in
    let new_items = items_declared (element_items e) in
    let same : declared (with m e) ≡ (ports ++ new_ports) ++ (items ++ new_items) = declared_with m e in
    record {
      has = λ d in_t.
          subst (λ (l : List Declaration). Has l d) (sym same)
          (shuffled_back ports items new_ports new_items d
          (elim (has_split (declarations e) t d in_t) [
            | inl l ↦ has_left (declarations e) (ports ++ items) d l
            | inr r ↦ has_right (declarations e) (ports ++ items) d (h.has d r)
          ]));
      back = λ d in_m.
          (elim (has_split (declarations e) (ports ++ items) d (shuffled ports items new_ports new_items d (subst (λ (l : List Declaration). Has l d) same in_m))) [
            | inl l ↦ has_left (declarations e) t d l
            | inr r ↦ has_right (declarations e) t d (h.back d r)
          ]);
      count = λ x.
          ap (λ l. times l x) same ∙ shuffled_times ports items new_ports new_items x
          ∙ ap (λ n. times (declarations e) x + n) (h.count x) ∙ sym (count_append (λ (d : Declaration). bytes_eq d.name x) (declarations e) t);
    }

pub table_of_all : (elements : List Element) (m : ModuleTree) (t : List Declaration) → IsTable m t → IsTable (with_all m elements) (table_after t elements)
table_of_all [] m t h = h
table_of_all (e ∷ elements) m t h = table_of_all elements (with m e) (declarations e ++ t) (with_table m t e h)

pub first_is_table : (name : Name) → IsTable (empty name) first_table
first_is_table name = record { has = λ d h. h; back = λ d h. h; count = λ x. refl }

-- what was declared stays declared
pub stays : (elements : List Element) (t : List Declaration) (d : Declaration) → Has t d → Has (table_after t elements) d
stays [] t d h = h
stays (e ∷ elements) t d h = stays elements (declarations e ++ t) d (has_right (declarations e) t d h)

-- and what an element declares
pub stays_new : (elements : List Element) (t : List Declaration) (e : Element) (d : Declaration) → Has elements e → Has (declarations e) d → Has (table_after t elements) d
stays_new [] t e d h k = absurd h
stays_new (c ∷ elements) t e d (inl s) k = stays elements (declarations c ++ t) d (has_left (declarations c) t d (subst (λ (z : Element). Has (declarations z) d) (sym s) k))
stays_new (c ∷ elements) t e d (inr h) k = stays_new elements (declarations c ++ t) e d h k

-- all comes from somewhere
pub comes_from : (elements : List Element) (t : List Declaration) (d : Declaration) → Has (table_after t elements) d → Has t d ⊎ ((e : Element) × Has elements e × Has (declarations e) d)
comes_from [] t d h = inl h
comes_from (c ∷ elements) t d h = elim (comes_from elements (declarations c ++ t) d h) [
  | inl l ↦ (elim (has_split (declarations c) t d l) [ inl p ↦ inr (c, inl refl, p) | inr p ↦ inl p ])
  | inr r ↦ inr (r.0, inr r.1, r.2)
]

not_true : (b : Bool) → not b ≡ true → b ≡ false
not_true true e = cc
not_true false e = refl

none_any : {A : Type 0} (p : A → Bool) (xs : List A) → list_any p xs ≡ false → count_by p xs ≡ 0
none_any p [] e = refl
none_any p (x ∷ xs) e =
    let both = both_false (p x) (list_any p xs) e in
    let c : count_by p (x ∷ xs) ≡ one_if (p x) + count_by p xs = count_cons p x xs in
    let here : one_if (p x) ≡ 0 = ap one_if both.0 in
    let rest : count_by p xs ≡ 0 = none_any p xs both.1 in
    omega arith

pub new_is_none : (t : List Declaration) (x : Name) → is_new t x ≡ true → times t x ≡ 0
new_is_none t x e = none_any (λ (d : Declaration). bytes_eq d.name x) t (not_true (list_any (λ (d : Declaration). bytes_eq d.name x) t) e)

-- no name is declared twice
abbrev pub AreDistinct : List Declaration → Type 0
AreDistinct t = (x : Name) → times t x ≤ 1

more_of : (d : Declaration) (t : List Declaration) (x : Name) (b : Bool) → bytes_eq d.name x ≡ b → is_new t d.name ≡ true → times t x ≤ 1 → one_if b + times t x ≤ 1
more_of d t x true e new h = let none : times t x ≡ 0 = subst (λ y. times t y ≡ 0) ((bytes_decides d.name x).0 e) (new_is_none t d.name new) in omega arith
more_of d t x false e new h = omega arith

pub distinct_more : (d : Declaration) (t : List Declaration) → is_new t d.name ≡ true → AreDistinct t → AreDistinct (d ∷ t)
distinct_more d t new h x =
    let c : times (d ∷ t) x ≡ one_if (bytes_eq d.name x) + times t x = count_cons (λ (d : Declaration). bytes_eq d.name x) d t in
    let low : one_if (bytes_eq d.name x) + times t x ≤ 1 = more_of d t x (bytes_eq d.name x) refl new (h x) in
    omega arith

distinct_with : (ms : List ModuleTree) (t : List Declaration) (e : Element) → has_fitting_names ms t e ≡ true → AreDistinct t → AreDistinct (declarations e ++ t)
distinct_with ms t (Input w x) h d = distinct_more (record { name = x; net_kind = InputNet; bits = w; cells = 0 }) t h d
distinct_with ms t (Output w x v) h d = distinct_more (record { name = x; net_kind = OutputNet; bits = w; cells = 0 }) t (both_true (is_new t x) _ h).0 d
distinct_with ms t (Outlet w x) h d = distinct_more (record { name = x; net_kind = OutputNet; bits = w; cells = 0 }) t h d
distinct_with ms t (Wire w x v) h d = distinct_more (record { name = x; net_kind = WireNet; bits = w; cells = 0 }) t (both_true (is_new t x) _ h).0 d
distinct_with ms t (InstanceWire w x) h d = distinct_more (record { name = x; net_kind = WireNet; bits = w; cells = 0 }) t h d
distinct_with ms t (Register w x) h d = distinct_more (record { name = x; net_kind = RegisterNet; bits = w; cells = 0 }) t h d
distinct_with ms t (Memory w x n) h d = distinct_more (record { name = x; net_kind = MemoryArray; bits = w; cells = n }) t h d
distinct_with ms t (Block b) h d = d
distinct_with ms t (Instance k i connections) h d =
    distinct_more (record { name = i; net_kind = ChildInstance; bits = 0; cells = 0 }) t (new_of (is_new t i) _ _ _ h) d where
      new_of : (a b c d : Bool) → (a && b && c && d) ≡ true → a ≡ true
      new_of true b c d e = refl
      new_of false b c d e = e

pub distinct_all : (ms : List ModuleTree) (elements : List Element) (t : List Declaration) → have_fitting_names ms t elements ≡ true → AreDistinct t → AreDistinct (table_after t elements)
distinct_all ms [] t h d = d
distinct_all ms (e ∷ elements) t h d =
    let both = both_true (has_fitting_names ms t e) (have_fitting_names ms (declarations e ++ t) elements) h in
    distinct_all ms elements (declarations e ++ t) both.1 (distinct_with ms t e both.0 d)

-- look-ups
found_of : (c d : Declaration) (t : List Declaration) (x : Name) (b : Bool) → bytes_eq c.name x ≡ b → b ≡ true → c ≡ d → (cond b c (find_name t x)) ≡ d
found_of c d t x true e f g = g
found_of c d t x false e f g = cc

pub found : (t : List Declaration) (d : Declaration) → Has t d → times t d.name ≤ 1 → find_name t d.name ≡ d
found [] d h low = absurd h
found (c ∷ t) d (inl e) low = found_of c d t d.name (bytes_eq c.name d.name) refl ((bytes_decides c.name d.name).1 (ap (λ (z : Declaration). z.name) e)) e
found (c ∷ t) d (inr h) low =
    let p = λ (z : Declaration). bytes_eq z.name d.name in
    let k : times (c ∷ t) d.name ≡ one_if (bytes_eq c.name d.name) + times t d.name = count_cons p c t in
    let one : 1 ≤ times t d.name = counted p t d h (same_name d.name) in
    let none : bytes_eq c.name d.name ≡ false = none_counted (bytes_eq c.name d.name) (omega arith) in
    ap (λ b. cond b c (find_name t d.name)) none ∙ found t d h (omega arith)

abbrev pub is_known : NetKind → Bool
is_known Unknown = false
is_known InputNet = true
is_known OutputNet = true
is_known WireNet = true
is_known RegisterNet = true
is_known MemoryArray = true
is_known ChildInstance = true

known_of : (c : Declaration) (t : List Declaration) (x : Name) (b : Bool) → bytes_eq c.name x ≡ b
    → (is_known (find_name t x).net_kind ≡ true → Has t (find_name t x) × ((find_name t x).name ≡ x))
    → is_known (cond b c (find_name t x)).net_kind ≡ true → Has (c ∷ t) (cond b c (find_name t x)) × ((cond b c (find_name t x)).name ≡ x)
known_of c t x true e ih h = (inl refl, (bytes_decides c.name x).0 e)
known_of c t x false e ih h = let r = ih h in (inr r.0, r.1)

-- a name that stands for something stands in the table
pub known : (t : List Declaration) (x : Name) → is_known (net_kind_of t x) ≡ true → Has t (find_name t x) × ((find_name t x).name ≡ x)
known [] x h = cc
known (c ∷ t) x h = known_of c t x (bytes_eq c.name x) refl (known t x) h

-- and there in each table that has all of this one and nothing twice
pub same_in : (t all : List Declaration) → ((d : Declaration) → Has t d → Has all d) → AreDistinct all → (x : Name) → is_known (net_kind_of t x) ≡ true → find_name all x ≡ find_name t x
same_in t all within distinct x h =
    let k = known t x h in
    subst (λ y. find_name all y ≡ find_name t x) k.1 (found all (find_name t x) (within (find_name t x) k.0) (distinct (find_name t x).name))

-- the lines and the ports of what is built
pub items_of_all : (elements : List Element) (m : ModuleTree) → (with_all m elements).items ≡ m.items ++ flat_map element_items elements
items_of_all [] m = sym (nothing m.items) where
  nothing : {A : Type 0} (xs : List A) → xs ++ [] ≡ xs
  nothing [] = refl
  nothing (x ∷ xs) = ap (λ l. x ∷ l) (nothing xs)
items_of_all (e ∷ elements) m = items_of_all elements (with m e) ∙ append_assoc m.items (element_items e) (flat_map element_items elements)

pub ports_of_all : (elements : List Element) (m : ModuleTree) → (with_all m elements).ports ≡ m.ports ++ flat_map element_ports elements
ports_of_all [] m = sym (nothing m.ports) where
  nothing : {A : Type 0} (xs : List A) → xs ++ [] ≡ xs
  nothing [] = refl
  nothing (x ∷ xs) = ap (λ l. x ∷ l) (nothing xs)
ports_of_all (e ∷ elements) m = ports_of_all elements (with m e) ∙ append_assoc m.ports (element_ports e) (flat_map element_ports elements)

pub name_of_all : (elements : List Element) (m : ModuleTree) → (with_all m elements).name ≡ m.name
name_of_all [] m = refl
name_of_all (e ∷ elements) m = name_of_all elements (with m e)
