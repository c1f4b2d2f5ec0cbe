-- The names that modules declare have no dot.
use Rattle.std.proofs.Common.{◌≡◌, Bool, true, ◌&&◌, List, [], ◌∷◌, length, map, None, inl, inr, refl, subst}
use Rattle.std.specs.Prelude.{nat_le}
use Rattle.std.specs.List.{list_all}
use Rattle.vlog_tree.specs.declared.tree.Connection.{Connection}
use Rattle.vlog_tree.specs.declared.tree.Item.{Item}
use Rattle.vlog_tree.specs.declared.tree.Item.TheVariants.{Wire, Reg, Memory, Assign, Always, Instance}
use Rattle.vlog_tree.specs.declared.tree.PortDecl.{PortDecl}
use Rattle.vlog_tree.specs.declared.table.Declaration.{Declaration}
use Rattle.vlog_tree.specs.declared.table.NetKind.TheVariants.{ChildInstance}
use Rattle.vlog_tree.specs.Form.{ModuleTree, is_port, is_item, is_connection, IsModule}
use Rattle.tapa_base.specs.Lists.{Has}
use Rattle.vlog_tree.specs.Names.{is_name}
use Rattle.vlog_tree.specs.Table.{Name, declared, port_declared, items_declared, declaration_name}
use Rattle.tapa_base.proofs.Lists.{of_map, has_right, has_split}
use Rattle.vlog_run_laws.proofs.runs.Alone.{of_items, items_have}
use Rattle.vlog_run_laws.proofs.loops.Dots.{at_dot, name_plain}
use Rattle.tapa_base.proofs.Tests.{both_true}

pub list_has : {A : Type 0} (p : A → Bool) (xs : List A) (x : A) → list_all p xs ≡ true → Has xs x → p x ≡ true
list_has p [] x h k = absurd k
list_has p (y ∷ ys) x h (inl e) = subst (λ z. p z ≡ true) e (both_true (p y) (list_all p ys) h).0
list_has p (y ∷ ys) x h (inr k) = list_has p ys x (both_true (p y) (list_all p ys) h).1 k

port_plain : (p : PortDecl) → is_port p ≡ true → at_dot p.name ≡ None
port_plain p h = name_plain p.name (both_true (nat_le 1 p.width) (is_name p.name) h).1

line_plain : (it : Item) → is_item it ≡ true → (d : Declaration) → Has (items_declared (it ∷ [])) d → at_dot d.name ≡ None
line_plain (Wire w x) h d (inl e) = subst (λ (k : Declaration). at_dot k.name ≡ None) e (name_plain x (both_true (nat_le 1 w) (is_name x) h).1)
line_plain (Wire w x) h d (inr k) = absurd k
line_plain (Reg w x) h d (inl e) = subst (λ (k : Declaration). at_dot k.name ≡ None) e (name_plain x (both_true (nat_le 1 w) (is_name x) h).1)
line_plain (Reg w x) h d (inr k) = absurd k
line_plain (Memory w x n) h d (inl e) =
    subst (λ (k : Declaration). at_dot k.name ≡ None) e (name_plain x (both_true (nat_le 1 w) (is_name x) (both_true (nat_le 1 w && is_name x) (nat_le 1 n) h).0).1)
line_plain (Memory w x n) h d (inr k) = absurd k
line_plain (Instance m i connections) h d (inl e) =
    let a = both_true (is_name m && is_name i && nat_le 1 (length connections)) (list_all is_connection connections) h in
    let b = both_true (is_name m && is_name i) (nat_le 1 (length connections)) a.0 in
    subst (λ (k : Declaration). at_dot k.name ≡ None) e (name_plain i (both_true (is_name m) (is_name i) b.0).1)
line_plain (Instance m i connections) h d (inr k) = absurd k
line_plain (Assign x e) h d k = absurd k
line_plain (Always b) h d k = absurd k

module _ (m : ModuleTree) (form : IsModule m) where
  declaration_plain : (d : Declaration) → Has (declared m) d → at_dot d.name ≡ None
  unfolding IsModule
  declaration_plain d h =
      let a = both_true (is_name m.name && nat_le 1 (length m.ports) && list_all is_port m.ports) (list_all is_item m.items) form in
      let b = both_true (is_name m.name && nat_le 1 (length m.ports)) (list_all is_port m.ports) a.0 in
      elim (has_split (map port_declared m.ports) (items_declared m.items) d h) [
        | inl l ↦ (let t = of_map port_declared m.ports d l in
            subst (λ (k : Declaration). at_dot k.name ≡ None) t.2 (port_plain t.0 (list_has is_port m.ports t.0 b.1 t.1)))
        | inr r ↦ (let t = of_items m.items d r in line_plain t.0 (list_has is_item m.items t.0 a.1 t.1) d t.2)
      ]

  -- a declared name has no dot
  pub declared_plain : (x : Name) → Has (map declaration_name (declared m)) x → at_dot x ≡ None
  declared_plain x h =
      let t = of_map declaration_name (declared m) x h in
      subst (λ z. at_dot z ≡ None) t.2 (declaration_plain t.0 t.1)

  -- nor has the name of an instance
  pub instance_plain : (kn i : Name) (connections : List Connection) → Has m.items (Instance kn i connections) → at_dot i ≡ None
  instance_plain kn i connections has =
      let d : Declaration = record { name = i; net_kind = ChildInstance; bits = 0; cells = 0 } in
      declaration_plain d (has_right (map port_declared m.ports) (items_declared m.items) d (items_have m.items (Instance kn i connections) d has (inl refl)))
