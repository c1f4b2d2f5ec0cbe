-- What is built has the form of a module.
use Rattle.std.proofs.Common.{◌≡◌, ◌+◌, ◌≤◌, Bool, true, false, ◌&&◌, List, [], ◌∷◌, ◌++◌, length, refl, arith, length-append}
use Rattle.std.specs.Prelude.{nat_le}
use Rattle.std.specs.List.{list_all}
use Rattle.std.proofs.lemmas.Bool.{le-leb, and_from as yes_and}
use Rattle.vlog_tree.specs.Names.{is_name, starts_name, goes_on, is_keyword, always_to_default, defparam_to_event, for_to_input, instance_to_not, notif0_to_real, realtime_to_strong0, strong1_to_unsigned, use_to_xor}
use Rattle.vlog_tree.specs.Form.{ModuleTree, is_port, is_item, is_value, is_step, is_connection, nested, IsModule}
use Rattle.vlog_tree.specs.Table.{Name, clk}
use Rattle.vlog_tree.specs.Labels.{rst}
use Rattle.hw_build.specs.Elements.{Element, Input, Output, Outlet, Wire, InstanceWire, Register, Memory, Block, Instance, built, with, with_all, empty, element_ports, element_items}
use Rattle.hw_build.specs.Forms.{is_element}
use Rattle.tapa_base.proofs.Tests.{both_true}

pub all_append : {A : Type 0} (p : A → Bool) (xs ys : List A) → list_all p xs ≡ true → list_all p ys ≡ true → list_all p (xs ++ ys) ≡ true
all_append p [] ys e f = f
all_append p (x ∷ xs) ys e f = let t = both_true (p x) (list_all p xs) e in yes_and (p x) (list_all p (xs ++ ys)) t.0 (all_append p xs ys t.1 f)

record HasForm (m : ModuleTree) : Type 0 where
  name : is_name m.name ≡ true
  some : 1 ≤ length m.ports
  ports : list_all is_port m.ports ≡ true
  items : list_all is_item m.items ≡ true

pub and_true : (a : Bool) → a ≡ true → (a && true) ≡ true
and_true a e = yes_and a true e refl

ports_of : (e : Element) → is_element e ≡ true → list_all is_port (element_ports e) ≡ true
ports_of (Input w x) h = and_true (nat_le 1 w && is_name x) h
ports_of (Output w x v) h = and_true (nat_le 1 w && is_name x) (both_true (nat_le 1 w && is_name x) (is_value v) h).0
ports_of (Outlet w x) h = and_true (nat_le 1 w && is_name x) h
ports_of (Wire w x v) h = refl
ports_of (InstanceWire w x) h = refl
ports_of (Register w x) h = refl
ports_of (Memory w x n) h = refl
ports_of (Block b) h = refl
ports_of (Instance k i cs) h = refl

assigned : (a b c : Bool) → (a && b && c) ≡ true → ((b && c) && true) ≡ true
assigned true b c h = and_true (b && c) h
assigned false b c h = cc

declared_and_assigned : (a b c : Bool) → (a && b && c) ≡ true → ((a && b) && ((b && c) && true)) ≡ true
declared_and_assigned a b c h = yes_and (a && b) ((b && c) && true) (both_true (a && b) c h).0 (assigned a b c h)

items_of : (e : Element) → is_element e ≡ true → list_all is_item (element_items e) ≡ true
items_of (Input w x) h = refl
items_of (Output w x v) h = assigned (nat_le 1 w) (is_name x) (is_value v) h
items_of (Outlet w x) h = refl
items_of (Wire w x v) h = declared_and_assigned (nat_le 1 w) (is_name x) (is_value v) h
items_of (InstanceWire w x) h = and_true (nat_le 1 w && is_name x) h
items_of (Register w x) h = and_true (nat_le 1 w && is_name x) h
items_of (Memory w x n) h = and_true (nat_le 1 w && is_name x && nat_le 1 n) h
items_of (Block b) h = and_true (nested [] b && list_all is_step b) h
items_of (Instance k i cs) h = and_true (is_name k && is_name i && nat_le 1 (length cs) && list_all is_connection cs) h

one_more : (m : ModuleTree) (e : Element) → HasForm m → is_element e ≡ true → HasForm (with m e)
one_more m e f h = record {
  name = f.name;
  some = let s = f.some in omega (arith, s, length-append m.ports (element_ports e));
  ports = all_append is_port m.ports (element_ports e) f.ports (ports_of e h);
  items = all_append is_item m.items (element_items e) f.items (items_of e h);
}

all_of : (es : List Element) (m : ModuleTree) → HasForm m → list_all is_element es ≡ true → HasForm (with_all m es)
all_of [] m f h = f
all_of (e ∷ es) m f h = let t = both_true (is_element e) (list_all is_element es) h in all_of es (with m e) (one_more m e f t.0) t.1

begins : (name : Name) → is_name name ≡ true → HasForm (empty name)
unfolding clk rst starts_name goes_on is_keyword always_to_default defparam_to_event for_to_input instance_to_not notif0_to_real realtime_to_strong0 strong1_to_unsigned use_to_xor
begins name h = record { name = h; some = omega arith; ports = refl; items = refl }

pub built_form : (name : Name) (elements : List Element) → is_name name ≡ true → list_all is_element elements ≡ true → IsModule (built name elements)
unfolding IsModule
built_form name elements h e =
    let f = all_of elements (empty name) (begins name h) e in
    yes_and (is_name (built name elements).name && nat_le 1 (length (built name elements).ports) && list_all is_port (built name elements).ports) (list_all is_item (built name elements).items)
    (yes_and (is_name (built name elements).name && nat_le 1 (length (built name elements).ports)) (list_all is_port (built name elements).ports)
    (yes_and (is_name (built name elements).name) (nat_le 1 (length (built name elements).ports)) f.name (le-leb 1 (length (built name elements).ports) f.some)) f.ports)
    f.items
