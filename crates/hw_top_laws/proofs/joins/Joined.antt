-- An instance whose module has no two ports of one name, joined to nets that stand before it.
use Rattle.std.proofs.Common.{◌≡◌, ℕ, ◌+◌, ◌≤◌, true, eqb, ◌&&◌, List, [], ◌∷◌, length, map, inl, inr, refl, sym, ap, subst, ◌∙◌, arith}
use Rattle.std.specs.Prelude.{bytes_eq, count_by, nat_le}
use Rattle.std.specs.List.{list_all, AllByRecursion}
use Rattle.std.proofs.lemmas.Bool.{le-leb, leb-true, eq-eqb, and_from as yes_and}
use Rattle.vlog_tree.specs.declared.tree.Connection.{Connection}
use Rattle.vlog_tree.specs.declared.tree.PortDecl.{PortDecl}
use Rattle.vlog_tree.specs.declared.table.Declaration.{Declaration}
use Rattle.vlog_tree.specs.declared.table.NetKind.TheVariants.{Input as InputNet, Output as OutputNet}
use Rattle.vlog_tree.specs.Form.{ModuleTree, is_port, is_item, is_connection, IsModule}
use Rattle.tapa_base.specs.Lists.{Has}
use Rattle.vlog_tree.specs.Labels.{rst}
use Rattle.vlog_tree.specs.Names.{is_name, starts_name, goes_on, is_keyword, always_to_default, defparam_to_event, for_to_input, instance_to_not, notif0_to_real, realtime_to_strong0, strong1_to_unsigned, use_to_xor}
use Rattle.vlog_tree.specs.Table.{Name, clk, port_declared, find_name, net_kind_of, bits_of, times_in, one_if}
use Rattle.vlog_tree.specs.V2.{all_connected}
use Rattle.tapa_base.proofs.Lists.{has_map, has_flat, of_flat}
use Rattle.vlog_module_laws.proofs.Lists.{count_cons, counted}
use Rattle.vlog_run_laws.proofs.runs.Alone.{module_is}
use Rattle.hw_build.specs.Elements.{Element, Outlet, InstanceWire}
use Rattle.hw_build.proofs.Tables.{times, found}
use Rattle.hw_build.proofs.Uses.{all_has}
use Rattle.hw_build.specs.Fits.{declared_names, AreOnce}
use Rattle.hw_build.proofs.ListTables.{named, net_name}
use Rattle.hw_top_laws.specs.joins.Joins.{open_nets, IsOpen, input_port, output_port, port_names, joined_ports, IsJoin, ToClock, ToInput, FromOutput, JoinedHasForm}
use Rattle.vlog_module_laws.proofs.Forms.{itself as same_name}
use Rattle.tapa_base.proofs.Tests.{both_true}

-- ---- counts of names

pub counted_map : {A : Type 0} (f : A → Name) (xs : List A) (x : Name) → times_in (map f xs) x ≡ count_by (λ a. bytes_eq (f a) x) xs
counted_map f [] x = refl
counted_map f (a ∷ xs) x =
    count_cons (λ y. bytes_eq y x) (f a) (map f xs) ∙ ap (λ n. one_if (bytes_eq (f a) x) + n) (counted_map f xs x) ∙ sym (count_cons (λ b. bytes_eq (f b) x) a xs)

pub declared_times : (ports : List PortDecl) (x : Name) → times (map port_declared ports) x ≡ times_in (port_names ports) x
declared_times [] x = refl
declared_times (p ∷ ports) x =
    count_cons (λ (d : Declaration). bytes_eq d.name x) (port_declared p) (map port_declared ports)
    ∙ ap (λ n. one_if (bytes_eq p.name x) + n) (declared_times ports x) ∙ sym (count_cons (λ y. bytes_eq y x) p.name (port_names ports))

-- ---- the ports of a module, no two of one name

pub found_port : (ports : List PortDecl) → AreOnce (port_names ports) → (p : PortDecl) → Has ports p → find_name (map port_declared ports) p.name ≡ port_declared p
found_port ports once p h =
    let e : times (map port_declared ports) p.name ≡ times_in (port_names ports) p.name = declared_times ports p.name in
    let o : times_in (port_names ports) p.name ≤ 1 = once p.name in
    found (map port_declared ports) (port_declared p) (has_map port_declared ports p h) (omega (arith, e, o))

pub input_kind : (ports : List PortDecl) → AreOnce (port_names ports) → (w : ℕ) (x : Name) → Has ports (input_port w x) → net_kind_of (map port_declared ports) x ≡ InputNet
input_kind ports once w x h = ap (λ (d : Declaration). d.net_kind) (found_port ports once (input_port w x) h)

pub output_kind : (ports : List PortDecl) → AreOnce (port_names ports) → (w : ℕ) (x : Name) → Has ports (output_port w x) → net_kind_of (map port_declared ports) x ≡ OutputNet
output_kind ports once w x h = ap (λ (d : Declaration). d.net_kind) (found_port ports once (output_port w x) h)

pub input_bits : (ports : List PortDecl) → AreOnce (port_names ports) → (w : ℕ) (x : Name) → Has ports (input_port w x) → bits_of (map port_declared ports) x ≡ w
input_bits ports once w x h = ap (λ (d : Declaration). d.bits) (found_port ports once (input_port w x) h)

pub output_bits : (ports : List PortDecl) → AreOnce (port_names ports) → (w : ℕ) (x : Name) → Has ports (output_port w x) → bits_of (map port_declared ports) x ≡ w
output_bits ports once w x h = ap (λ (d : Declaration). d.bits) (found_port ports once (output_port w x) h)

connected_all : (ports : List PortDecl) (ls : List Connection) → ((p : PortDecl) → Has ports p → count_by (λ (l : Connection). bytes_eq l.port p.name) ls ≡ 1) → all_connected (map port_declared ports) ls ≡ true
connected_all [] ls h = refl
connected_all (p ∷ ports) ls h =
    yes_and (eqb (count_by (λ (l : Connection). bytes_eq l.port p.name) ls) 1) (all_connected (map port_declared ports) ls)
    (eq-eqb (count_by (λ (l : Connection). bytes_eq l.port p.name) ls) 1 (h p (inl refl))) (connected_all ports ls (λ q k. h q (inr k)))

named_port : (ports : List PortDecl) (p : PortDecl) → Has ports p → 1 ≤ times_in (port_names ports) p.name
named_port ports p h = counted (λ y. bytes_eq y p.name) (port_names ports) p.name (has_map (λ (q : PortDecl). q.name) ports p h) (same_name p.name)

-- each port has one connection
pub connected : (ports : List PortDecl) (ls : List Connection) → AreOnce (port_names ports) → ((x : Name) → times_in (joined_ports ls) x ≡ times_in (port_names ports) x) → all_connected (map port_declared ports) ls ≡ true
connected ports ls once same = connected_all ports ls one where
  one : (p : PortDecl) → Has ports p → count_by (λ (l : Connection). bytes_eq l.port p.name) ls ≡ 1
  one p h =
      let some : 1 ≤ times_in (port_names ports) p.name = named_port ports p h in
      let low : times_in (port_names ports) p.name ≤ 1 = once p.name in
      let e : times_in (joined_ports ls) p.name ≡ times_in (port_names ports) p.name = same p.name in
      let c : times_in (joined_ports ls) p.name ≡ count_by (λ (l : Connection). bytes_eq l.port p.name) ls = counted_map (λ (l : Connection). l.port) ls p.name in
      omega (arith, some, low, e, c)

-- ---- links and outlets

open_name_of : (e : Element) (x : Name) (w : ℕ) → Has {N = Name × ℕ} (open_nets e) (x, w) → Has (declared_names e) x
open_name_of (Outlet v y) x w (inl s) = inl (ap (λ (q : Name × ℕ). q.0) s)
open_name_of (Outlet v y) x w (inr n) = absurd n
open_name_of (InstanceWire v y) x w (inl s) = inl (ap (λ (q : Name × ℕ). q.0) s)
open_name_of (InstanceWire v y) x w (inr n) = absurd n
open_name_of _ x w h = absurd h

pub open_name : (before : List Element) (x : Name) (w : ℕ) → IsOpen before x w → Has (named before) x
open_name before x w h = let r = of_flat open_nets before (x, w) h in has_flat declared_names before r.0 x r.1 (open_name_of r.0 x w r.2)

-- ---- the form

rst_is_name : is_name rst ≡ true
unfolding rst starts_name goes_on is_keyword always_to_default defparam_to_event for_to_input instance_to_not notif0_to_real realtime_to_strong0 strong1_to_unsigned use_to_xor
rst_is_name = refl

clk_is_name : is_name clk ≡ true
unfolding clk starts_name goes_on is_keyword always_to_default defparam_to_event for_to_input instance_to_not notif0_to_real realtime_to_strong0 strong1_to_unsigned use_to_xor
clk_is_name = refl

pub record HasModuleForm (m : ModuleTree) : Type 0 where
  pub name : is_name m.name ≡ true
  pub some : 1 ≤ length m.ports
  pub ports : list_all is_port m.ports ≡ true

pub module_form : (m : ModuleTree) → IsModule m → HasModuleForm m
unfolding IsModule
module_form m h =
    let p = both_true (is_name m.name && nat_le 1 (length m.ports) && list_all is_port m.ports) (list_all is_item m.items) h in
    let q = both_true (is_name m.name && nat_le 1 (length m.ports)) (list_all is_port m.ports) p.0 in
    let r = both_true (is_name m.name) (nat_le 1 (length m.ports)) q.0 in
    record { name = r.0; some = leb-true 1 (length m.ports) r.1; ports = q.1 }

some_joined : (ports : List PortDecl) (ls : List Connection) → 1 ≤ length ports → ((x : Name) → times_in (joined_ports ls) x ≡ times_in (port_names ports) x) → 1 ≤ length ls
some_joined [] ls h same = absurd (omega arith)
some_joined (p ∷ ports) (l ∷ ls) h same = omega arith
some_joined (p ∷ ports) [] h same =
    let s : 1 ≤ times_in (port_names (p ∷ ports)) p.name = named_port (p ∷ ports) p (inl refl) in
    let e : times_in [] p.name ≡ times_in (port_names (p ∷ ports)) p.name = same p.name in
    absurd (omega (arith, s, e))

module _ (before : List Element) (names : list_all is_name (named before) ≡ true) (ports : List PortDecl) (form : list_all is_port ports ≡ true) where
  named_net : (x : Name) → Has (rst ∷ named before) x → is_name x ≡ true
  named_net x (inl e) = ap is_name (sym e) ∙ rst_is_name
  named_net x (inr k) = all_has is_name (named before) names x k

  port_named : (p : PortDecl) → Has ports p → is_name p.name ≡ true
  port_named p h = (both_true (nat_le 1 p.width) (is_name p.name) (all_has is_port ports form p h)).1

  connection_form : (l : Connection) → IsJoin before ports l → is_connection l ≡ true
  connection_form l (ToClock e f h) = yes_and (is_name l.port) (is_name l.net) (port_named (input_port 1 l.port) h) (ap is_name f ∙ clk_is_name)
  connection_form l (ToInput w h n) = yes_and (is_name l.port) (is_name l.net) (port_named (input_port w l.port) h) (named_net l.net (net_name before l.net w n))
  connection_form l (FromOutput w h o) = yes_and (is_name l.port) (is_name l.net) (port_named (output_port w l.port) h) (named_net l.net (inr (open_name before l.net w o)))

  connections_form : (ls : List Connection) → AllByRecursion (IsJoin before ports) ls → list_all is_connection ls ≡ true
  connections_form [] h = refl
  connections_form (l ∷ ls) h = yes_and (is_connection l) (list_all is_connection ls) (connection_form l h.0) (connections_form ls h.1)

pub joined_has_form : JoinedHasForm
joined_has_form ms before k i ls modules names own j =
    let r = module_is ms k j.child j.named in
    let f = module_form j.child (modules j.child r.has) in
    let title : is_name k ≡ true = subst (λ x. is_name x ≡ true) r.name f.name in
    yes_and (is_name k && is_name i && nat_le 1 (length ls)) (list_all is_connection ls)
    (yes_and (is_name k && is_name i) (nat_le 1 (length ls)) (yes_and (is_name k) (is_name i) title own) (le-leb 1 (length ls) (some_joined j.child.ports ls f.some j.same)))
    (connections_form before names j.child.ports f.ports ls j.joins)
