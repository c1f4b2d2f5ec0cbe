-- What it says of a design's lines that no name breaks a rule.
use Rattle.std.proofs.Common.{◌≡◌, Bool, true, false, cond, ◌&&◌, ◌||◌, List, [], ◌∷◌, ◌++◌, Option, Some, None, inl, inr, refl, sym, ap, subst, ◌∙◌, map}
use Rattle.std.specs.Prelude.{bytes_eq, ◌⊎◌, not}
use Rattle.std.specs.List.{flat_map}
use Rattle.std.specs.Cmp.Lexicographic.{bytes_decides}
use Rattle.vlog_tree.specs.declared.tree.Atom.{Atom}
use Rattle.vlog_tree.specs.declared.tree.Atom.TheVariants.{Net, Part, Literal}
use Rattle.vlog_tree.specs.declared.tree.Value.{Value}
use Rattle.vlog_tree.specs.declared.tree.Value.TheVariants.{Plain, Invert, Binary, Choose, Concat, Repeat, Cell}
use Rattle.vlog_tree.specs.declared.tree.Connection.{Connection}
use Rattle.vlog_tree.specs.declared.tree.Item.{Item}
use Rattle.vlog_tree.specs.declared.tree.Item.TheVariants.{Assign, Instance}
use Rattle.vlog_tree.specs.declared.tree.PortDecl.{PortDecl}
use Rattle.vlog_tree.specs.declared.table.Declaration.{Declaration}
use Rattle.vlog_tree.specs.declared.table.NetKind.{NetKind}
use Rattle.vlog_tree.specs.declared.table.NetKind.TheVariants.{Unknown, Input, Output, WireNet, Register, MemoryArray, ChildInstance}
use Rattle.vlog_tree.specs.Form.{ModuleTree, is_input}
use Rattle.tapa_base.specs.Lists.{Has}
use Rattle.vlog_tree.specs.Table.{Name, NameUse, clk, is_clk, declared, port_declared, declaration_name, find_name, net_kind_of, net_kind_is_read, net_kind_is_driven, net_kind_is_input, net_kind_is_memory, ports_of, is_module_name, is_doubled_name, first_violation}
use Rattle.vlog_tree.specs.V2.{memory_use, v2_uses, module_uses, port_uses, item_uses, instance_uses, connection_uses, joined_use, read_use, driven_use, clock_use, atom_uses, value_uses}
use Rattle.vlog_tree.specs.Loops.{value_nets, atom_nets}
use Rattle.vlog_tree.proofs.Lists.{known}
use Rattle.tapa_base.proofs.Lists.{has_flat, of_flat, has_left, has_right, has_split}
use Rattle.tapa_base.proofs.Tests.{not_no, not_so as no_is, both_true, true_not_false}
use Rattle.std.proofs.lemmas.Bool.{or_parts as both_false}

right_here : (b : Bool) (x : Name) (o : Option Name) → cond b (Some x) o ≡ None → b ≡ false
right_here true x o h = cc
right_here false x o h = refl

right_behind : (b : Bool) (x : Name) (o : Option Name) → cond b (Some x) o ≡ None → o ≡ None
right_behind true x o h = cc
right_behind false x o h = h

-- where no name breaks a rule, each keeps it
pub right : (us : List NameUse) → first_violation us ≡ None → (u : NameUse) → Has us u → u.1 ≡ false
right [] h u has = absurd has
right (v ∷ us) h u (inl e) = ap (λ (w : NameUse). w.1) (sym e) ∙ right_here v.1 v.0 (first_violation us) h
right (v ∷ us) h u (inr has) = right us (right_behind v.1 v.0 (first_violation us) h) u has

-- a name whose net kind passes a test that Unknown doesn't is declared
pub declared_by : (test : NetKind → Bool) (ds : List Declaration) (x : Name) → test Unknown ≡ false → test (net_kind_of ds x) ≡ true → Has (map declaration_name ds) x
declared_by test ds x none h = known ds x (net_kind_of ds x) (λ e. true_not_false (sym (ap test e ∙ h) ∙ none)) refl

pub driven_is_read : (s : NetKind) → net_kind_is_driven s ≡ true → net_kind_is_read s ≡ true
driven_is_read Unknown h = cc
driven_is_read Input h = refl
driven_is_read Output h = refl
driven_is_read WireNet h = refl
driven_is_read Register h = refl
driven_is_read MemoryArray h = cc
driven_is_read ChildInstance h = cc

pub input_is_driven : (s : NetKind) → net_kind_is_input s ≡ true → net_kind_is_driven s ≡ true
input_is_driven Unknown h = cc
input_is_driven Input h = refl
input_is_driven Output h = refl
input_is_driven WireNet h = refl
input_is_driven Register h = cc
input_is_driven MemoryArray h = cc
input_is_driven ChildInstance h = cc

pub input_is : (s : NetKind) → net_kind_is_input s ≡ true → s ≡ Input
input_is Unknown h = cc
input_is Input h = refl
input_is Output h = cc
input_is WireNet h = cc
input_is Register h = cc
input_is MemoryArray h = cc
input_is ChildInstance h = cc

port_net_kind_of : (p : PortDecl) (ps : List PortDecl) (x : Name) (b i : Bool) → (net_kind_of (map port_declared ps) x ≡ Input) ⊎ (net_kind_of (map port_declared ps) x ≡ Output) ⊎ (net_kind_of (map port_declared ps) x ≡ Unknown)
    → ((cond b (record { name = p.name; net_kind = cond i Input Output; bits = p.width; cells = 0 }) (find_name (map port_declared ps) x)).net_kind ≡ Input) ⊎ ((cond b (record { name = p.name; net_kind = cond i Input Output; bits = p.width; cells = 0 }) (find_name (map port_declared ps) x)).net_kind ≡ Output) ⊎ ((cond b (record { name = p.name; net_kind = cond i Input Output; bits = p.width; cells = 0 }) (find_name (map port_declared ps) x)).net_kind ≡ Unknown)
port_net_kind_of p ps x true true h = inl refl
port_net_kind_of p ps x true false h = inr (inl refl)
port_net_kind_of p ps x false i h = h

pub port_net_kind : (ps : List PortDecl) (x : Name) → (net_kind_of (map port_declared ps) x ≡ Input) ⊎ (net_kind_of (map port_declared ps) x ≡ Output) ⊎ (net_kind_of (map port_declared ps) x ≡ Unknown)
port_net_kind [] x = inr (inr refl)
port_net_kind (p ∷ ps) x = port_net_kind_of p ps x (bytes_eq p.name x) (is_input p.direction) (port_net_kind ps x)

output_of : (s : NetKind) → (s ≡ Input) ⊎ (s ≡ Output) ⊎ (s ≡ Unknown) → net_kind_is_read s ≡ true → net_kind_is_input s ≡ false → s ≡ Output
output_of s (inl e) r i = absurd (true_not_false (ap net_kind_is_input (sym e) ∙ i))
output_of s (inr (inl e)) r i = e
output_of s (inr (inr e)) r i = absurd (true_not_false (sym r ∙ ap net_kind_is_read e))

-- a port that can be read and is no input is an output
pub output_is : (ps : List PortDecl) (x : Name) → net_kind_is_read (net_kind_of (map port_declared ps) x) ≡ true → net_kind_is_input (net_kind_of (map port_declared ps) x) ≡ false → net_kind_of (map port_declared ps) x ≡ Output
output_is ps x r i = output_of (net_kind_of (map port_declared ps) x) (port_net_kind ps x) r i

joined_read : (ds : List Declaration) (x : Name) (p q r : Bool) → is_clk x ≡ q → (cond (p && q) (clock_use ds) (cond r (read_use ds x) (driven_use ds x))).1 ≡ false → net_kind_is_read (net_kind_of ds x) ≡ true
joined_read ds x true true r e h = driven_is_read _ (input_is_driven _ (subst (λ y. net_kind_is_input (net_kind_of ds y) ≡ true) (sym ((bytes_decides x clk).0 e)) (not_no (net_kind_is_input (net_kind_of ds clk)) h)))
joined_read ds x true false true e h = not_no _ (both_false (not (net_kind_is_read (net_kind_of ds x))) (is_clk x) h).0
joined_read ds x true false false e h = driven_is_read _ (not_no _ (both_false (not (net_kind_is_driven (net_kind_of ds x))) (is_clk x) h).0)
joined_read ds x false q true e h = not_no _ (both_false (not (net_kind_is_read (net_kind_of ds x))) (is_clk x) h).0
joined_read ds x false q false e h = driven_is_read _ (not_no _ (both_false (not (net_kind_is_driven (net_kind_of ds x))) (is_clk x) h).0)

joined_driven : (ds : List Declaration) (x : Name) (p q r : Bool) → is_clk x ≡ q → r ≡ false → (cond (p && q) (clock_use ds) (cond r (read_use ds x) (driven_use ds x))).1 ≡ false → net_kind_is_driven (net_kind_of ds x) ≡ true
joined_driven ds x true true r e f h = input_is_driven _ (subst (λ y. net_kind_is_input (net_kind_of ds y) ≡ true) (sym ((bytes_decides x clk).0 e)) (not_no (net_kind_is_input (net_kind_of ds clk)) h))
joined_driven ds x true false true e f h = cc
joined_driven ds x true false false e f h = not_no _ (both_false (not (net_kind_is_driven (net_kind_of ds x))) (is_clk x) h).0
joined_driven ds x false q true e f h = cc
joined_driven ds x false q false e f h = not_no _ (both_false (not (net_kind_is_driven (net_kind_of ds x))) (is_clk x) h).0

joined_clock : (ds : List Declaration) (x : Name) (p q r : Bool) → is_clk x ≡ q → r ≡ true → p ≡ false → (cond (p && q) (clock_use ds) (cond r (read_use ds x) (driven_use ds x))).1 ≡ false → is_clk x ≡ false
joined_clock ds x false q true e f g h = (both_false (not (net_kind_is_read (net_kind_of ds x))) (is_clk x) h).1
joined_clock ds x false q false e f g h = cc
joined_clock ds x true q r e f g h = cc

pub atom_read : (ds : List Declaration) (a : Atom) (z : Name) → Has (atom_nets a) z → Has (atom_uses ds a) (read_use ds z)
atom_read ds (Net x) z (inl e) = inl (ap (read_use ds) e)
atom_read ds (Net x) z (inr h) = absurd h
atom_read ds (Part x high low) z (inl e) = inl (ap (read_use ds) e)
atom_read ds (Part x high low) z (inr h) = absurd h
atom_read ds (Literal w n) z h = absurd h

either_read : (xs ys : List Name) (us vs : List NameUse) (z : Name) (u : NameUse) → (Has xs z → Has us u) → (Has ys z → Has vs u) → Has (xs ++ ys) z → Has (us ++ vs) u
either_read xs ys us vs z u f g h = elim (has_split xs ys z h) [ inl l ↦ has_left us vs u (f l) | inr r ↦ has_right us vs u (g r) ]

-- each net of a driver is among the names that it reads
value_read : (ds : List Declaration) (e : Value) (z : Name) → Has (value_nets e) z → Has (value_uses ds e) (read_use ds z)
value_read ds (Plain a) z h = atom_read ds a z h
value_read ds (Invert a) z h = atom_read ds a z h
value_read ds (Binary a op b) z h = either_read (atom_nets a) (atom_nets b) (atom_uses ds a) (atom_uses ds b) z (read_use ds z) (atom_read ds a z) (atom_read ds b z) h
value_read ds (Choose c a b) z h =
    either_read (atom_nets c) (atom_nets a ++ atom_nets b) (atom_uses ds c) (atom_uses ds a ++ atom_uses ds b) z (read_use ds z) (atom_read ds c z)
    (either_read (atom_nets a) (atom_nets b) (atom_uses ds a) (atom_uses ds b) z (read_use ds z) (atom_read ds a z) (atom_read ds b z)) h
value_read ds (Concat atoms) z h = let t = of_flat atom_nets atoms z h in has_flat (atom_uses ds) atoms t.0 (read_use ds z) t.1 (atom_read ds t.0 z t.2)
value_read ds (Repeat n a) z h = atom_read ds a z h
value_read ds (Cell m x) z (inl e) = inr (inl (ap (read_use ds) e))
value_read ds (Cell m x) z (inr h) = absurd h

module _ (ms : List ModuleTree) (names : first_violation (v2_uses ms) ≡ None) (m : ModuleTree) (in_ms : Has ms m) where
  pub item_right : (it : Item) → Has m.items it → (u : NameUse) → Has (item_uses ms (declared m) it) u → u.1 ≡ false
  unfolding module_uses
  item_right it has u h =
      right (v2_uses ms) names u
      (has_flat (module_uses ms) ms m u in_ms
      (inr (has_right _ (flat_map (item_uses ms (declared m)) m.items) u (has_flat (item_uses ms (declared m)) m.items it u has h))))

  pub port_right : (p : PortDecl) → Has m.ports p → is_doubled_name (declared m) p.name ≡ false
  unfolding module_uses port_uses
  port_right p has =
      right (v2_uses ms) names (p.name, is_doubled_name (declared m) p.name)
      (has_flat (module_uses ms) ms m (p.name, is_doubled_name (declared m) p.name) in_ms
      (inr (has_left (flat_map (port_uses (declared m)) m.ports) (flat_map (item_uses ms (declared m)) m.items) _ (has_flat (port_uses (declared m)) m.ports p _ has (inl refl)))))

  pub assign_driven : (x : Name) (e : Value) → Has m.items (Assign x e) → net_kind_is_driven (net_kind_of (declared m) x) ≡ true
  unfolding item_uses
  assign_driven x e has = not_no _ (both_false (not (net_kind_is_driven (net_kind_of (declared m) x))) (is_clk x) (item_right (Assign x e) has (driven_use (declared m) x) (inl refl))).0

  pub assign_reads : (x : Name) (e : Value) → Has m.items (Assign x e) → (z : Name) → Has (value_nets e) z → (net_kind_is_read (net_kind_of (declared m) z) ≡ true) × (is_clk z ≡ false)
  unfolding item_uses
  assign_reads x e has z h =
      let p = both_false (not (net_kind_is_read (net_kind_of (declared m) z))) (is_clk z) (item_right (Assign x e) has (read_use (declared m) z) (inr (value_read (declared m) e z h))) in
      (not_no _ p.0, p.1)

  pub assign_cell : (x k y : Name) → Has m.items (Assign x (Cell k y)) → net_kind_is_memory (net_kind_of (declared m) k) ≡ true
  unfolding item_uses
  assign_cell x k y has = not_no _ (item_right (Assign x (Cell k y)) has (memory_use (declared m) k) (inr (inl refl)))

  module _ (kn i : Name) (connections : List Connection) (has : Has m.items (Instance kn i connections)) where
    abbrev ports : List Declaration
    ports = map port_declared (ports_of ms kn)

    pub is_known_module : is_module_name ms kn ≡ true
    unfolding item_uses instance_uses
    is_known_module = not_no _ (item_right (Instance kn i connections) has (kn, not (is_module_name ms kn)) (inl refl))

    connection_right : (l : Connection) → Has connections l → (u : NameUse) → Has (connection_uses ports (declared m) l) u → u.1 ≡ false
    unfolding item_uses instance_uses
    connection_right l h u k = item_right (Instance kn i connections) has u (inr (inr (has_flat (connection_uses ports (declared m)) connections l u h k)))

    pub connection_port : (l : Connection) → Has connections l → net_kind_is_read (net_kind_of ports l.port) ≡ true
    unfolding connection_uses
    connection_port l h = not_no _ (connection_right l h (l.port, not (net_kind_is_read (net_kind_of ports l.port))) (inl refl))

    pub connection_net : (l : Connection) → Has connections l → net_kind_is_read (net_kind_of (declared m) l.net) ≡ true
    unfolding connection_uses
    connection_net l h = joined_read (declared m) l.net (is_clk l.port) (is_clk l.net) (net_kind_is_input (net_kind_of ports l.port)) refl (connection_right l h (joined_use ports (declared m) l) (inr (inl refl)))

    pub connection_driven : (l : Connection) → Has connections l → net_kind_is_input (net_kind_of ports l.port) ≡ false → net_kind_is_driven (net_kind_of (declared m) l.net) ≡ true
    unfolding connection_uses
    connection_driven l h f = joined_driven (declared m) l.net (is_clk l.port) (is_clk l.net) (net_kind_is_input (net_kind_of ports l.port)) refl f (connection_right l h (joined_use ports (declared m) l) (inr (inl refl)))

    pub connection_clock : (l : Connection) → Has connections l → net_kind_is_input (net_kind_of ports l.port) ≡ true → is_clk l.port ≡ false → is_clk l.net ≡ false
    unfolding connection_uses
    connection_clock l h e n = joined_clock (declared m) l.net (is_clk l.port) (is_clk l.net) (net_kind_is_input (net_kind_of ports l.port)) refl e n (connection_right l h (joined_use ports (declared m) l) (inr (inl refl)))
