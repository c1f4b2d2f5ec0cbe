-- The nets at the other ends of connections, by their numbers.
use Rattle.std.proofs.Common.{◌≡◌, ℕ, ◌+◌, ◌<◌, ◌^◌, Bool, true, false, cond, List, [], ◌∷◌, Option, Some, None, length, get_or, inl, inr, refl, sym, ap, subst, ◌∙◌, map, arith}
use Rattle.std.specs.Prelude.{◌⊎◌, slice_get, option_and_then}
use Rattle.std.proofs.lemmas.Option.{slice_get_within}
use Rattle.vlog_tree.specs.declared.tree.Item.TheVariants.{Instance}
use Rattle.vlog_tree.specs.declared.tree.PortDecl.{PortDecl}
use Rattle.vlog_tree.specs.declared.table.Declaration.{Declaration}
use Rattle.vlog_tree.specs.declared.table.NetKind.TheVariants.{Unknown, Input, Output}
use Rattle.vlog_tree.specs.Form.{ModuleTree, is_input}
use Rattle.tapa_base.specs.Lists.{Has}
use Rattle.vlog_tree.specs.Cycle.{Path}
use Rattle.vlog_tree.specs.Table.{Name, declared, port_declared, find_name, net_kind_of, net_kind_is_input, ports_of}
use Rattle.vlog_tree.specs.Loops.{instances}
use Rattle.vlog_tree.specs.Flattened.{FlatNet, parts}
use Rattle.tapa_base.proofs.Lists.{has_got, of_map, has_map}
use Rattle.vlog_run_laws.proofs.runs.Sound.{input_is, port_net_kind}
use Rattle.vlog_run_laws.proofs.runs.Alone.{module_is, find_there}
use Rattle.vlog_run_laws.proofs.runs.TopPorts.{input_port}
use Rattle.vlog_run_laws.proofs.runs.Parts.{part_line, part_outside, connection_part}
use Rattle.vlog_run_laws.proofs.runs.Cycles.{port_net_kind_declared, outside_has}
use Rattle.sim_flat.specs.declared.instances.Instance as row
use Rattle.sim_flat.specs.Rows.{row_at, IsInside}
use Rattle.sim_flat.specs.Instances.{StandsAt, IsModuleOf}
use Rattle.sim_flat.specs.declared.flat.Flat.{Flat}
use Rattle.sim_flat.specs.declared.tables.Child.{Child}
use Rattle.sim_flat.specs.declared.tables.Table.{Table}
use Rattle.sim_flat.specs.Places.{DeclaredAt}
use Rattle.sim_flat.specs.Tables.{IsInstanceAt, IsConnected, IsDrivenByPort}
use Rattle.sim_flat.specs.Flat.{IsFlat, IsNetAt, HasNumber, AreJoined, IsLink}
use Rattle.sim_flat.specs.Edges.{base_at, joined_in}
use Rattle.sim_flat.proofs.Got.{pair_parts}
use Rattle.sim_flat.proofs.Standing.{module_of, number_low, IsInner, inner_of}

kind_of_port : (i : Bool) → cond i Input Output ≡ Unknown → ⊥
kind_of_port true e = cc
kind_of_port false e = cc

-- the name of a port stands for something among the ports
port_known : (ps : List PortDecl) (p : PortDecl) → Has ps p → net_kind_of (map port_declared ps) p.name ≡ Unknown → ⊥
port_known ps p h e =
    let f = find_there (map port_declared ps) (port_declared p) (has_map port_declared ps p h) in
    let t = of_map port_declared ps (find_name (map port_declared ps) p.name) f.0 in
    kind_of_port (is_input t.0.direction) (ap (λ (d : Declaration). d.net_kind) t.2 ∙ e)

-- an input among the names of a module is one among its ports
input_by : (m : ModuleTree) (x : Name) → net_kind_of (declared m) x ≡ Input → (net_kind_of (map port_declared m.ports) x ≡ Input) ⊎ (net_kind_of (map port_declared m.ports) x ≡ Output) ⊎ (net_kind_of (map port_declared m.ports) x ≡ Unknown)
    → net_kind_is_input (net_kind_of (map port_declared m.ports) x) ≡ true
input_by m x e (inl i) = ap net_kind_is_input i
input_by m x e (inr (inl o)) = let clash : Input ≡ Output = sym e ∙ port_net_kind_declared m x Output refl o in cc
input_by m x e (inr (inr u)) = let t = input_port m x e in absurd (port_known m.ports t.0 t.1 (subst (λ (y : Name). net_kind_of (map port_declared m.ports) y ≡ Unknown) (sym t.2) u))

pub input_port_is : (m : ModuleTree) (x : Name) → net_kind_is_input (net_kind_of (declared m) x) ≡ true → net_kind_is_input (net_kind_of (map port_declared m.ports) x) ≡ true
input_port_is m x e = input_by m x (input_is (net_kind_of (declared m) x) e) (port_net_kind m.ports x)

module _ (ms : List ModuleTree) (top : ModuleTree) (f : Flat) (flat : IsFlat ms top f) where
  abbrev Around : FlatNet → FlatNet → Type 0
  Around a b = AreJoined ms top a b

  abbrev Inside : FlatNet → FlatNet → Type 0
  Inside a b = AreJoined ms top b a

  -- what is told of the net around, by the row of an instance
  abbrev TellsAround : ℕ → ℕ → Option ℕ → Type 0
  TellsAround s place answer = (q : ℕ) → joined_in f (row_at f.instances.items s).around (row_at f.instances.items s).child place ≡ Some q → base_at f (row_at f.instances.items s).around + q < 2 ^ 64
      → answer ≡ Some (base_at f (row_at f.instances.items s).around + q)

  pub tells_by_row : (s place : ℕ) (answer : Option ℕ) (r : row.Instance) → r ≡ row_at f.instances.items s
      → ((q : ℕ) → joined_in f r.around r.child place ≡ Some q → base_at f r.around + q < 2 ^ 64 → answer ≡ Some (base_at f r.around + q)) → TellsAround s place answer
  tells_by_row s place answer r got tells =
      subst (λ (z : row.Instance). (q : ℕ) → joined_in f z.around z.child place ≡ Some q → base_at f z.around + q < 2 ^ 64 → answer ≡ Some (base_at f z.around + q)) got tells

  module _ (fits : length f.owners.items < 2 ^ 64) (s place : ℕ) (answer : Option ℕ) (tells : TellsAround s place answer) where
    around_inner : (path : Path) (i x : Name) (h : IsNetAt ms f s place (i ∷ path, x)) → net_kind_is_input (net_kind_of (declared h.tree) x) ≡ true → IsInner ms top f flat s path i → IsLink ms top f (i ∷ path, x) Around answer
    around_inner path i x h input n =
        let at = n.child.at in
        let inner : at.inner ≡ n.inner = cc (at.known, n.named) in
        let tree : h.tree ≡ n.inner = cc (h.of_module, n.inner_is) in
        let here : DeclaredAt at.inner place x = subst (λ (m : ModuleTree). DeclaredAt m place x) (tree ∙ sym inner) h.declared_at in
        let port : net_kind_is_input (net_kind_of (map port_declared n.inner.ports) x) ≡ true = input_port_is n.inner x (subst (λ (m : ModuleTree). net_kind_is_input (net_kind_of (declared m) x) ≡ true) tree input) in
        let named = module_is ms at.module_name n.inner n.named in
        let direction : net_kind_is_input (net_kind_of (map port_declared (ports_of ms at.module_name)) x) ≡ true = subst (λ (ps : List PortDecl). net_kind_is_input (net_kind_of (map port_declared ps) x) ≡ true) (sym named.ports) port in
        let r = n.child.joined place x here direction in
        let l : IsConnected ms n.outer at.module_name at.connections at.inner true place r.0 = r.2 in
        let same : l.port_at.0 ≡ here.0 = cc (l.port_at.1, here.1) in
        let name : l.connection.port ≡ x = sym l.port_at.2 ∙ ap (λ (d : Declaration). d.name) same ∙ here.2 in
        let a : ℕ = (row_at f.instances.items s).around in
        let number : HasNumber ms f (base_at f a + r.0) (path, l.connection.net) = record {
          instance = a;
          place = r.0;
          at = record { there = n.around_low; stands = n.around_stands; tree = n.outer; of_module = n.around_is; declared_at = l.net_at };
          is = refl;
        } in
        let low : base_at f a + r.0 < length f.owners.items = number_low ms top f flat (base_at f a + r.0) (path, l.connection.net) number in
        let got : joined_in f a (row_at f.instances.items s).child place ≡ Some r.0 =
        ap (λ (o : Option Table). option_and_then (λ (t : Table). option_and_then (λ (ch : Child). get_or ch.joined.items place None) (slice_get t.children.items (row_at f.instances.items s).child)) o) n.table_is
        ∙ ap (λ (o : Option Child). option_and_then (λ (ch : Child). get_or ch.joined.items place None) o) n.child.got ∙ r.1 in
        record {
          number = base_at f a + r.0;
          net = (path, l.connection.net);
          is = tells r.0 got (omega arith);
          has_number = number;
          part = subst (λ (y : Name). Has (parts ms top true (i ∷ path, y)) (path, l.connection.net)) name
              (part_outside ms top (i ∷ path) l.connection.port (path, l.connection.net) (outside_has ms top path n.outer n.outer_at at.module_name i at.connections n.line l.connection l.connected l.direction));
          joined = record {
            tree = n.outer;
            at = n.outer_at;
            module_name = at.module_name;
            name = i;
            connections = at.connections;
            line = n.line;
            connection = l.connection;
            connected = l.connected;
            port_is = ap (λ (y : Name). (i ∷ path, y)) (sym name);
            net_is = refl;
          };
        }

    around_by : 0 < s → (path : Path) (x : Name) (h : IsNetAt ms f s place (path, x)) → net_kind_is_input (net_kind_of (declared h.tree) x) ≡ true → IsLink ms top f (path, x) Around answer
    around_by pos [] x h input = absurd (omega (arith, h.stands))
    around_by pos (i ∷ path) x h input = around_inner path i x h input (inner_of ms top f flat s path i h.there h.stands)

    pub around_link : 0 < s → (n : FlatNet) (h : IsNetAt ms f s place n) → net_kind_is_input (net_kind_of (declared h.tree) n.1) ≡ true → IsLink ms top f n Around answer
    around_link pos n h input = around_by pos n.0 n.1 h input

  -- an instance in another, by their places
  abbrev inside_number : ℕ → ℕ → ℕ
  inside_number k c = get_or f.first_child.items k 0 + c

  pub inside_low : (k c line : ℕ) (m : ModuleTree) → k < length f.instances.items → IsModuleOf ms f.instances.items k m → IsInstanceAt ms m line c → inside_number k c < length f.instances.items
  inside_low k c line m low is i = (flat.instances.inside k c m low is (slice_get_within (instances m) c (i.module_name, i.name) i.listed)).there

  module _ (k j c p : ℕ) (path : Path) (x : Name) (h : IsNetAt ms f k j (path, x)) (d : IsDrivenByPort ms h.tree j c p) (answer : Option ℕ) where
    abbrev s : ℕ
    s = inside_number k c

    abbrev m : ModuleTree
    m = h.tree

    abbrev i : IsInstanceAt ms m d.0 c
    i = d.1

    inside : IsInside f.instances.items s k c
    inside = flat.instances.inside k c m h.there h.of_module (slice_get_within (instances m) c (i.module_name, i.name) i.listed)

    stands : StandsAt ms f.instances.items s (i.name ∷ path)
    stands =
        let behind : k < s = inside.behind in (
          (let z : 0 < s = omega arith in z),
          record {
            outer = m;
            module_name = i.module_name;
            got = ap (λ n. slice_get ms (row_at f.instances.items n).kind) inside.around ∙ h.of_module;
            named = ap (λ n. slice_get (instances m) n) inside.child ∙ i.listed;
          },
          subst (λ n. StandsAt ms f.instances.items n path) (sym inside.around) h.stands,
        )

    inside_by : IsInner ms top f flat s path i.name → (base_at f s + p < 2 ^ 64 → answer ≡ Some (base_at f s + p)) → length f.owners.items < 2 ^ 64 → IsLink ms top f (path, x) Inside answer
    inside_by n tells fits =
        let at = n.child.at in
        let outer : n.outer ≡ m = cc (subst (λ a. IsModuleOf ms f.instances.items a n.outer) inside.around n.around_is, h.of_module) in
        let listed : slice_get (instances m) c ≡ Some (at.module_name, at.name) = subst (λ (q : ModuleTree). slice_get (instances q) c ≡ Some (at.module_name, at.name)) outer (subst (λ a. slice_get (instances n.outer) a ≡ Some (at.module_name, at.name)) inside.child at.listed) in
        let pair : Some (at.module_name, at.name) ≡ Some (i.module_name, i.name) = sym listed ∙ i.listed in
        let kn : at.module_name ≡ i.module_name = (pair_parts at.module_name i.module_name at.name i.name pair).0 in
        let inner : i.inner ≡ n.inner = cc (i.known, n.named, kn) in
        let l : IsConnected ms m i.module_name i.connections i.inner false p j = d.2 in
        let line : Has m.items (Instance i.module_name i.name i.connections) = has_got m.items d.0 (Instance i.module_name i.name i.connections) i.stands in
        let same : l.net_at.0 ≡ h.declared_at.0 = cc (l.net_at.1, h.declared_at.1) in
        let name : l.connection.net ≡ x = sym l.net_at.2 ∙ ap (λ (d : Declaration). d.name) same ∙ h.declared_at.2 in
        let tree_at = module_of ms top f flat k path m h.there h.stands h.of_module in
        let number : HasNumber ms f (base_at f s + p) (i.name ∷ path, l.connection.port) = record {
          instance = s;
          place = p;
          at = record { there = inside.there; stands = stands; tree = n.inner; of_module = n.inner_is; declared_at = subst (λ (q : ModuleTree). DeclaredAt q p l.connection.port) inner l.port_at };
          is = refl;
        } in
        let low : base_at f s + p < length f.owners.items = number_low ms top f flat (base_at f s + p) (i.name ∷ path, l.connection.port) number in
        record {
          number = base_at f s + p;
          net = (i.name ∷ path, l.connection.port);
          is = tells (omega arith);
          has_number = number;
          part = subst (λ (y : Name). Has (parts ms top true (path, y)) (i.name ∷ path, l.connection.port)) name
              (part_line ms top path l.connection.net m tree_at (i.name ∷ path, l.connection.port) (connection_part ms m path i.module_name i.name i.connections line l.connection l.connected l.direction));
          joined = record {
            tree = m;
            at = tree_at;
            module_name = i.module_name;
            name = i.name;
            connections = i.connections;
            line = line;
            connection = l.connection;
            connected = l.connected;
            port_is = refl;
            net_is = sym name;
          };
        }

    pub inside_link : (base_at f s + p < 2 ^ 64 → answer ≡ Some (base_at f s + p)) → length f.owners.items < 2 ^ 64 → IsLink ms top f (path, x) Inside answer
    inside_link tells fits = inside_by (inner_of ms top f flat s path i.name inside.there stands) tells fits
