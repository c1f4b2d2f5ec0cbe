-- Each net of a design's flattened tree rests on others in finitely many steps.
use Rattle.std.proofs.Common.{◌≡◌, ℕ, Bool, true, false, cond, ◌&&◌, List, [], ◌∷◌, Option, Some, None, inl, inr, refl, sym, ap, subst, ◌∙◌, map}
use Rattle.std.specs.Prelude.{bytes_eq, ◌⊎◌, slice_get, if◌then◌else◌, not}
use Rattle.std.specs.List.{flat_map, filter}
use Rattle.std.specs.Cmp.Lexicographic.{bytes_decides}
use Rattle.vlog_tree.specs.declared.tree.Value.{Value}
use Rattle.vlog_tree.specs.declared.tree.Connection.{Connection}
use Rattle.vlog_tree.specs.declared.tree.Item.{Item}
use Rattle.vlog_tree.specs.declared.tree.Item.TheVariants.{Wire, Reg, Memory, Assign, Always, Instance}
use Rattle.vlog_tree.specs.declared.table.Declaration.{Declaration}
use Rattle.vlog_tree.specs.declared.table.NetKind.TheVariants.{Input, Output}
use Rattle.vlog_tree.specs.Form.{ModuleTree}
use Rattle.vlog_tree.specs.Grounded.{IsGrounded, grounded}
use Rattle.tapa_base.specs.Lists.{Has, one}
use Rattle.vlog_tree.specs.Cycle.{Path, module_at, child_of, and_then}
use Rattle.vlog_tree.specs.Table.{Name, declared, port_declared, declaration_name, net_kind_of, net_kind_is_read, net_kind_is_input, ports_of, first_violation, module_named}
use Rattle.vlog_tree.specs.V2.{v2_uses}
use Rattle.std.specs.Option.{option_map_or}
use Rattle.vlog_tree.specs.V6.{is_top, first_name, has_port}
use Rattle.vlog_tree.specs.Labels.{address_of}
use Rattle.vlog_tree.specs.Loops.{port_of, connection_edge, line_edges, memory_edges, answer_edges, asked_port, instances, item_instances, value_nets, Rests, directly, through, after, containment, Reaches, IsLoopless}
use Rattle.vlog_tree.specs.Flattened.{FlatNet, parts, line_parts, outer_parts, lines_of, memory_parts}
use Rattle.vlog_tree.specs.Refused.{IsDesign}
use Rattle.tapa_base.proofs.Lists.{has_flat, of_flat, has_map, of_map, has_got, has_left, has_right, has_split}
use Rattle.vlog_run_laws.proofs.runs.Ending.{Ends, ends}
use Rattle.vlog_run_laws.proofs.runs.Sound.{declared_by, assign_reads, connection_port, connection_net, is_known_module, output_is, input_is}
use Rattle.vlog_run_laws.proofs.runs.Alone.{instance_item, one_instance, child_is, module_there, module_is, IsNamed, same_name}
use Rattle.vlog_run_laws.proofs.runs.Addresses.{address_asks_nothing}
use Rattle.vlog_run_laws.proofs.runs.Module.{wires_end, modules_end, contains, name_declared}

-- what lies outside of a module's lines for a net of the module at a path
abbrev pub outside : List ModuleTree → ModuleTree → FlatNet → List FlatNet
outside ms root ([], x) = []
outside ms root (i ∷ path, x) = flat_map (outer_parts ms path i x) (lines_of (module_at ms root path))

abbrev pub answers : ModuleTree → FlatNet → List FlatNet
answers root ([], x) = memory_parts true (map port_declared root.ports) x
answers root (i ∷ path, x) = []

pub parts_split : (ms : List ModuleTree) (root : ModuleTree) (path : Path) (x : Name) (m : ModuleTree) → module_at ms root path ≡ Some m → (b : FlatNet) → Has (parts ms root true (path, x)) b
    → Has (flat_map (line_parts ms path x) m.items) b ⊎ Has (answers root (path, x)) b ⊎ Has (outside ms root (path, x)) b
parts_split ms root [] x m at b h =
    let same : root ≡ m = cc at in
    elim (has_split (flat_map (line_parts ms [] x) root.items) (memory_parts true (map port_declared root.ports) x) b h) [
      | inl l ↦ inl (subst (λ (k : ModuleTree). Has (flat_map (line_parts ms [] x) k.items) b) same l)
      | inr r ↦ inr (inl r)
    ]
parts_split ms root (i ∷ path) x m at b h =
    elim (has_split (flat_map (line_parts ms (i ∷ path) x) (lines_of (module_at ms root (i ∷ path)))) (outside ms root (i ∷ path, x)) b h) [
      | inl l ↦ inl (subst (λ o. Has (flat_map (line_parts ms (i ∷ path) x) (lines_of o)) b) at l)
      | inr r ↦ inr (inr r)
    ]

-- a memory answers in the top alone, and asks there
answer_net : (root : ModuleTree) (path : Path) (x : Name) (b : FlatNet) → Has (answers root (path, x)) b → (a : Name) × (◌≡◌ {A = FlatNet} (path, a) b) × Has (asked_port (map port_declared root.ports) x) a × (path ≡ [])
answer_net root [] x b h = let t = of_map (λ (y : Name). ([], y)) (asked_port (map port_declared root.ports) x) b h in (t.0, t.2, t.1, refl)
answer_net root (i ∷ path) x b h = absurd h

filtered : (test : Name → Bool) (z : Name) (zs : List Name) (b : Bool) (a : Name) → Has (cond b (z ∷ filter test zs) (filter test zs)) a → (Has (filter test zs) a → Has zs a) → Has (z ∷ zs) a
filtered test z zs true a (inl e) f = inl e
filtered test z zs true a (inr h) f = inr (f h)
filtered test z zs false a h f = inr (f h)

of_filter : (test : Name → Bool) (zs : List Name) (a : Name) → Has (filter test zs) a → Has zs a
of_filter test [] a h = h
of_filter test (z ∷ zs) a h = filtered test z zs (test z) a h (of_filter test zs a)

either_address : (b : Bool) (some all : List Name) (a : Name) → (Has some a → Has all a) → Has (cond b some []) a → (b ≡ true) × Has all a
either_address true some all a f h = (refl, f h)
either_address false some all a f h = absurd h

asked_input : (ports : List Declaration) (x a : Name) → Has (asked_port ports x) a → (net_kind_is_input (net_kind_of ports x) ≡ true) × Has (address_of x) a
asked_input ports x a h = either_address (net_kind_is_input (net_kind_of ports x)) (filter (has_port ports) (address_of x)) (address_of x) a (of_filter (has_port ports) (address_of x) a) h

pub asked_address : (ports : List Declaration) (x a : Name) → Has (asked_port ports x) a → Has (address_of x) a
asked_address ports x a h = (asked_input ports x a h).1

nothing_either : (b : Bool) → cond {A = List Name} b [] [] ≡ []
nothing_either true = refl
nothing_either false = refl

no_answers : (root : ModuleTree) (path : Path) (x a : Name) → Has (asked_port (map port_declared root.ports) x) a → answers root (path, a) ≡ []
no_answers root [] x a h =
    let ports = map port_declared root.ports in
    let input = net_kind_is_input (net_kind_of ports a) in
    ap (λ (l : List Name). map (λ (y : Name). ([], y)) (cond input (filter (has_port ports) l) [])) (address_asks_nothing x a (asked_address ports x a h)) ∙ ap (λ (l : List Name). map (λ (y : Name). ([], y)) l) (nothing_either input)
no_answers root (i ∷ path) x a h = refl

outer_connection : (path : Path) (l : Connection) (p : Bool) (b : FlatNet) → Has {N = FlatNet} (cond p ((path, l.net) ∷ []) []) b → (z : Name) × (◌≡◌ {A = FlatNet} (path, z) b)
outer_connection path l true b (inl e) = (l.net, e)
outer_connection path l true b (inr h) = absurd h
outer_connection path l false b h = absurd h

outer_item : (path : Path) (p : Bool) (f : Connection → Bool) (connections : List Connection) (b : FlatNet) → Has {N = FlatNet} (cond p (flat_map (λ (l : Connection). if f l then (path, l.net) ∷ [] else []) connections) []) b → (z : Name) × (◌≡◌ {A = FlatNet} (path, z) b)
outer_item path true f connections b h = let t = of_flat (λ (l : Connection). if f l then (path, l.net) ∷ [] else []) connections b h in outer_connection path t.0 (f t.0) b t.2
outer_item path false f connections b h = absurd h

outer_line : (ms : List ModuleTree) (path : Path) (i y : Name) (it : Item) (b : FlatNet) → Has (outer_parts ms path i y it) b → (z : Name) × (◌≡◌ {A = FlatNet} (path, z) b)
outer_line ms path i y (Instance kn j connections) b h = outer_item path (bytes_eq j i) (λ (l : Connection). bytes_eq l.port y && net_kind_is_input (net_kind_of (map port_declared (ports_of ms kn)) l.port)) connections b h
outer_line ms path i y (Wire w z) b h = absurd h
outer_line ms path i y (Reg w z) b h = absurd h
outer_line ms path i y (Memory w z n) b h = absurd h
outer_line ms path i y (Assign z e) b h = absurd h
outer_line ms path i y (Always s) b h = absurd h

-- what comes from outside is a net of the module around
pub outer_net : (ms : List ModuleTree) (path : Path) (i y : Name) (items : List Item) (b : FlatNet) → Has (flat_map (outer_parts ms path i y) items) b → (z : Name) × (◌≡◌ {A = FlatNet} (path, z) b)
outer_net ms path i y items b h = let t = of_flat (outer_parts ms path i y) items b h in outer_line ms path i y t.0 b t.2

module _ (ms : List ModuleTree) (root m : ModuleTree) (path : Path) where
  -- what an input of an instance comes from outside by
  pub record Joined (i y : Name) (b : FlatNet) : Type 0 where
    pub kn : Name
    pub connections : List Connection
    pub has : Has m.items (Instance kn i connections)
    pub connection : Connection
    pub connected : Has connections connection
    pub port : connection.port ≡ y
    pub input : net_kind_is_input (net_kind_of (map port_declared (ports_of ms kn)) y) ≡ true
    pub is : (path, connection.net) ≡ b

  joined_connections : (kn i y : Name) (connections : List Connection) → Has m.items (Instance kn i connections) → (l : Connection) → Has connections l → (p q : Bool) → bytes_eq l.port y ≡ p → net_kind_is_input (net_kind_of (map port_declared (ports_of ms kn)) l.port) ≡ q → (b : FlatNet)
      → Has (cond (p && q) ((path, l.net) ∷ []) []) b → Joined i y b
  joined_connections kn i y connections has l h true true e f b (inl g) =
      let same : l.port ≡ y = (bytes_decides l.port y).0 e in
      record { kn = kn; connections = connections; has = has; connection = l; connected = h; port = same; input = subst (λ z. net_kind_is_input (net_kind_of (map port_declared (ports_of ms kn)) z) ≡ true) same f; is = g }
  joined_connections kn i y connections has l h true true e f b (inr g) = absurd g
  joined_connections kn i y connections has l h true false e f b g = absurd g
  joined_connections kn i y connections has l h false q e f b g = absurd g

  joined_item : (kn j i y : Name) (connections : List Connection) → Has m.items (Instance kn j connections) → (p : Bool) → bytes_eq j i ≡ p → (b : FlatNet)
      → Has (cond p (flat_map (λ (l : Connection). if bytes_eq l.port y && net_kind_is_input (net_kind_of (map port_declared (ports_of ms kn)) l.port) then (path, l.net) ∷ [] else []) connections) []) b → Joined i y b
  joined_item kn j i y connections has true e b h =
      let t = of_flat (λ (l : Connection). if bytes_eq l.port y && net_kind_is_input (net_kind_of (map port_declared (ports_of ms kn)) l.port) then (path, l.net) ∷ [] else []) connections b h in
      let same : j ≡ i = (bytes_decides j i).0 e in
      joined_connections kn i y connections (subst (λ z. Has m.items (Instance kn z connections)) same has) t.0 t.1 _ _ refl refl b t.2
  joined_item kn j i y connections has false e b h = absurd h

  joined_line : (it : Item) → Has m.items it → (i y : Name) (b : FlatNet) → Has (outer_parts ms path i y it) b → Joined i y b
  joined_line (Instance kn j connections) has i y b h = joined_item kn j i y connections has (bytes_eq j i) refl b h
  joined_line (Wire w z) has i y b h = absurd h
  joined_line (Reg w z) has i y b h = absurd h
  joined_line (Memory w z n) has i y b h = absurd h
  joined_line (Assign z e) has i y b h = absurd h
  joined_line (Always s) has i y b h = absurd h

  pub joined : module_at ms root path ≡ Some m → (i y : Name) (b : FlatNet) → Has (outside ms root (i ∷ path, y)) b → Joined i y b
  joined at i y b h =
      let t = of_flat (outer_parts ms path i y) m.items b (subst (λ o. Has (flat_map (outer_parts ms path i y) (lines_of o)) b) at h) in
      joined_line t.0 t.1 i y b t.2

module _ (ms : List ModuleTree) (root : ModuleTree) (is_top : Name → Bool) where
  abbrev pub Settles : FlatNet → Type 0
  Settles n = IsGrounded (parts ms root true) n

  -- the net or what it rests on
  abbrev Below : ModuleTree → Name → Name → Type 0
  Below m x y = (x ≡ y) ⊎ Rests ms is_top m x y

  -- all that comes from outside to a net and to what it rests on settles
  abbrev OutsideSettles : ModuleTree → Path → Name → Type 0
  OutsideSettles m path x = (y : Name) → Below m x y → (b : FlatNet) → Has (outside ms root (path, y)) b → Settles b

  -- a net that the module declares, or that no memory answers
  abbrev IsKnown : ModuleTree → Path → Name → Type 0
  IsKnown m path x = Has (map declaration_name (declared m)) x ⊎ (answers root (path, x) ≡ [])

  abbrev ModuleSettles : ModuleTree → Path → Type 0
  ModuleSettles m path = (x : Name) → IsKnown m path x → OutsideSettles m path x → Settles (path, x)

  abbrev ChildrenSettle : ModuleTree → Path → Type 0
  ChildrenSettle m path = (kn i : Name) (k : ModuleTree) → Has (instances m) (kn, i) → module_named ms kn ≡ Some k → ModuleSettles k (i ∷ path)

  module _ (names : first_violation (v2_uses ms) ≡ None) (m : ModuleTree) (in_ms : Has ms m) (path : Path) (at : module_at ms root path ≡ Some m) (children : ChildrenSettle m path) where
    line_rests : (it : Item) (x y : Name) → Has m.items it → Has (line_edges ms it) (x, y) → Rests ms is_top m x y
    line_rests it x y has h = directly (has_left (flat_map (line_edges ms) m.items) (memory_edges (is_top m.name) (map port_declared m.ports)) (x, y) (has_flat (line_edges ms) m.items it (x, y) has h))

    input_edge : (kn i : Name) (connections : List Connection) → Has m.items (Instance kn i connections) → (l : Connection) → Has connections l → net_kind_is_input (net_kind_of (map port_declared (ports_of ms kn)) l.port) ≡ true → Rests ms is_top m (port_of i l.port) l.net
    unfolding connection_edge
    input_edge kn i connections has l h e =
        let f = has_map (connection_edge (map port_declared (ports_of ms kn)) i) connections l h in
        line_rests (Instance kn i connections) (port_of i l.port) l.net has (subst (λ b. Has {N = Name × Name} (map (connection_edge (map port_declared (ports_of ms kn)) i) connections) (cond b (port_of i l.port, l.net) (l.net, port_of i l.port))) e f)

    output_edge : (kn i : Name) (connections : List Connection) → Has m.items (Instance kn i connections) → (l : Connection) → Has connections l → net_kind_is_input (net_kind_of (map port_declared (ports_of ms kn)) l.port) ≡ false → Rests ms is_top m l.net (port_of i l.port)
    unfolding connection_edge
    output_edge kn i connections has l h e =
        let f = has_map (connection_edge (map port_declared (ports_of ms kn)) i) connections l h in
        line_rests (Instance kn i connections) l.net (port_of i l.port) has (subst (λ b. Has {N = Name × Name} (map (connection_edge (map port_declared (ports_of ms kn)) i) connections) (cond b (port_of i l.port, l.net) (l.net, port_of i l.port))) e f)

    module _ (x : Name) (out : OutsideSettles m path x) (deeper : (z : Name) → Rests ms is_top m x z → IsKnown m path z → OutsideSettles m path z → Settles (path, z)) where
      further : (z : Name) → Rests ms is_top m x z → OutsideSettles m path z
      further z r y below b h = out y (inr (elim below [ inl e ↦ subst (λ w. Rests ms is_top m x w) e r | inr s ↦ after z r s ])) b h

      next : (z : Name) → Rests ms is_top m x z → IsKnown m path z → Settles (path, z)
      next z r k = deeper z r k (further z r)

      -- an output of an instance settles where the module's other nets do
      child_below : (kn i p : Name) (connections : List Connection) → Has m.items (Instance kn i connections) → (k : ModuleTree) → module_named ms kn ≡ Some k → net_kind_of (map port_declared k.ports) p ≡ Output → Rests ms is_top m x (port_of i p)
          → (y : Name) (b : FlatNet) → Joined ms root m path i y b → Below k p y → Settles b
      child_below kn i p connections has k named sp r y b j below =
          let u = one_instance ms names m in_ms j.kn kn i j.connections connections j.has has in
          let n : IsNamed ms kn k = module_is ms kn k named in
          let sy : net_kind_of (map port_declared k.ports) y ≡ Input = subst (λ ps. net_kind_of (map port_declared ps) y ≡ Input) n.ports (subst (λ z. net_kind_of (map port_declared (ports_of ms z)) y ≡ Input) u.0 (input_is _ j.input)) in
          let inst : Has (instances m) (kn, i) = has_flat item_instances m.items (Instance kn i connections) (kn, i) has (inl refl) in
          let inner : Rests ms is_top k p y = elim below [
            | inl e ↦ (let clash : Output ≡ Input = sym sp ∙ ap (λ z. net_kind_of (map port_declared k.ports) z) e ∙ sy in cc)
            | inr s ↦ s
          ] in
          let across : Rests ms is_top m (port_of i p) (port_of i y) = through k kn i p y inst named sp sy inner refl refl in
          let input : net_kind_is_input (net_kind_of (map port_declared (ports_of ms j.kn)) j.connection.port) ≡ true = subst (λ z. net_kind_is_input (net_kind_of (map port_declared (ports_of ms j.kn)) z) ≡ true) (sym j.port) j.input in
          let up : Rests ms is_top m (port_of i y) j.connection.net = subst (λ z. Rests ms is_top m (port_of i z) j.connection.net) j.port (input_edge j.kn i j.connections j.has j.connection j.connected input) in
          let whole : Rests ms is_top m x j.connection.net = after (port_of i p) r (after (port_of i y) across up) in
          subst Settles j.is (next j.connection.net whole (inl (declared_by net_kind_is_read (declared m) j.connection.net refl (connection_net ms names m in_ms j.kn i j.connections j.has j.connection j.connected))))

      child_net : (kn i : Name) (connections : List Connection) → Has m.items (Instance kn i connections) → (l : Connection) → Has connections l → l.net ≡ x → net_kind_is_input (net_kind_of (map port_declared (ports_of ms kn)) l.port) ≡ false → Settles (i ∷ path, l.port)
      child_net kn i connections has l h net e =
          let t = module_there ms kn (is_known_module ms names m in_ms kn i connections has) in
          let n : IsNamed ms kn t.0 = module_is ms kn t.0 t.1 in
          let read = connection_port ms names m in_ms kn i connections has l h in
          let sp : net_kind_of (map port_declared t.0.ports) l.port ≡ Output = subst (λ ps. net_kind_of (map port_declared ps) l.port ≡ Output) n.ports (output_is (ports_of ms kn) l.port read e) in
          let inst : Has (instances m) (kn, i) = has_flat item_instances m.items (Instance kn i connections) (kn, i) has (inl refl) in
          let r : Rests ms is_top m x (port_of i l.port) = subst (λ z. Rests ms is_top m z (port_of i l.port)) net (output_edge kn i connections has l h e) in
          children kn i t.0 inst t.1 l.port (inl (name_declared t.0 l.port (declared_by net_kind_is_read (map port_declared t.0.ports) l.port refl (ap net_kind_is_read sp))))
          (λ y below b g. child_below kn i l.port connections has t.0 t.1 sp r y b (joined ms root m path at i y b g) below)

      child_connection : (kn i : Name) (connections : List Connection) → Has m.items (Instance kn i connections) → (l : Connection) → Has connections l → (p q : Bool) → bytes_eq l.net x ≡ p → net_kind_is_input (net_kind_of (map port_declared (ports_of ms kn)) l.port) ≡ q → (b : FlatNet)
          → Has (cond (p && not q) ((i ∷ path, l.port) ∷ []) []) b → Settles b
      child_connection kn i connections has l h true false e f b (inl g) = subst Settles g (child_net kn i connections has l h ((bytes_decides l.net x).0 e) f)
      child_connection kn i connections has l h true false e f b (inr g) = absurd g
      child_connection kn i connections has l h true true e f b g = absurd g
      child_connection kn i connections has l h false q e f b g = absurd g

      driver_net : (z : Name) (e : Value) → Has m.items (Assign z e) → (p : Bool) → bytes_eq z x ≡ p → (b : FlatNet) → Has {N = FlatNet} (cond p (map (λ y. (path, y)) (value_nets e)) []) b → Settles b
      driver_net z e has true s b h =
          let t = of_map (λ y. (path, y)) (value_nets e) b h in
          let same : z ≡ x = (bytes_decides z x).0 s in
          let r : Rests ms is_top m x t.0 = subst (λ w. Rests ms is_top m w t.0) same (line_rests (Assign z e) z t.0 has (has_map (λ y. (z, y)) (value_nets e) t.0 t.1)) in
          subst Settles t.2 (next t.0 r (inl (declared_by net_kind_is_read (declared m) t.0 refl (assign_reads ms names m in_ms z e has t.0 t.1).0)))
      driver_net z e has false s b h = absurd h

      line_settles : (it : Item) → Has m.items it → (b : FlatNet) → Has (line_parts ms path x it) b → Settles b
      line_settles (Assign z e) has b h = driver_net z e has (bytes_eq z x) refl b h
      line_settles (Instance kn i connections) has b h =
          let t = of_flat (λ (l : Connection). if bytes_eq l.net x && not (net_kind_is_input (net_kind_of (map port_declared (ports_of ms kn)) l.port)) then (i ∷ path, l.port) ∷ [] else []) connections b h in
          child_connection kn i connections has t.0 t.1 _ _ refl refl b t.2
      line_settles (Wire w z) has b h = absurd h
      line_settles (Reg w z) has b h = absurd h
      line_settles (Memory w z n) has b h = absurd h
      line_settles (Always s) has b h = absurd h

    module _ (tops : path ≡ [] → is_top m.name ≡ true) where
      abbrev own_ports : List Declaration
      own_ports = map port_declared m.ports

      memory_edge : (b : Bool) → b ≡ true → (x a : Name) → Has (asked_port own_ports x) a → Has (memory_edges b own_ports) (x, a)
      memory_edge true e x a asks =
          let t = of_map declaration_name own_ports x (declared_by net_kind_is_input own_ports x refl (asked_input own_ports x a asks).0) in
          has_flat (answer_edges own_ports) own_ports t.0 (x, a) t.1 (subst (λ z. Has {N = Name × Name} (map (λ y. (z, y)) (asked_port own_ports z)) (x, a)) (sym t.2) (has_map (λ y. (x, y)) (asked_port own_ports x) a asks))
      memory_edge false e x a asks = cc

      root_is : path ≡ [] → root ≡ m
      root_is e = let top : Some root ≡ Some m = ap (λ p. module_at ms root p) (sym e) ∙ at in cc

      answered : (x a : Name) → Has (asked_port (map port_declared root.ports) x) a → path ≡ [] → Rests ms is_top m x a
      answered x a asks e = directly (has_right (flat_map (line_edges ms) m.items) (memory_edges (is_top m.name) (map port_declared m.ports)) (x, a) (memory_edge (is_top m.name) (tops e) x a (subst (λ (k : ModuleTree). Has (asked_port (map port_declared k.ports) x) a) (root_is e) asks)))

      known_answers : (x : Name) → IsKnown m path x → (b : FlatNet) → Has (answers root (path, x)) b → ((z : Name) → Rests ms is_top m x z → IsKnown m path z → Settles (path, z)) → Settles b
      known_answers x (inl h) b g f = let t = answer_net root path x b g in subst Settles t.1 (f t.0 (answered x t.0 t.2 t.3) (inr (no_answers root path x t.0 t.2)))
      known_answers x (inr none) b g f = absurd (subst (λ l. Has l b) none g)

      pub module_settles : (x : Name) → Ends (Rests ms is_top m) x → IsKnown m path x → OutsideSettles m path x → Settles (path, x)
      module_settles x (ends f) known out =
          grounded (λ b h. elim (parts_split ms root path x m at b h) [
            | inl l ↦ (let t = of_flat (line_parts ms path x) m.items b l in line_settles x out (λ z r k o. module_settles z (f z r) k o) t.0 t.1 b t.2)
            | inr r ↦ (elim r [
              | inl g ↦ known_answers x known b g (λ z s k. module_settles z (f z s) k (further x out (λ z r k o. module_settles z (f z r) k o) z s))
              | inr o ↦ out x (inl refl) b o
            ])
          ])

named_in : (ms : List ModuleTree) (o : Option Name) (k : ModuleTree) → and_then o (module_named ms) ≡ Some k → Has ms k
named_in ms None k e = cc
named_in ms (Some x) k e = (module_is ms x k e).has

below_in : (ms : List ModuleTree) (o : Option ModuleTree) (i : Name) (k : ModuleTree) → and_then o (λ (m : ModuleTree). and_then (child_of m.items i) (module_named ms)) ≡ Some k → Has ms k
below_in ms None i k e = cc
below_in ms (Some m) i k e = named_in ms (child_of m.items i) k e

-- a module at a path is one of the modules
pub module_in : (ms : List ModuleTree) (root : ModuleTree) → Has ms root → (path : Path) (m : ModuleTree) → module_at ms root path ≡ Some m → Has ms m
module_in ms root in_root [] m e = let same : root ≡ m = cc e in subst (λ k. Has ms k) same in_root
module_in ms root in_root (i ∷ path) m e = below_in ms (module_at ms root path) i m e

pub child_at : (ms : List ModuleTree) (root : ModuleTree) (names : first_violation (v2_uses ms) ≡ None) (m : ModuleTree) → Has ms m → (path : Path) → module_at ms root path ≡ Some m → (kn i : Name) (k : ModuleTree) → Has (instances m) (kn, i) → module_named ms kn ≡ Some k → module_at ms root (i ∷ path) ≡ Some k
child_at ms root names m in_ms path at kn i k inst named =
    let t = instance_item m.items kn i inst in
    ap (λ o. and_then o (λ (m : ModuleTree). and_then (child_of m.items i) (module_named ms))) at
    ∙ ap (λ o. and_then o (module_named ms)) (child_is ms names m in_ms kn i t.0 t.1)
    ∙ named

module _ (ms : List ModuleTree) (root : ModuleTree) (names : first_violation (v2_uses ms) ≡ None) (loopless : IsLoopless ms (is_top ms)) (in_root : Has ms root) (top_is : is_top ms root.name ≡ true) where
  abbrev InSettles : ModuleTree → Path → Type 0
  InSettles m path = (x : Name) → IsKnown ms root (is_top ms) m path x → OutsideSettles ms root (is_top ms) m path x → IsGrounded (parts ms root true) (path, x)

  top_of : (path : Path) (m : ModuleTree) → module_at ms root path ≡ Some m → path ≡ [] → is_top ms m.name ≡ true
  top_of [] m at e = let same : root ≡ m = cc at in subst (λ (k : ModuleTree). is_top ms k.name ≡ true) same top_is
  top_of (i ∷ path) m at e = cc

  each_module : (n : Name) → Ends (Reaches (containment ms)) n → (m : ModuleTree) → m.name ≡ n → Has ms m → (path : Path) → module_at ms root path ≡ Some m → InSettles m path
  each_module n (ends f) m same in_ms path at x known out =
      module_settles ms root (is_top ms) names m in_ms path at
      (λ kn i k inst named.
      let h : IsNamed ms kn k = module_is ms kn k named in
      each_module kn (f kn (subst (λ z. Reaches (containment ms) z kn) same (one (contains ms m in_ms kn i inst)))) k h.name h.has (i ∷ path) (child_at ms root names m in_ms path at kn i k inst named))
      (top_of path m at) x (wires_end ms (is_top ms) names loopless m in_ms x) known out

  root_module : InSettles root []
  root_module x known out = each_module root.name (modules_end ms (is_top ms) names loopless root.name) root refl in_root [] refl x known out

  nothing_outside : (x : Name) → OutsideSettles ms root (is_top ms) root [] x
  nothing_outside x y below b h = absurd h

  root_settles : (x : Name) → IsGrounded (parts ms root true) ([], x)
  root_settles x =
      grounded (λ b h. elim (parts_split ms root [] x root refl b h) [
        | inl l ↦ (let t = of_flat (line_parts ms [] x) root.items b l in
            line_settles ms root (is_top ms) names root in_root [] refl
            (λ kn i k inst named.
            let h : IsNamed ms kn k = module_is ms kn k named in
            each_module kn (modules_end ms (is_top ms) names loopless kn) k h.name h.has (i ∷ []) (child_at ms root names root in_root [] refl kn i k inst named))
            x (nothing_outside x) (λ z r k o. root_module z k o) t.0 t.1 b t.2)
        | inr r ↦ (elim r [
          | inl g ↦ (let t = answer_net root [] x b g in subst (λ n. IsGrounded (parts ms root true) n) t.1 (root_module t.0 (inr (no_answers root [] x t.0 t.2)) (nothing_outside t.0)))
          | inr o ↦ absurd o
        ])
      ])

  inner_settles : (i : Name) (path : Path) → ((z : Name) → IsGrounded (parts ms root true) (path, z)) → (o : Option ModuleTree) → module_at ms root (i ∷ path) ≡ o → (x : Name) → IsGrounded (parts ms root true) (i ∷ path, x)
  inner_settles i path around None at x =
      grounded (λ b h. elim (has_split (flat_map (line_parts ms (i ∷ path) x) (lines_of (module_at ms root (i ∷ path)))) (outside ms root (i ∷ path, x)) b h) [
        | inl l ↦ absurd (subst (λ o. Has (flat_map (line_parts ms (i ∷ path) x) (lines_of o)) b) at l)
        | inr r ↦ (let t = outer_net ms path i x (lines_of (module_at ms root path)) b r in subst (λ n. IsGrounded (parts ms root true) n) t.1 (around t.0))
      ])
  inner_settles i path around (Some m) at x =
      each_module m.name (modules_end ms (is_top ms) names loopless m.name) m refl (module_in ms root in_root (i ∷ path) m at) (i ∷ path) at x (inr refl)
      (λ y below b h. let t = outer_net ms path i y (lines_of (module_at ms root path)) b h in subst (λ n. IsGrounded (parts ms root true) n) t.1 (around t.0))

  all_settle : (path : Path) (x : Name) → IsGrounded (parts ms root true) (path, x)
  all_settle [] x = root_settles x
  all_settle (i ∷ path) x = inner_settles i path (all_settle path) (module_at ms root (i ∷ path)) refl x

-- the top of a design
pub record IsTopTree (ms : List ModuleTree) (root : ModuleTree) : Type 0 where
  pub has : Has ms root
  pub is_top : is_top ms root.name ≡ true

pub top_tree : (ms : List ModuleTree) (top : ℕ) → IsDesign ms top → (m : ModuleTree) → slice_get ms top ≡ Some m → IsTopTree ms m
top_tree ms top d m at =
    let same : d.one_top.0 ≡ m = cc (d.one_top.1, at) in
    record {
      has = has_got ms top m at;
      is_top = ap (λ rs. option_map_or (λ y. bytes_eq y m.name) (first_name rs) false) d.one_top.2 ∙ subst (λ (k : ModuleTree). bytes_eq k.name m.name ≡ true) (sym same) (same_name m.name);
    }

pub design_settles : (ms : List ModuleTree) (top : ℕ) → IsDesign ms top → (m : ModuleTree) → slice_get ms top ≡ Some m → (n : FlatNet) → IsGrounded (parts ms m true) n
design_settles ms top d m at (path, x) = let t = top_tree ms top d m at in all_settle ms m d.sound.names d.loopless t.has t.is_top path x
