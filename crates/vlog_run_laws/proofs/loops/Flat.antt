-- What rests on itself in a module does so in the flattened design.
use Rattle.std.proofs.Common.{◌≡◌, ℕ, suc, Bool, true, false, cond, ◌&&◌, List, [], ◌∷◌, Option, Some, None, inl, inr, refl, sym, ap, subst, ◌∙◌, map}
use Rattle.std.specs.Prelude.{bytes_eq, if◌then◌else◌, filter}
use Rattle.std.specs.List.{flat_map, AllByRecursion}
use Rattle.std.specs.Option.{option_map_or}
use Rattle.std.specs.Cmp.Lexicographic.{bytes_decides}
use Rattle.vlog_tree.specs.declared.fault.VFault.TheVariants.{V5}
use Rattle.vlog_tree.specs.declared.table.Declaration.{Declaration}
use Rattle.vlog_tree.specs.declared.tree.Connection.{Connection}
use Rattle.vlog_tree.specs.declared.tree.Item.{Item}
use Rattle.vlog_tree.specs.declared.tree.Value.{Value}
use Rattle.vlog_tree.specs.declared.tree.Item.TheVariants.{Wire, Reg, Memory, Assign, Always, Instance}
use Rattle.vlog_tree.specs.Form.{ModuleTree, IsModule}
use Rattle.vlog_tree.specs.Grounded.{Walk}
use Rattle.tapa_base.specs.Lists.{Has, Chain, one, more}
use Rattle.vlog_tree.specs.Cycle.{Path, module_at}
use Rattle.vlog_tree.specs.Labels.{address_of}
use Rattle.vlog_tree.specs.Table.{Name, declared, port_declared, declaration_name, net_kind_of, net_kind_is_read, net_kind_is_driven, net_kind_is_input, ports_of, first_violation}
use Rattle.vlog_tree.specs.V2.{v2_uses}
use Rattle.vlog_tree.specs.V6.{is_top, roots, first_name, has_port}
use Rattle.vlog_tree.specs.Loops.{port_of, connection_edge, line_edges, direct_edges, memory_edges, answer_edges, asked_port, value_nets, Rests, directly, through, after, TextPlace, LiesOnLoop, IsFirstIn}
use Rattle.vlog_tree.specs.Flattened.{FlatNet, parts, outer_parts, lines_of}
use Rattle.vlog_tree.specs.Refused.{IsSound, Refuses}
use Rattle.tapa_base.proofs.Lists.{has_flat, of_flat, has_map, of_map, has_split, chains}
use Rattle.vlog_run_laws.proofs.runs.Sound.{declared_by, assign_driven, assign_reads, connection_net}
use Rattle.vlog_run_laws.proofs.runs.Alone.{instance_item, same_name, module_is, IsNamed}
use Rattle.vlog_run_laws.proofs.runs.Settled.{child_at}
use Rattle.vlog_run_laws.proofs.runs.Module.{name_declared}
use Rattle.vlog_run_laws.proofs.runs.Parts.{part_line, part_outside, part_answer, driver_part, connection_part}
use Rattle.vlog_run_laws.proofs.loops.Dots.{at_dot, node, own_node, port_node}
use Rattle.vlog_run_laws.proofs.loops.Plain.{declared_plain, instance_plain}
use Rattle.vlog_run_laws.proofs.loops.Climbed.{root_path, path_to}
use Rattle.vlog_run_laws.specs.loops.Loops.{ContainsNoneItself, HasLoop}
use Rattle.tapa_base.proofs.Got.{all_at}

-- steps along parts are a walk
walk_of : {N : Type 0} (parts : N → List N) (a b : N) → Chain (λ x y. Has (parts x) y) a b → (n : ℕ) × Walk parts (suc n) a b
walk_of parts a b (one h) = (0, (b, h, refl))
walk_of parts a b (more c h r) = let w = walk_of parts c b r in (suc w.0, (c, h, w.1))

-- an input of an instance has its number from the net that it is joined to
module _ (ms : List ModuleTree) (m : ModuleTree) (path : Path) where
  abbrev by_test : Bool → List FlatNet → List FlatNet
  by_test b l = if b then l else []

  outer_connection : (kn i : Name) (connections : List Connection) → Has m.items (Instance kn i connections) → (l : Connection) → Has connections l → net_kind_is_input (net_kind_of (map port_declared (ports_of ms kn)) l.port) ≡ true → Has (flat_map (outer_parts ms path i l.port) m.items) (path, l.net)
  outer_connection kn i connections has l h e =
      has_flat (outer_parts ms path i l.port) m.items (Instance kn i connections) (path, l.net) has
      (subst (λ b. Has (by_test b (flat_map (λ (k : Connection). if bytes_eq k.port l.port && net_kind_is_input (net_kind_of (map port_declared (ports_of ms kn)) k.port) then (path, k.net) ∷ [] else []) connections)) (path, l.net)) (sym (same_name i))
      (has_flat (λ (k : Connection). if bytes_eq k.port l.port && net_kind_is_input (net_kind_of (map port_declared (ports_of ms kn)) k.port) then (path, k.net) ∷ [] else []) connections l (path, l.net) h
      (subst (λ b. Has (by_test (b && net_kind_is_input (net_kind_of (map port_declared (ports_of ms kn)) l.port)) ((path, l.net) ∷ [])) (path, l.net)) (sym (same_name l.port))
      (subst (λ b. Has (by_test b ((path, l.net) ∷ [])) (path, l.net)) (sym e) (inl refl)))))

filtered : (test : Name → Bool) (z : Name) (zs : List Name) (b : Bool) (a : Name) → test z ≡ b → Has (cond b (z ∷ filter test zs) (filter test zs)) a → (Has (filter test zs) a → test a ≡ true) → test a ≡ true
filtered test z zs true a e (inl s) f = ap test (sym s) ∙ e
filtered test z zs true a e (inr h) f = f h
filtered test z zs false a e h f = f h

passed : (test : Name → Bool) (zs : List Name) (a : Name) → Has (filter test zs) a → test a ≡ true
passed test [] a h = absurd h
passed test (z ∷ zs) a h = filtered test z zs (test z) a refl h (passed test zs a)

either_asked : (b : Bool) (some : List Name) (a : Name) → Has (cond b some []) a → (b ≡ true) × Has some a
either_asked true some a h = (refl, h)
either_asked false some a h = absurd h

-- who asks is an input among the ports, and who is asked is a port
asked : (ports : List Declaration) (x a : Name) → Has (asked_port ports x) a → (net_kind_is_input (net_kind_of ports x) ≡ true) × (has_port ports a ≡ true)
asked ports x a h =
    let t = either_asked (net_kind_is_input (net_kind_of ports x)) (filter (has_port ports) (address_of x)) a h in
    (t.0, passed (has_port ports) (address_of x) a t.1)

top_name : (o : Option Name) (x : Name) → option_map_or (λ y. bytes_eq y x) o false ≡ true → o ≡ Some x
top_name None x e = cc
top_name (Some y) x e = ap (λ z. Some z) ((bytes_decides y x).0 e)

module _ (ms : List ModuleTree) (forms : AllByRecursion IsModule ms) (names : first_violation (v2_uses ms) ≡ None) (root : ModuleTree) (only : roots ms ≡ root ∷ []) (flat : ContainsNoneItself ms) where
  abbrev Step : FlatNet → FlatNet → Type 0
  Step a b = Has (parts ms root true a) b

  abbrev Goes : Path → Name → Name → Type 0
  Goes path x y = Chain Step (node path x) (node path y)

  module _ (m : ModuleTree) (in_ms : Has ms m) (path : Path) (at : module_at ms root path ≡ Some m) where
    plain : (x : Name) → Has (map declaration_name (declared m)) x → at_dot x ≡ None
    plain x h = declared_plain m (all_at IsModule ms m forms in_ms) x h

    -- a step between own nets
    own_step : (x y : Name) → at_dot x ≡ None → at_dot y ≡ None → Step (path, x) (path, y) → Goes path x y
    own_step x y px py h = one (subst (λ a. Step a (node path y)) (sym (own_node path x px)) (subst (λ b. Step (path, x) b) (sym (own_node path y py)) h))

    -- a step into an instance, and one out of it
    in_step : (x i p : Name) → at_dot x ≡ None → at_dot i ≡ None → Step (path, x) (i ∷ path, p) → Goes path x (port_of i p)
    in_step x i p px pi h = one (subst (λ a. Step a (node path (port_of i p))) (sym (own_node path x px)) (subst (λ b. Step (path, x) b) (sym (port_node path i p pi)) h))

    out_step : (i p y : Name) → at_dot i ≡ None → at_dot y ≡ None → Step (i ∷ path, p) (path, y) → Goes path (port_of i p) y
    out_step i p y pi py h = one (subst (λ a. Step a (node path y)) (sym (port_node path i p pi)) (subst (λ b. Step (i ∷ path, p) b) (sym (own_node path y py)) h))

    assign_goes : (x : Name) (e : Value) → Has m.items (Assign x e) → (y : Name) → Has (value_nets e) y → Goes path x y
    assign_goes x e has y h =
        own_step x y (plain x (declared_by net_kind_is_driven (declared m) x refl (assign_driven ms names m in_ms x e has)))
        (plain y (declared_by net_kind_is_read (declared m) y refl (assign_reads ms names m in_ms x e has y h).0))
        (part_line ms root path x m at (path, y) (driver_part ms m path x e has y h))

    outer_step : (kn i : Name) (connections : List Connection) → Has m.items (Instance kn i connections) → (l : Connection) → Has connections l → net_kind_is_input (net_kind_of (map port_declared (ports_of ms kn)) l.port) ≡ true → Step (i ∷ path, l.port) (path, l.net)
    outer_step kn i connections has l h e =
        part_outside ms root (i ∷ path) l.port (path, l.net)
        (subst (λ o. Has (flat_map (outer_parts ms path i l.port) (lines_of o)) (path, l.net)) (sym at) (outer_connection ms m path kn i connections has l h e))

    connection_goes : (kn i : Name) (connections : List Connection) → Has m.items (Instance kn i connections) → (l : Connection) → Has connections l → (b : Bool) → net_kind_is_input (net_kind_of (map port_declared (ports_of ms kn)) l.port) ≡ b
        → (x y : Name) → ◌≡◌ {A = Name × Name} (cond b (port_of i l.port, l.net) (l.net, port_of i l.port)) (x, y) → Goes path x y
    connection_goes kn i connections has l h true e x y same =
        subst (λ (q : Name × Name). Goes path q.0 q.1) same
        (out_step i l.port l.net (instance_plain m (all_at IsModule ms m forms in_ms) kn i connections has)
        (plain l.net (declared_by net_kind_is_read (declared m) l.net refl (connection_net ms names m in_ms kn i connections has l h)))
        (outer_step kn i connections has l h e))
    connection_goes kn i connections has l h false e x y same =
        subst (λ (q : Name × Name). Goes path q.0 q.1) same
        (in_step l.net i l.port (plain l.net (declared_by net_kind_is_read (declared m) l.net refl (connection_net ms names m in_ms kn i connections has l h)))
        (instance_plain m (all_at IsModule ms m forms in_ms) kn i connections has)
        (part_line ms root path l.net m at (i ∷ path, l.port) (connection_part ms m path kn i connections has l h e)))

    line_goes : (it : Item) → Has m.items it → (x y : Name) → Has (line_edges ms it) (x, y) → Goes path x y
    unfolding connection_edge
    line_goes (Assign z e) has x y h =
        let t = of_map (λ y. (z, y)) (value_nets e) (x, y) h in
        subst (λ (q : Name × Name). Goes path q.0 q.1) t.2 (assign_goes z e has t.0 t.1)
    line_goes (Instance kn i connections) has x y h =
        let t = of_map (connection_edge (map port_declared (ports_of ms kn)) i) connections (x, y) h in
        connection_goes kn i connections has t.0 t.1 _ refl x y t.2
    line_goes (Wire w z) has x y h = absurd h
    line_goes (Reg w z) has x y h = absurd h
    line_goes (Memory w z n) has x y h = absurd h
    line_goes (Always b) has x y h = absurd h

    -- the top stands at the empty path, where a memory's answer asks for its address
    answer_step : (p : Path) → p ≡ [] → root ≡ m → (x a : Name) → Has (asked_port (map port_declared m.ports) x) a → Step (p, x) (p, a)
    answer_step [] e same x a h =
        part_answer ms root [] x ([], a) (has_map (λ (y : Name). ([], y)) (asked_port (map port_declared root.ports) x) a (subst (λ (k : ModuleTree). Has (asked_port (map port_declared k.ports) x) a) (sym same) h))
    answer_step (i ∷ p) e same x a h = cc

    root_is : path ≡ [] → root ≡ m
    root_is e = let top : Some root ≡ Some m = ap (λ p. module_at ms root p) (sym e) ∙ at in cc

    port_plain : (x : Name) → net_kind_is_read (net_kind_of (map port_declared m.ports) x) ≡ true → at_dot x ≡ None
    port_plain x h = plain x (name_declared m x (declared_by net_kind_is_read (map port_declared m.ports) x refl h))

    answer_goes : is_top ms m.name ≡ true → (x a : Name) → Has (asked_port (map port_declared m.ports) x) a → Goes path x a
    answer_goes top x a h =
        let named : Some root.name ≡ Some m.name = ap first_name (sym only) ∙ top_name (first_name (roots ms)) m.name top in
        let same : m.name ≡ root.name = cc in
        let here : path ≡ [] = root_path ms names root only flat path m at same in
        let t = asked (map port_declared m.ports) x a h in
        own_step x a (plain x (name_declared m x (declared_by net_kind_is_input (map port_declared m.ports) x refl t.0))) (port_plain a t.1) (answer_step path here (root_is here) x a h)

    memory_goes : (b : Bool) → is_top ms m.name ≡ b → (x y : Name) → Has (memory_edges b (map port_declared m.ports)) (x, y) → Goes path x y
    memory_goes false e x y h = absurd h
    memory_goes true e x y h =
        let ports = map port_declared m.ports in
        let t = of_flat (answer_edges ports) ports (x, y) h in
        let q = of_map (λ y. (t.0.name, y)) (asked_port ports t.0.name) (x, y) t.2 in
        subst (λ (q : Name × Name). Goes path q.0 q.1) q.2 (answer_goes e t.0.name q.0 q.1)

    direct_goes : (x y : Name) → Has (direct_edges ms (is_top ms) m) (x, y) → Goes path x y
    direct_goes x y h = elim (has_split (flat_map (line_edges ms) m.items) _ (x, y) h) [
      | inl l ↦ (let t = of_flat (line_edges ms) m.items (x, y) l in line_goes t.0 t.1 x y t.2)
      | inr r ↦ memory_goes (is_top ms m.name) refl x y r
    ]

  -- what rests on something in a module at a path goes there in the flattened design
  goes : (m : ModuleTree) (x y : Name) → Rests ms (is_top ms) m x y → Has ms m → (path : Path) → module_at ms root path ≡ Some m → Goes path x y
  goes m x y (directly h) in_ms path at = direct_goes m in_ms path at x y h
  goes m a b (through k kn i x y inst named sx sy r ea eb) in_ms path at =
      let n : IsNamed ms kn k = module_is ms kn k named in
      let below : module_at ms root (i ∷ path) ≡ Some k = child_at ms root names m in_ms path at kn i k inst named in
      let t = instance_item m.items kn i inst in
      let pi = instance_plain m (all_at IsModule ms m forms in_ms) kn i t.0 t.1 in
      let inside : Goes (i ∷ path) x y = goes k x y r n.has (i ∷ path) below in
      let px = port_plain k n.has (i ∷ path) below x (ap net_kind_is_read sx) in
      let py = port_plain k n.has (i ∷ path) below y (ap net_kind_is_read sy) in
      let from : node (i ∷ path) x ≡ node path a = own_node (i ∷ path) x px ∙ sym (port_node path i x pi) ∙ ap (node path) (sym ea) in
      let to : node (i ∷ path) y ≡ node path b = own_node (i ∷ path) y py ∙ sym (port_node path i y pi) ∙ ap (node path) (sym eb) in
      subst (λ u. Chain Step u (node path b)) from (subst (λ v. Chain Step (node (i ∷ path) x) v) to inside)
  goes m x z (after y r s) in_ms path at = chains Step (node path x) (node path y) (node path z) (goes m x y r in_ms path at) (goes m y z s in_ms path at)

  looped : (m : ModuleTree) (x : Name) → Has ms m → Rests ms (is_top ms) m x x → HasLoop ms root
  looped m x in_ms r =
      let p = path_to ms names root only flat m in_ms in
      (node p.0 x, walk_of (parts ms root true) (node p.0 x) (node p.0 x) (goes m x x r in_ms p.0 p.1))

  pub loop_of : (s : TextPlace) → LiesOnLoop ms (is_top ms) s → HasLoop ms root
  loop_of (m, None) h = absurd (flat m h)
  loop_of (m, Some x) (inl h) = looped h.0 x h.1 h.3
  loop_of (m, Some x) (inr h) = looped h.0 (port_of h.1 x) h.2 h.4

pub loops_are_flat : (ms : List ModuleTree) (root : ModuleTree) (s : TextPlace) → AllByRecursion IsModule ms → IsSound ms → roots ms ≡ root ∷ [] → ContainsNoneItself ms → LiesOnLoop ms (is_top ms) s → HasLoop ms root
loops_are_flat ms root s forms sound only flat h = loop_of ms forms sound.names root only flat s h

pub refused_is_flat : (ms : List ModuleTree) (root : ModuleTree) (x : Name) → AllByRecursion IsModule ms → roots ms ≡ root ∷ [] → ContainsNoneItself ms → Refuses ms (V5 x) → HasLoop ms root
refused_is_flat ms root x forms only flat h = let first : IsFirstIn (LiesOnLoop ms (is_top ms)) _ h.1.0 = h.1.1 in loops_are_flat ms root h.1.0 forms h.0 only flat first.this
