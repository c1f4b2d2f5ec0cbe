-- In one cycle a net that rests on no input of the top has the same number whatever the top's inputs are.
use Rattle.std.proofs.Common.{◌≡◌, ℕ, Bool, true, false, cond, ◌&&◌, ◌||◌, List, [], ◌∷◌, Some, None, inl, inr, refl, sym, ap, subst, ◌∙◌, map}
use Rattle.std.specs.Prelude.{bytes_eq, ◌⊎◌, ◌==◌, if◌then◌else◌, not}
use Rattle.std.specs.List.{flat_map, AllByRecursion}
use Rattle.std.specs.Cmp.Lexicographic.{bytes_decides}
use Rattle.std.proofs.lemmas.Bool.{or_left}
use Rattle.vlog_tree.specs.declared.tree.Value.{Value}
use Rattle.vlog_tree.specs.declared.tree.Connection.{Connection}
use Rattle.vlog_tree.specs.declared.tree.PortDecl.{PortDecl}
use Rattle.vlog_tree.specs.declared.tree.Item.{Item}
use Rattle.vlog_tree.specs.declared.tree.Item.TheVariants.{Wire, Reg, Memory, Assign, Always, Instance}
use Rattle.vlog_tree.specs.declared.table.Declaration.{Declaration}
use Rattle.vlog_tree.specs.declared.table.NetKind.TheVariants.{Input, Output}
use Rattle.vlog_tree.specs.Form.{ModuleTree, is_input}
use Rattle.vlog_tree.specs.Grounded.{IsGrounded, grounded}
use Rattle.tapa_base.specs.Lists.{Has}
use Rattle.vlog_tree.specs.Cycle.{Cycle, Path, module_at}
use Rattle.vlog_tree.specs.Table.{Name, is_clk, declared, port_declared, items_declared, find_name, net_kind_of, net_kind_is_read, net_kind_is_input, ports_of, first_violation, module_named}
use Rattle.vlog_tree.specs.Labels.{rst}
use Rattle.vlog_tree.specs.V2.{v2_uses}
use Rattle.vlog_tree.specs.V4.{v4_uses}
use Rattle.vlog_tree.specs.V6.{v6_uses, is_top, fixed_fits, is_in}
use Rattle.vlog_tree.specs.Loops.{port_of, connection_edge, line_edges, memory_edges, instances, item_instances, value_nets, Rests, directly, through, after}
use Rattle.vlog_tree.specs.Flattened.{FlatNet, parts, line_parts, lines_of}
use Rattle.tapa_base.proofs.Lists.{has_flat, of_flat, has_map, of_map, has_left}
use Rattle.vlog_run_laws.specs.runs.OneRun.{SameHeld}
use Rattle.vlog_run_laws.specs.runs.Readable.{CanBeRead}
use Rattle.vlog_run_laws.proofs.runs.Sound.{connection_port, is_known_module, output_is, input_is}
use Rattle.vlog_run_laws.proofs.runs.Alone.{one_instance, module_there, module_is, IsNamed, find_there}
use Rattle.vlog_run_laws.proofs.runs.Settled.{outside, answers, outer_net, Joined, joined, child_at, module_in}
use Rattle.vlog_run_laws.proofs.runs.Cycles.{port_stands, port_net_kind_declared}
use Rattle.vlog_run_laws.proofs.runs.TopPorts.{input_port}
use Rattle.vlog_run_laws.proofs.runs.Ports.{fits, named_port, input_net_kind}
use Rattle.vlog_run_laws.proofs.runs.Parts.{part_line, part_outside}
use Rattle.vlog_run_laws.proofs.runs.Equations.{module_same, input_value}
use Rattle.vlog_run_laws.proofs.runs.NetsRead.{line_net, outside_net}
use Rattle.vlog_run_laws.proofs.runs.Solved.{numbers, Allowed, net_solves, inner_input}
use Rattle.hw_build.specs.Order.{RestsOnNoInput}
use Rattle.tapa_base.proofs.Tests.{both_true}
use Rattle.tapa_base.proofs.Got.{all_from}

module _ (ms : List ModuleTree) (root : ModuleTree) where
  abbrev RestsOn : ModuleTree → Name → Name → Type 0
  RestsOn m x y = Rests ms (is_top ms) m x y

  -- the net or what it rests on in its module
  abbrev Below : ModuleTree → Name → Name → Type 0
  Below m x y = (x ≡ y) ⊎ RestsOn m x y

  abbrev child_ports : Name → List Declaration
  child_ports kn = map port_declared (ports_of ms kn)

  below_then : (m : ModuleTree) (x y z : Name) → Below m x y → Below m y z → Below m x z
  below_then m x y z (inl e) q = subst (λ w. Below m w z) (sym e) q
  below_then m x y z (inr r) (inl e) = inr (subst (λ w. RestsOn m x w) e r)
  below_then m x y z (inr r) (inr s) = inr (after y r s)

  -- a net of the module at a path rests on no input of the top, in its module or through the nets around
  abbrev pub IsFree : Path → Name → Type 0
  IsFree [] x = (y : Name) → net_kind_of (declared root) y ≡ Input → Below root x y → ⊥
  IsFree (i ∷ path) x =
      (m : ModuleTree) → module_at ms root (i ∷ path) ≡ Some m → (y : Name) → Below m x y → (z : Name) → Has {N = FlatNet} (outside ms root (i ∷ path, y)) (path, z)
      → IsFree path z

  abbrev IsFreeNet : FlatNet → Type 0
  IsFreeNet n = IsFree n.0 n.1

  -- then nor does what it rests on
  free_below : (path : Path) (m : ModuleTree) → module_at ms root path ≡ Some m → (x y : Name) → RestsOn m x y → IsFree path x → IsFree path y
  free_below [] m at x y r free =
      let same : m ≡ root = cc at in
      λ z e below. free z e (below_then root x y z (inr (subst (λ (k : ModuleTree). RestsOn k x y) same r)) below)
  free_below (i ∷ path) m at x y r free = λ k there z below w h. free k there z (below_then k x y z (inr (moved k there)) below) w h where
    moved : (k : ModuleTree) → module_at ms root (i ∷ path) ≡ Some k → RestsOn k x y
    moved k there = let same : m ≡ k = cc (at, there) in subst (λ (k : ModuleTree). RestsOn k x y) same r

  -- what comes from outside to such a net
  outside_free : (path : Path) (m : ModuleTree) → module_at ms root path ≡ Some m → (x : Name) → IsFree path x → (b : FlatNet) → Has (outside ms root (path, x)) b → IsFreeNet b
  outside_free [] m at x free b h = absurd h
  outside_free (i ∷ path) m at x free b h =
      let t = outer_net ms path i x (lines_of (module_at ms root path)) b h in
      subst IsFreeNet t.1 (free m at x (inl refl) t.0 (subst (λ n. Has (outside ms root (i ∷ path, x)) n) (sym t.1) h))

  module _ (names : first_violation (v2_uses ms) ≡ None) (m : ModuleTree) (in_ms : Has ms m) (path : Path) (at : module_at ms root path ≡ Some m) where
    line_rests : (it : Item) (x y : Name) → Has m.items it → Has (line_edges ms it) (x, y) → RestsOn m x y
    line_rests it x y has h =
        directly (has_left (flat_map (line_edges ms) m.items) (memory_edges (is_top ms m.name) (map port_declared m.ports)) (x, y) (has_flat (line_edges ms) m.items it (x, y) has h))

    -- an instance's input rests on its net, and a net on the instance's output
    input_edge : (kn i : Name) (connections : List Connection) → Has m.items (Instance kn i connections) → (l : Connection) → Has connections l
        → net_kind_is_input (net_kind_of (child_ports kn) l.port) ≡ true → RestsOn m (port_of i l.port) l.net
    unfolding connection_edge
    input_edge kn i connections has l h e =
        let f = has_map (connection_edge (child_ports kn) i) connections l h in
        line_rests (Instance kn i connections) (port_of i l.port) l.net has
        (subst (λ b. Has {N = Name × Name} (map (connection_edge (child_ports kn) i) connections) (cond b (port_of i l.port, l.net) (l.net, port_of i l.port))) e f)

    output_edge : (kn i : Name) (connections : List Connection) → Has m.items (Instance kn i connections) → (l : Connection) → Has connections l
        → net_kind_is_input (net_kind_of (child_ports kn) l.port) ≡ false → RestsOn m l.net (port_of i l.port)
    unfolding connection_edge
    output_edge kn i connections has l h e =
        let f = has_map (connection_edge (child_ports kn) i) connections l h in
        line_rests (Instance kn i connections) l.net (port_of i l.port) has
        (subst (λ b. Has {N = Name × Name} (map (connection_edge (child_ports kn) i) connections) (cond b (port_of i l.port, l.net) (l.net, port_of i l.port))) e f)

    module _ (x : Name) (free : IsFree path x) where
      -- an output of an instance rests on no input of the top where the net that it drives does not
      output_free : (kn i p : Name) (connections : List Connection) → Has m.items (Instance kn i connections) → (k : ModuleTree) → module_named ms kn ≡ Some k
          → net_kind_of (map port_declared k.ports) p ≡ Output → RestsOn m x (port_of i p)
          → module_at ms root (i ∷ path) ≡ Some k → (y : Name) → Below k p y → (z : Name) → Joined ms root m path i y (path, z) → IsFree path z
      output_free kn i p connections has k named sp r there y below z j =
          let u = one_instance ms names m in_ms j.kn kn i j.connections connections j.has has in
          let n : IsNamed ms kn k = module_is ms kn k named in
          let sy : net_kind_of (map port_declared k.ports) y ≡ Input =
          subst (λ ps. net_kind_of (map port_declared ps) y ≡ Input) n.ports (subst (λ z. net_kind_of (child_ports z) y ≡ Input) u.0 (input_is _ j.input)) in
          let inst : Has (instances m) (kn, i) = has_flat item_instances m.items (Instance kn i connections) (kn, i) has (inl refl) in
          let inner : RestsOn k p y = elim below [
            | inl e ↦ (let clash : Output ≡ Input = sym sp ∙ ap (λ z. net_kind_of (map port_declared k.ports) z) e ∙ sy in cc)
            | inr s ↦ s
          ] in
          let across : RestsOn m (port_of i p) (port_of i y) = through k kn i p y inst named sp sy inner refl refl in
          let input : net_kind_is_input (net_kind_of (child_ports j.kn) j.connection.port) ≡ true = subst (λ z. net_kind_is_input (net_kind_of (child_ports j.kn) z) ≡ true) (sym j.port) j.input in
          let up : RestsOn m (port_of i y) j.connection.net = subst (λ z. RestsOn m (port_of i z) j.connection.net) j.port (input_edge j.kn i j.connections j.has j.connection j.connected input) in
          let whole : RestsOn m x j.connection.net = after (port_of i p) r (after (port_of i y) across up) in
          subst (IsFree path) (ap (λ (q : FlatNet). q.1) j.is) (free_below path m at x j.connection.net whole free)

      child_free : (kn i : Name) (connections : List Connection) → Has m.items (Instance kn i connections) → (l : Connection) → Has connections l → l.net ≡ x
          → net_kind_is_input (net_kind_of (child_ports kn) l.port) ≡ false → IsFree (i ∷ path) l.port
      child_free kn i connections has l h net e =
          let t = module_there ms kn (is_known_module ms names m in_ms kn i connections has) in
          let n : IsNamed ms kn t.0 = module_is ms kn t.0 t.1 in
          let sp : net_kind_of (map port_declared t.0.ports) l.port ≡ Output =
          subst (λ ps. net_kind_of (map port_declared ps) l.port ≡ Output) n.ports (output_is (ports_of ms kn) l.port (connection_port ms names m in_ms kn i connections has l h) e) in
          let inst : Has (instances m) (kn, i) = has_flat item_instances m.items (Instance kn i connections) (kn, i) has (inl refl) in
          let here : module_at ms root (i ∷ path) ≡ Some t.0 = child_at ms root names m in_ms path at kn i t.0 inst t.1 in
          let r : RestsOn m x (port_of i l.port) = subst (λ z. RestsOn m z (port_of i l.port)) net (output_edge kn i connections has l h e) in
          λ k there y below z g.
          let same : k ≡ t.0 = cc (there, here) in
          output_free kn i l.port connections has t.0 t.1 sp r here y (subst (λ (k : ModuleTree). Below k l.port y) same below) z (joined ms root m path at i y (path, z) g)

      child_connection : (kn i : Name) (connections : List Connection) → Has m.items (Instance kn i connections) → (l : Connection) → Has connections l → (p q : Bool)
          → bytes_eq l.net x ≡ p → net_kind_is_input (net_kind_of (child_ports kn) l.port) ≡ q → (b : FlatNet) → Has (cond (p && not q) ((i ∷ path, l.port) ∷ []) []) b → IsFreeNet b
      child_connection kn i connections has l h true false e f b (inl g) = subst IsFreeNet g (child_free kn i connections has l h ((bytes_decides l.net x).0 e) f)
      child_connection kn i connections has l h true false e f b (inr g) = absurd g
      child_connection kn i connections has l h true true e f b g = absurd g
      child_connection kn i connections has l h false q e f b g = absurd g

      driver_free : (z : Name) (e : Value) → Has m.items (Assign z e) → (p : Bool) → bytes_eq z x ≡ p → (b : FlatNet)
          → Has {N = FlatNet} (cond p (map (λ y. (path, y)) (value_nets e)) []) b → IsFreeNet b
      driver_free z e has true s b h =
          let t = of_map (λ y. (path, y)) (value_nets e) b h in
          let same : z ≡ x = (bytes_decides z x).0 s in
          let r : RestsOn m x t.0 = subst (λ w. RestsOn m w t.0) same (line_rests (Assign z e) z t.0 has (has_map (λ y. (z, y)) (value_nets e) t.0 t.1)) in
          subst IsFreeNet t.2 (free_below path m at x t.0 r free)
      driver_free z e has false s b h = absurd h

      -- what the lines of its module give to such a net
      pub line_free : (it : Item) → Has m.items it → (b : FlatNet) → Has (line_parts ms path x it) b → IsFreeNet b
      line_free (Assign z e) has b h = driver_free z e has (bytes_eq z x) refl b h
      line_free (Instance kn i connections) has b h =
          let t = of_flat (λ (l : Connection). if bytes_eq l.net x && not (net_kind_is_input (net_kind_of (child_ports kn) l.port)) then (i ∷ path, l.port) ∷ [] else []) connections b h in
          child_connection kn i connections has t.0 t.1 _ _ refl refl b t.2
      line_free (Wire w z) has b h = absurd h
      line_free (Reg w z) has b h = absurd h
      line_free (Memory w z n) has b h = absurd h
      line_free (Always s) has b h = absurd h

held_itself : (c : Cycle) (it : Item) → SameHeld c c it
held_itself c (Reg w x) = refl
held_itself c (Memory w x n) = λ a low. refl
held_itself c (Wire w x) = tt
held_itself c (Assign x e) = tt
held_itself c (Always b) = tt
held_itself c (Instance k i connections) = tt

module _ (ms : List ModuleTree) (root : ModuleTree) (names : first_violation (v2_uses ms) ≡ None) (drivers : first_violation (v4_uses ms) ≡ None) (tops : first_violation (v6_uses ms) ≡ None)
    (in_root : Has ms root) (top_is : is_top ms root.name ≡ true) where
  -- two cycles with the same held numbers, and with any inputs
  module _ (c d : Path → Cycle) (ac : Allowed ms root c) (ad : Allowed ms root d)
      (same_held : (path : Path) (m : ModuleTree) → module_at ms root path ≡ Some m → AllByRecursion (SameHeld (d path) (c path)) m.items) where
    -- nothing is given to inputs of the top, since no net that is asked for is one
    abbrev give : Name → ℕ → ℕ
    give x n = 0

    input_of : (e : Path → Cycle) → Allowed ms root e → (path : Path) (m : ModuleTree) → module_at ms root path ≡ Some m → (x : Name) → IsFree ms root path x → net_kind_of (declared m) x ≡ Input
        → (e path).net x ≡ input_value ms root c give (numbers e) (path, x)
    input_of e ae [] m at x free s = let same : m ≡ root = cc at in absurd (free x (subst (λ k. net_kind_of (declared k) x ≡ Input) same s) (inl refl))
    input_of e ae (i ∷ path) m at x free s = inner_input ms root names drivers in_root e ae i path m at x s

    no_answer : (path : Path) (m : ModuleTree) → module_at ms root path ≡ Some m → (x : Name) → IsFree ms root path x → net_kind_of (declared m) x ≡ Input
        → (b : FlatNet) → Has (answers root (path, x)) b → ⊥
    no_answer [] m at x free s b h = let same : m ≡ root = cc at in free x (subst (λ k. net_kind_of (declared k) x ≡ Input) same s) (inl refl)
    no_answer (i ∷ path) m at x free s b h = h

    free_agree : (n : FlatNet) → IsGrounded (parts ms root true) n → CanBeRead ms root n → IsFree ms root n.0 n.1 → numbers c n ≡ numbers d n
    free_agree n (grounded f) g free =
        net_solves ms root names drivers in_root c ac n.0 g.tree g.at c (all_from (SameHeld (c n.0) (c n.0)) g.tree.items (λ it h. held_itself (c n.0) it)) give n.1 g.read
        (input_of c ac n.0 g.tree g.at n.1 free)
        ∙ module_same ms root c give g.tree n.0 n.1 (numbers c) (numbers d)
        (record {
          lines = λ b h.
              let t = of_flat (line_parts ms n.0 n.1) g.tree.items b h in
              free_agree b (f b (part_line ms root n.0 n.1 g.tree g.at b h)) (line_net ms root names tops in_root top_is n.0 g.tree g.at n.1 g.clock t.0 t.1 b t.2)
              (line_free ms root names g.tree (module_in ms root in_root n.0 g.tree g.at) n.0 g.at n.1 free t.0 t.1 b t.2);
          around = λ e b h.
              free_agree b (f b (part_outside ms root n.0 n.1 b h)) (outside_net ms root names tops in_root top_is n.0 g.tree g.at n.1 g.clock b h) (outside_free ms root n.0 g.tree g.at n.1 free b h);
          asked = λ e b h. absurd (no_answer n.0 g.tree g.at n.1 free e b h);
        })
        ∙ sym (net_solves ms root names drivers in_root d ad n.0 g.tree g.at c (same_held n.0 g.tree g.at) give n.1 g.read (input_of d ad n.0 g.tree g.at n.1 free))

  -- ---- the outputs of the top

  port_known : (ps : List PortDecl) (p : PortDecl) → Has ps p → net_kind_is_read (net_kind_of (map port_declared ps) p.name) ≡ true
  port_known ps p h =
      let f = find_there (map port_declared ps) (port_declared p) (has_map port_declared ps p h) in
      let q = of_map port_declared ps (find_name (map port_declared ps) p.name) f.0 in
      ap (λ (d : Declaration). net_kind_is_read d.net_kind) (sym q.2) ∙ is_read (is_input q.0.direction) where
        is_read : (i : Bool) → net_kind_is_read (cond i Input Output) ≡ true
        is_read true = refl
        is_read false = refl

  input_stands : (x : Name) → net_kind_of (declared root) x ≡ Input → net_kind_of (map port_declared root.ports) x ≡ Input
  input_stands x e =
      let p = input_port root x e in
      let read : net_kind_is_read (net_kind_of (map port_declared root.ports) x) ≡ true =
      subst (λ z. net_kind_is_read (net_kind_of (map port_declared root.ports) z) ≡ true) p.2 (port_known root.ports p.0 p.1) in
      sym (ap (λ (d : Declaration). d.net_kind) (port_stands (map port_declared root.ports) (items_declared root.items) x read)) ∙ e

  module _ (x : Name) (output : net_kind_of (map port_declared root.ports) x ≡ Output) where
    declared_output : net_kind_of (declared root) x ≡ Output
    declared_output = port_net_kind_declared root x Output refl output

    clock_in : (p : PortDecl) → fixed_fits p ≡ true → is_clk p.name ≡ true → is_input p.direction ≡ true
    unfolding fixed_fits
    clock_in p h e =
        let r = both_true (not (is_clk p.name || bytes_eq p.name rst) || is_in p 1) _ h in
        (both_true (is_input p.direction) (p.width == 1) (either_true (is_clk p.name || bytes_eq p.name rst) (is_in p 1) (or_left (is_clk p.name) _ e) r.0)).0 where
          either_true : (a b : Bool) → a ≡ true → (not a || b) ≡ true → b ≡ true
          either_true true b e h = h
          either_true false b e h = cc

    output_clock : (b : Bool) → is_clk x ≡ b → b ≡ false
    output_clock false e = refl
    output_clock true e =
        let p = named_port ms names tops root in_root top_is x (ap net_kind_is_read output) in
        let f = fits ms names tops root in_root top_is p.0 p.1 in
        let input = input_net_kind ms names tops root in_root top_is p.0 p.1 (clock_in p.0 f.1.fixed (ap is_clk p.2 ∙ e)) in
        let clash : Output ≡ Input = sym declared_output ∙ ap (λ z. net_kind_of (declared root) z) (sym p.2) ∙ input in
        cc

    output_rests_on_none : RestsOnNoInput ms (is_top ms) root → IsFree ms root [] x
    output_rests_on_none rests y e (inl same) = let clash : Output ≡ Input = sym declared_output ∙ ap (λ z. net_kind_of (declared root) z) same ∙ e in cc
    output_rests_on_none rests y e (inr r) = rests x y output (input_stands y e) r

    -- an output has the same number in both
    pub output_same : RestsOnNoInput ms (is_top ms) root → ((n : FlatNet) → IsGrounded (parts ms root true) n) → (c d : Path → Cycle) → Allowed ms root c → Allowed ms root d
        → ((path : Path) (m : ModuleTree) → module_at ms root path ≡ Some m → AllByRecursion (SameHeld (d path) (c path)) m.items) → (c []).net x ≡ (d []).net x
    output_same rests settled c d ac ad held =
        free_agree c d ac ad held ([], x) (settled ([], x))
        (record { tree = root; at = refl; read = ap net_kind_is_read declared_output; clock = output_clock (is_clk x) refl }) (output_rests_on_none rests)
