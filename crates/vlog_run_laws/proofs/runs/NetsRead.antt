-- What a net has its number from can be read.
use Rattle.std.proofs.Common.{◌≡◌, Bool, true, false, cond, ◌&&◌, List, [], ◌∷◌, Some, None, inl, inr, refl, sym, ap, subst, ◌∙◌, map}
use Rattle.std.specs.Prelude.{bytes_eq, if◌then◌else◌, not}
use Rattle.std.specs.List.{filter}
use Rattle.std.specs.Cmp.Lexicographic.{bytes_decides}
use Rattle.vlog_tree.specs.declared.tree.Value.{Value}
use Rattle.vlog_tree.specs.declared.tree.Connection.{Connection}
use Rattle.vlog_tree.specs.declared.tree.Item.{Item}
use Rattle.vlog_tree.specs.declared.tree.Item.TheVariants.{Wire, Reg, Memory, Assign, Always, Instance}
use Rattle.vlog_tree.specs.declared.table.Declaration.{Declaration}
use Rattle.vlog_tree.specs.declared.table.NetKind.TheVariants.{Input, Output}
use Rattle.vlog_tree.specs.Form.{ModuleTree}
use Rattle.tapa_base.specs.Lists.{Has}
use Rattle.vlog_tree.specs.Cycle.{Path, module_at}
use Rattle.vlog_tree.specs.Labels.{address_of}
use Rattle.vlog_tree.specs.Table.{Name, declared, port_declared, net_kind_of, net_kind_is_read, net_kind_is_input, is_clk, ports_of, first_violation}
use Rattle.vlog_tree.specs.V2.{v2_uses}
use Rattle.vlog_tree.specs.V6.{v6_uses, is_top, has_port}
use Rattle.vlog_tree.specs.Loops.{asked_port, value_nets, item_instances}
use Rattle.vlog_tree.specs.Flattened.{FlatNet, line_parts}
use Rattle.tapa_base.proofs.Lists.{has_flat, of_flat, of_map}
use Rattle.vlog_run_laws.proofs.runs.Sound.{assign_reads, connection_port, connection_net, connection_clock, output_is, input_is, is_known_module}
use Rattle.vlog_run_laws.proofs.runs.Alone.{module_there, module_is, IsNamed}
use Rattle.vlog_run_laws.proofs.runs.Settled.{outside, answers, asked_address, joined, child_at, module_in}
use Rattle.vlog_run_laws.proofs.runs.Cycles.{port_net_kind_declared}
use Rattle.vlog_run_laws.proofs.runs.TopPorts.{clock_joined, asked_declared}
use Rattle.vlog_run_laws.proofs.runs.Solved.{module_around}
use Rattle.vlog_run_laws.specs.runs.Readable.{CanBeRead}

pub by_input : (b : Bool) (l : List Name) (y : Name) → Has (cond b l []) y → b ≡ true
by_input true l y h = refl
by_input false l y h = absurd h

asks_input : (ports : List Declaration) (x y : Name) → Has (asked_port ports x) y → net_kind_is_input (net_kind_of ports x) ≡ true
asks_input ports x y h = by_input (net_kind_is_input (net_kind_of ports x)) (filter (has_port ports) (address_of x)) y h

module _ (ms : List ModuleTree) (root : ModuleTree) (names : first_violation (v2_uses ms) ≡ None) (tops : first_violation (v6_uses ms) ≡ None) (in_root : Has ms root) (top_is : is_top ms root.name ≡ true) where
  module _ (path : Path) (m : ModuleTree) (at : module_at ms root path ≡ Some m) (x : Name) (clock : is_clk x ≡ false) where
    inside : Has ms m
    inside = module_in ms root in_root path m at

    output_net : (kn i : Name) (connections : List Connection) → Has m.items (Instance kn i connections) → (l : Connection) → Has connections l → l.net ≡ x → net_kind_is_input (net_kind_of (map port_declared (ports_of ms kn)) l.port) ≡ false → CanBeRead ms root (i ∷ path, l.port)
    output_net kn i connections has l h net e =
        let t = module_there ms kn (is_known_module ms names m inside kn i connections has) in
        let n : IsNamed ms kn t.0 = module_is ms kn t.0 t.1 in
        let net_kind : net_kind_of (map port_declared t.0.ports) l.port ≡ Output = subst (λ ps. net_kind_of (map port_declared ps) l.port ≡ Output) n.ports (output_is (ports_of ms kn) l.port (connection_port ms names m inside kn i connections has l h) e) in
        record {
          tree = t.0;
          at = child_at ms root names m inside path at kn i t.0 (has_flat item_instances m.items (Instance kn i connections) (kn, i) has (inl refl)) t.1;
          read = ap net_kind_is_read (port_net_kind_declared t.0 l.port Output refl net_kind);
          clock = clock_joined ms tops m inside kn i connections has l h (ap is_clk net ∙ clock);
        }

    connection_net_of : (kn i : Name) (connections : List Connection) → Has m.items (Instance kn i connections) → (l : Connection) → Has connections l → (p q : Bool) → bytes_eq l.net x ≡ p → net_kind_is_input (net_kind_of (map port_declared (ports_of ms kn)) l.port) ≡ q → (b : FlatNet)
        → Has (cond (p && not q) ((i ∷ path, l.port) ∷ []) []) b → CanBeRead ms root b
    connection_net_of kn i connections has l h true false e f b (inl g) = subst (CanBeRead ms root) g (output_net kn i connections has l h ((bytes_decides l.net x).0 e) f)
    connection_net_of kn i connections has l h true false e f b (inr g) = absurd g
    connection_net_of kn i connections has l h true true e f b g = absurd g
    connection_net_of kn i connections has l h false q e f b g = absurd g

    driver_net : (z : Name) (e : Value) → Has m.items (Assign z e) → (p : Bool) → (b : FlatNet) → Has {N = FlatNet} (cond p (map (λ y. (path, y)) (value_nets e)) []) b → CanBeRead ms root b
    driver_net z e has true b h =
        let t = of_map (λ y. (path, y)) (value_nets e) b h in
        let r = assign_reads ms names m inside z e has t.0 t.1 in
        subst (CanBeRead ms root) t.2 (record { tree = m; at = at; read = r.0; clock = r.1 })
    driver_net z e has false b h = absurd h

    pub line_net : (it : Item) → Has m.items it → (b : FlatNet) → Has (line_parts ms path x it) b → CanBeRead ms root b
    line_net (Assign z e) has b h = driver_net z e has (bytes_eq z x) b h
    line_net (Instance kn i connections) has b h =
        let t = of_flat (λ (l : Connection). if bytes_eq l.net x && not (net_kind_is_input (net_kind_of (map port_declared (ports_of ms kn)) l.port)) then (i ∷ path, l.port) ∷ [] else []) connections b h in
        connection_net_of kn i connections has t.0 t.1 _ _ refl refl b t.2
    line_net (Wire w z) has b h = absurd h
    line_net (Reg w z) has b h = absurd h
    line_net (Memory w z n) has b h = absurd h
    line_net (Always s) has b h = absurd h

  pub outside_net : (path : Path) (m : ModuleTree) → module_at ms root path ≡ Some m → (x : Name) → is_clk x ≡ false → (b : FlatNet) → Has (outside ms root (path, x)) b → CanBeRead ms root b
  outside_net [] m at x n b h = absurd h
  outside_net (i ∷ path) m at x n b h =
      let a = module_around ms root i path m at in
      let j = joined ms root a.tree path a.at i x b h in
      let in_around = module_in ms root in_root path a.tree a.at in
      let input : net_kind_is_input (net_kind_of (map port_declared (ports_of ms j.kn)) j.connection.port) ≡ true = subst (λ z. net_kind_is_input (net_kind_of (map port_declared (ports_of ms j.kn)) z) ≡ true) (sym j.port) j.input in
      subst (CanBeRead ms root) j.is
      (record {
        tree = a.tree;
        at = a.at;
        read = connection_net ms names a.tree in_around j.kn i j.connections j.has j.connection j.connected;
        clock = connection_clock ms names a.tree in_around j.kn i j.connections j.has j.connection j.connected input (ap is_clk j.port ∙ n);
      })

  pub answer_net : (path : Path) (x : Name) → (b : FlatNet) → Has (answers root (path, x)) b → CanBeRead ms root b
  answer_net [] x b h =
      let t = of_map (λ (y : Name). ([], y)) (asked_port (map port_declared root.ports) x) b h in
      let input : net_kind_of (declared root) x ≡ Input = port_net_kind_declared root x Input refl (input_is _ (asks_input (map port_declared root.ports) x t.0 t.1)) in
      let r = asked_declared ms tops root in_root top_is x input t.0 (asked_address (map port_declared root.ports) x t.0 t.1) in
      subst (CanBeRead ms root) t.2 (record { tree = root; at = refl; read = r.0; clock = r.1 })
  answer_net (i ∷ path) x b h = absurd h
