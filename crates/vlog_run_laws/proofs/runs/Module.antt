-- What a module's wires rest on comes to an end.
use Rattle.std.proofs.Common.{◌≡◌, Bool, true, false, cond, List, ◌++◌, Some, None, inl, inr, refl, sym, ap, subst, map}
use Rattle.std.specs.List.{flat_map}
use Rattle.vlog_tree.specs.declared.tree.Connection.{Connection}
use Rattle.vlog_tree.specs.declared.tree.Item.{Item}
use Rattle.vlog_tree.specs.declared.tree.Item.TheVariants.{Wire, Reg, Memory, Assign, Always, Instance}
use Rattle.vlog_tree.specs.declared.table.Declaration.{Declaration}
use Rattle.vlog_tree.specs.Form.{ModuleTree}
use Rattle.tapa_base.specs.Lists.{Has, one, more}
use Rattle.vlog_tree.specs.Table.{Name, declared, port_declared, items_declared, declaration_name, net_kind_of, net_kind_is_read, net_kind_is_driven, net_kind_is_input, ports_of, first_violation}
use Rattle.vlog_tree.specs.V2.{v2_uses}
use Rattle.vlog_tree.specs.V6.{module_children, item_children}
use Rattle.vlog_tree.specs.Loops.{port_of, connection_edge, line_edges, direct_edges, memory_edges, answer_edges, asked_port, instances, item_instances, value_nets, Rests, directly, through, after, containment, own_containment, Reaches, TextPlace, own_places, text_places, IsLoopless}
use Rattle.tapa_base.proofs.Lists.{has_flat, of_flat, has_map, of_map, has_left, has_right, has_split, chains}
use Rattle.vlog_run_laws.proofs.runs.Ending.{Ends, all_end}
use Rattle.vlog_run_laws.proofs.runs.Sound.{declared_by, assign_driven, connection_port, connection_driven, is_known_module}
use Rattle.vlog_run_laws.proofs.runs.Alone.{instance_item, module_there, module_is, IsNamed}

pub name_declared : (m : ModuleTree) (x : Name) → Has (map declaration_name (map port_declared m.ports)) x → Has (map declaration_name (declared m)) x
name_declared m x h =
    let t = of_map declaration_name (map port_declared m.ports) x h in
    subst (λ z. Has (map declaration_name (declared m)) z) t.2 (has_map declaration_name (declared m) t.0 (has_left (map port_declared m.ports) (items_declared m.items) t.0 t.1))

abbrev place_of : ModuleTree → Declaration → TextPlace
place_of m d = (m.name, Some d.name)

module _ (ms : List ModuleTree) where
  abbrev port_names : Name → List Name
  port_names kn = map declaration_name (map port_declared (ports_of ms kn))

  abbrev wires_of_instance : Name × Name → List Name
  wires_of_instance p = map (port_of p.1) (port_names p.0)

  -- the declared names of a module, and a wire for each port of each instance
  abbrev wires : ModuleTree → List Name
  wires m = map declaration_name (declared m) ++ flat_map wires_of_instance (instances m)

  module _ (is_top : Name → Bool) (names : first_violation (v2_uses ms) ≡ None) where
    declared_wire : (m : ModuleTree) (x : Name) → Has (map declaration_name (declared m)) x → Has (wires m) x
    declared_wire m x h = has_left (map declaration_name (declared m)) (flat_map wires_of_instance (instances m)) x h

    port_wire : (m : ModuleTree) (kn i x : Name) → Has (instances m) (kn, i) → Has (port_names kn) x → Has (wires m) (port_of i x)
    port_wire m kn i x inst h = has_right (map declaration_name (declared m)) (flat_map wires_of_instance (instances m)) (port_of i x) (has_flat wires_of_instance (instances m) (kn, i) (port_of i x) inst (has_map (port_of i) (port_names kn) x h))

    connection_start : (m : ModuleTree) → Has ms m → (kn i : Name) (connections : List Connection) → Has m.items (Instance kn i connections) → (l : Connection) → Has connections l → (b : Bool) → net_kind_is_input (net_kind_of (map port_declared (ports_of ms kn)) l.port) ≡ b
        → (x y : Name) → ◌≡◌ {A = Name × Name} (cond b (port_of i l.port, l.net) (l.net, port_of i l.port)) (x, y) → Has (wires m) x
    connection_start m in_ms kn i connections has l h true e x y same =
        subst (λ (q : Name × Name). Has (wires m) q.0) same
        (port_wire m kn i l.port (has_flat item_instances m.items (Instance kn i connections) (kn, i) has (inl refl)) (declared_by net_kind_is_read _ l.port refl (connection_port ms names m in_ms kn i connections has l h)))
    connection_start m in_ms kn i connections has l h false e x y same =
        subst (λ (q : Name × Name). Has (wires m) q.0) same (declared_wire m l.net (declared_by net_kind_is_driven _ l.net refl (connection_driven ms names m in_ms kn i connections has l h e)))

    line_start : (m : ModuleTree) → Has ms m → (it : Item) → Has m.items it → (x y : Name) → Has (line_edges ms it) (x, y) → Has (wires m) x
    unfolding connection_edge
    line_start m in_ms (Assign z e) has x y h =
        let t = of_map (λ y. (z, y)) (value_nets e) (x, y) h in
        subst (λ (q : Name × Name). Has (wires m) q.0) t.2 (declared_wire m z (declared_by net_kind_is_driven _ z refl (assign_driven ms names m in_ms z e has)))
    line_start m in_ms (Instance kn i connections) has x y h =
        let t = of_map (connection_edge (map port_declared (ports_of ms kn)) i) connections (x, y) h in
        connection_start m in_ms kn i connections has t.0 t.1 _ refl x y t.2
    line_start m in_ms (Wire w z) has x y h = absurd h
    line_start m in_ms (Reg w z) has x y h = absurd h
    line_start m in_ms (Memory w z n) has x y h = absurd h
    line_start m in_ms (Always b) has x y h = absurd h

    memory_start : (m : ModuleTree) (b : Bool) (x y : Name) → Has (memory_edges b (map port_declared m.ports)) (x, y) → Has (wires m) x
    memory_start m true x y h =
        let ports = map port_declared m.ports in
        let t = of_flat (answer_edges ports) ports (x, y) h in
        let q = of_map (λ y. (t.0.name, y)) (asked_port ports t.0.name) (x, y) t.2 in
        subst (λ (q : Name × Name). Has (wires m) q.0) q.2 (declared_wire m t.0.name (name_declared m t.0.name (has_map declaration_name ports t.0 t.1)))
    memory_start m false x y h = absurd h

    direct_start : (m : ModuleTree) → Has ms m → (x y : Name) → Has (direct_edges ms is_top m) (x, y) → Has (wires m) x
    direct_start m in_ms x y h = elim (has_split (flat_map (line_edges ms) m.items) _ (x, y) h) [
      | inl l ↦ (let t = of_flat (line_edges ms) m.items (x, y) l in line_start m in_ms t.0 t.1 x y t.2)
      | inr r ↦ memory_start m (is_top m.name) x y r
    ]

    -- what rests on something is a wire of the module
    rest_start : (m : ModuleTree) → Has ms m → (x y : Name) → Rests ms is_top m x y → Has (wires m) x
    rest_start m in_ms x y (directly h) = direct_start m in_ms x y h
    rest_start m in_ms a b (through k kn i x y inst named sx sy r ea eb) =
        let d : Has (map declaration_name (map port_declared k.ports)) x = declared_by net_kind_is_read (map port_declared k.ports) x refl (ap net_kind_is_read sx) in
        subst (λ z. Has (wires m) z) (sym ea) (port_wire m kn i x inst (subst (λ ps. Has (map declaration_name (map port_declared ps)) x) (sym (module_is ms kn k named).ports) d))
    rest_start m in_ms x z (after y r s) = rest_start m in_ms x y r

    module _ (loopless : IsLoopless ms is_top) where
      place_has : (m : ModuleTree) → Has ms m → (x : Name) → Has (map declaration_name (declared m)) x → Has (text_places ms) (m.name, Some x)
      place_has m in_ms x h =
          let t = of_map declaration_name (declared m) x h in
          has_flat own_places ms m (m.name, Some x) in_ms
          (inr (subst (λ z. Has {N = TextPlace} (map (place_of m) (declared m)) (m.name, Some z)) t.2 (has_map (place_of m) (declared m) t.0 t.1)))

      port_loop : (m : ModuleTree) → Has ms m → (kn i x : Name) → Has (instances m) (kn, i) → Has (port_names kn) x → Rests ms is_top m (port_of i x) (port_of i x) → ⊥
      port_loop m in_ms kn i x inst h r =
          let t = instance_item m.items kn i inst in
          let k = module_there ms kn (is_known_module ms names m in_ms kn i t.0 t.1) in
          let n : IsNamed ms kn k.0 = module_is ms kn k.0 k.1 in
          let d : Has (map declaration_name (declared k.0)) x = name_declared k.0 x (subst (λ ps. Has (map declaration_name (map port_declared ps)) x) n.ports h) in
          loopless (k.0.name, Some x) (place_has k.0 n.has x d) (inr (m, i, in_ms, subst (λ z. Has (instances m) (z, i)) (sym n.name) inst, r))

      no_wire_loops : (m : ModuleTree) → Has ms m → (x : Name) → Has (wires m) x → Rests ms is_top m x x → ⊥
      no_wire_loops m in_ms x h r = elim (has_split (map declaration_name (declared m)) _ x h) [
        | inl l ↦ loopless (m.name, Some x) (place_has m in_ms x l) (inl (m, in_ms, refl, r))
        | inr k ↦ (let t = of_flat wires_of_instance (instances m) x k in
            let q = of_map (port_of t.0.1) (port_names t.0.0) x t.2 in
            port_loop m in_ms t.0.0 t.0.1 q.0 t.1 q.1 (subst (λ z. Rests ms is_top m z z) (sym q.2) r))
      ]

      -- a wire of a module rests on others in finitely many steps
      pub wires_end : (m : ModuleTree) → Has ms m → (x : Name) → Ends (Rests ms is_top m) x
      wires_end m in_ms x = all_end (Rests ms is_top m) (wires m) (rest_start m in_ms) (λ x y z r s. after y r s) (no_wire_loops m in_ms) x

      module_names : List Name
      module_names = map (λ (m : ModuleTree). m.name) ms

      reach_start : (x y : Name) → Reaches (containment ms) x y → Has (map (λ (m : ModuleTree). m.name) ms) x
      unfolding own_containment
      reach_start x y (one h) = contains_start x y h where
        contains_start : (x y : Name) → Has (containment ms) (x, y) → Has (map (λ (m : ModuleTree). m.name) ms) x
        contains_start x y h =
            let t = of_flat own_containment ms (x, y) h in
            let q = of_map (λ k. (t.0.name, k)) (module_children t.0) (x, y) t.2 in
            subst (λ (q : Name × Name). Has (map (λ (m : ModuleTree). m.name) ms) q.0) q.2 (has_map (λ (m : ModuleTree). m.name) ms t.0 t.1)
      reach_start x y (more b h r) =
          let t = of_flat own_containment ms (x, b) h in
          let q = of_map (λ k. (t.0.name, k)) (module_children t.0) (x, b) t.2 in
          subst (λ (q : Name × Name). Has (map (λ (m : ModuleTree). m.name) ms) q.0) q.2 (has_map (λ (m : ModuleTree). m.name) ms t.0 t.1)

      no_module_loops : (x : Name) → Has (map (λ (m : ModuleTree). m.name) ms) x → Reaches (containment ms) x x → ⊥
      no_module_loops x h r =
          let t = of_map (λ (m : ModuleTree). m.name) ms x h in
          loopless (x, None) (has_flat own_places ms t.0 (x, None) t.1 (inl (ap (λ z. (z, None)) t.2))) r

      -- modules contain others in finitely many steps
      pub modules_end : (x : Name) → Ends (Reaches (containment ms)) x
      modules_end x = all_end (Reaches (containment ms)) (map (λ (m : ModuleTree). m.name) ms) reach_start (λ x y z r s. chains (λ x y. Has (containment ms) (x, y)) x y z r s) no_module_loops x

  pub contains : (m : ModuleTree) → Has ms m → (kn i : Name) → Has (instances m) (kn, i) → Has (containment ms) (m.name, kn)
  unfolding own_containment module_children
  contains m in_ms kn i inst =
      let t = instance_item m.items kn i inst in
      has_flat own_containment ms m (m.name, kn) in_ms (has_map (λ k. (m.name, k)) (module_children m) kn (has_flat item_children m.items (Instance kn i t.0) kn t.1 (inl refl)))
