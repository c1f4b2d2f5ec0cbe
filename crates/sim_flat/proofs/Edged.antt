-- The edges between numbers are the nets and what they have their numbers from.
use Rattle.std.proofs.Common.{◌≡◌, ℕ, ◌<◌, Bool, true, false, cond, ◌&&◌, List, [], ◌∷◌, Option, Some, length, inl, inr, refl, sym, ap, subst, ◌∙◌, map}
use Rattle.std.specs.Prelude.{bytes_eq, not, if◌then◌else◌, option_to_list}
use Rattle.std.specs.List.{flat_map, filter}
use Rattle.std.specs.Option.{option_map_or}
use Rattle.std.specs.Cmp.Lexicographic.{bytes_decides}
use Rattle.vlog_tree.specs.declared.tree.Value.{Value}
use Rattle.vlog_tree.specs.declared.tree.Connection.{Connection}
use Rattle.vlog_tree.specs.declared.tree.Item.{Item}
use Rattle.vlog_tree.specs.declared.tree.Item.TheVariants.{Wire, Reg, Memory, Assign, Always, Instance}
use Rattle.vlog_tree.specs.declared.table.Declaration.{Declaration}
use Rattle.vlog_tree.specs.Form.{ModuleTree}
use Rattle.tapa_base.specs.Lists.{Has}
use Rattle.vlog_tree.specs.Cycle.{Path, module_at}
use Rattle.vlog_tree.specs.Table.{Name, declared, port_declared, declaration_name, net_kind_of, net_kind_is_input, ports_of}
use Rattle.vlog_tree.specs.V6.{has_port}
use Rattle.vlog_tree.specs.Labels.{address_of}
use Rattle.vlog_tree.specs.Loops.{value_nets, asked_port}
use Rattle.vlog_tree.specs.Flattened.{FlatNet, parts, line_parts}
use Rattle.tapa_base.proofs.Lists.{has_left, has_right, has_split, has_flat, of_flat, has_map, of_map, has_got}
use Rattle.vlog_run_laws.proofs.runs.Sound.{declared_by}
use Rattle.vlog_run_laws.proofs.runs.Alone.{one_instance}
use Rattle.vlog_run_laws.proofs.runs.Settled.{outside, answers, parts_split, Joined, joined}
use Rattle.vlog_run_laws.proofs.runs.Parts.{part_line, part_outside, part_answer, driver_part, connection_part}
use Rattle.vlog_run_laws.proofs.runs.Cycles.{outside_has}
use Rattle.sim_flat.specs.Rows.{row_at}
use Rattle.sim_flat.specs.Instances.{StandsAt, IsModuleOf}
use Rattle.sim_flat.specs.declared.flat.Flat.{Flat}
use Rattle.sim_flat.specs.declared.tables.Table.{Table}
use Rattle.sim_flat.specs.Places.{number_in, both}
use Rattle.sim_flat.specs.Flat.{IsFlat, HasNumber}
use Rattle.sim_flat.specs.Edges.{lines_at, base_at, net_edges, assign_edges, own_edges, connection_edge, join_edges, answer_edges, edges_below, instance_edges, top_answers, all_edges}
use Rattle.sim_flat.proofs.Names.{of_both, is_both, of_edge, has_edge}
use Rattle.sim_flat.proofs.Ports.{direction_same}
use Rattle.sim_flat.proofs.Standing.{v2, number_is, net_is, table_of, lines_are, module_of, top_low, top_is, IsInner, inner_of, joins_are}
use Rattle.sim_flat.proofs.Edging.{of_net_edges, has_net_edges, of_below, has_below}
use Rattle.vlog_run_laws.proofs.runs.NetsRead.{by_input as asked_test}

-- an edge leads from a net to one that it has its number from
pub record IsPartEdge (ms : List ModuleTree) (top : ModuleTree) (f : Flat) (p q : ℕ) : Type 0 where
  pub net : FlatNet
  pub part_net : FlatNet
  pub from : HasNumber ms f p net
  pub to : HasNumber ms f q part_net
  pub part : Has (parts ms top true net) part_net

module _ (ms : List ModuleTree) (top : ModuleTree) (f : Flat) (flat : IsFlat ms top f) where
  abbrev ports : List Declaration
  ports = map port_declared top.ports

  -- of a way that is not empty
  abbrev edge_by : Bool → Option ℕ → Option ℕ → List (ℕ × ℕ)
  edge_by b port net = cond b (option_to_list (both port net)) (option_to_list (both net port))

  -- the edges of drivers
  module _ (k : ℕ) (path : Path) (m : ModuleTree) (low : k < length f.instances.items) (stands : StandsAt ms f.instances.items k path) (is : IsModuleOf ms f.instances.items k m) where
    own_are : own_edges ms f k ≡ flat_map (assign_edges (base_at f k) (declared m)) m.items
    own_are =
        let t = table_of ms top f flat k path m low stands is in
        ap (λ (o : Option Table). option_map_or (λ (t : Table). flat_map (assign_edges (base_at f k) t.scope) (lines_at ms f k)) o []) t.1
        ∙ ap (λ (l : List Declaration). flat_map (assign_edges (base_at f k) l) (lines_at ms f k)) t.2.names
        ∙ ap (λ (items : List Item). flat_map (assign_edges (base_at f k) (declared m)) items) (lines_are ms top f flat k path m low stands is)

    assign_sound : (p q : ℕ) (it : Item) → Has m.items it → Has (assign_edges (base_at f k) (declared m) it) (p, q) → IsPartEdge ms top f p q
    assign_sound p q (Assign x e) has h =
        let t = of_net_edges (base_at f k) (declared m) x (value_nets e) p q h in
        record {
          net = (path, x);
          part_net = (path, t.0);
          from = net_is ms top f flat k path m low stands is x p t.2;
          to = net_is ms top f flat k path m low stands is t.0 q t.3;
          part = part_line ms top path x m (module_of ms top f flat k path m low stands is) (path, t.0) (driver_part ms m path x e has t.0 t.1);
        }
    assign_sound p q (Instance kn i connections) has h = absurd h
    assign_sound p q (Wire w x) has h = absurd h
    assign_sound p q (Reg w x) has h = absurd h
    assign_sound p q (Memory w x n) has h = absurd h
    assign_sound p q (Always b) has h = absurd h

    own_sound : (p q : ℕ) → Has (own_edges ms f k) (p, q) → IsPartEdge ms top f p q
    own_sound p q h =
        let t = of_flat (assign_edges (base_at f k) (declared m)) m.items (p, q) (subst (λ (l : List (ℕ × ℕ)). Has l (p, q)) own_are h) in
        assign_sound p q t.0 t.1 t.2

    own_has : (x y : Name) (e : Value) → Has m.items (Assign x e) → Has (value_nets e) y → (p q : ℕ) → HasNumber ms f p (path, x) → HasNumber ms f q (path, y) → Has (own_edges ms f k) (p, q)
    own_has x y e has h p q a b =
        subst (λ (l : List (ℕ × ℕ)). Has l (p, q)) (sym own_are)
        (has_flat (assign_edges (base_at f k) (declared m)) m.items (Assign x e) (p, q) has
        (has_net_edges (base_at f k) (declared m) x y (value_nets e) p q h (number_is ms top f flat k path m low stands is x p a) (number_is ms top f flat k path m low stands is y q b)))

  -- the edges of connections
  module _ (s : ℕ) (path : Path) (i : Name) (low : s < length f.instances.items) (stands : StandsAt ms f.instances.items s (i ∷ path)) (h : IsInner ms top f flat s path i) where
    abbrev a : ℕ
    a = (row_at f.instances.items s).around

    abbrev connections : List Connection
    connections = h.child.at.connections

    abbrev direction : Connection → Bool
    direction l = net_kind_is_input (net_kind_of (map port_declared (ports_of ms h.child.at.module_name)) l.port)

    same_direction : (l : Connection) → Has connections l → net_kind_is_input (net_kind_of (declared h.inner) l.port) ≡ direction l
    same_direction l c = direction_same ms (v2 ms top f flat) h.outer (has_got ms (row_at f.instances.items a).kind h.outer h.around_is) h.child.at.module_name i connections h.line h.inner h.named l c

    port_net : (x : Name) (number : ℕ) → number_in (base_at f s) (declared h.inner) x ≡ Some number → HasNumber ms f number (i ∷ path, x)
    port_net x number e = net_is ms top f flat s (i ∷ path) h.inner low stands h.inner_is x number e

    outer_net : (x : Name) (number : ℕ) → number_in (base_at f a) (declared h.outer) x ≡ Some number → HasNumber ms f number (path, x)
    outer_net x number e = net_is ms top f flat a path h.outer h.around_low h.around_stands h.around_is x number e

    abbrev port_number : Connection → Option ℕ
    port_number l = number_in (base_at f s) (declared h.inner) l.port

    abbrev net_number : Connection → Option ℕ
    net_number l = number_in (base_at f a) (declared h.outer) l.net

    connection_sound : (p q : ℕ) (l : Connection) → Has connections l → (b : Bool) → net_kind_is_input (net_kind_of (declared h.inner) l.port) ≡ b → Has (edge_by b (port_number l) (net_number l)) (p, q) → IsPartEdge ms top f p q
    connection_sound p q l c true e g =
        let t = of_both (port_number l) (net_number l) p q (of_edge (both (port_number l) (net_number l)) p q g) in
        record {
          net = (i ∷ path, l.port);
          part_net = (path, l.net);
          from = port_net l.port p t.0;
          to = outer_net l.net q t.1;
          part = part_outside ms top (i ∷ path) l.port (path, l.net) (outside_has ms top path h.outer h.outer_at h.child.at.module_name i connections h.line l c (sym (same_direction l c) ∙ e));
        }
    connection_sound p q l c false e g =
        let t = of_both (net_number l) (port_number l) p q (of_edge (both (net_number l) (port_number l)) p q g) in
        record {
          net = (path, l.net);
          part_net = (i ∷ path, l.port);
          from = outer_net l.net p t.0;
          to = port_net l.port q t.1;
          part = part_line ms top path l.net h.outer h.outer_at (i ∷ path, l.port) (connection_part ms h.outer path h.child.at.module_name i connections h.line l c (sym (same_direction l c) ∙ e));
        }

    abbrev edges_are : join_edges ms f s ≡ flat_map (connection_edge (base_at f a) (declared h.outer) (base_at f s) (declared h.inner)) connections
    edges_are = joins_are ms top f flat s path i low stands h

    join_sound : (p q : ℕ) → Has (join_edges ms f s) (p, q) → IsPartEdge ms top f p q
    join_sound p q g =
        let t = of_flat (connection_edge (base_at f a) (declared h.outer) (base_at f s) (declared h.inner)) connections (p, q) (subst (λ (l : List (ℕ × ℕ)). Has l (p, q)) edges_are g) in
        connection_sound p q t.0 t.1 (net_kind_is_input (net_kind_of (declared h.inner) t.0.port)) refl t.2

    join_has : (p q : ℕ) (l : Connection) → Has connections l → (b : Bool) → direction l ≡ b → Has (edge_by b (port_number l) (net_number l)) (p, q) → Has (join_edges ms f s) (p, q)
    join_has p q l c b e g =
        subst (λ (l : List (ℕ × ℕ)). Has l (p, q)) (sym edges_are)
        (has_flat (connection_edge (base_at f a) (declared h.outer) (base_at f s) (declared h.inner)) connections l (p, q) c
        (subst (λ (z : Bool). Has (edge_by z (port_number l) (net_number l)) (p, q)) (sym (same_direction l c ∙ e)) g))

    -- a line of this instance is the one that stands around it
    module _ (kn : Name) (others : List Connection) (has : Has h.outer.items (Instance kn i others)) where
      one : (h.child.at.module_name ≡ kn) × (connections ≡ others)
      one = one_instance ms (v2 ms top f flat) h.outer (has_got ms (row_at f.instances.items a).kind h.outer h.around_is) h.child.at.module_name kn i connections others h.line has

      input_has : (p q : ℕ) (l : Connection) → Has others l → net_kind_is_input (net_kind_of (map port_declared (ports_of ms kn)) l.port) ≡ true → HasNumber ms f p (i ∷ path, l.port) → HasNumber ms f q (path, l.net) → Has (join_edges ms f s) (p, q)
      input_has p q l c e x y =
          join_has p q l (subst (λ (ls : List Connection). Has ls l) (sym one.1) c) true (subst (λ (z : Name). net_kind_is_input (net_kind_of (map port_declared (ports_of ms z)) l.port) ≡ true) (sym one.0) e)
          (has_edge (both (port_number l) (net_number l)) p q
          (is_both (port_number l) (net_number l) p q (number_is ms top f flat s (i ∷ path) h.inner low stands h.inner_is l.port p x) (number_is ms top f flat a path h.outer h.around_low h.around_stands h.around_is l.net q y)))

      output_has : (p q : ℕ) (l : Connection) → Has others l → net_kind_is_input (net_kind_of (map port_declared (ports_of ms kn)) l.port) ≡ false → HasNumber ms f p (path, l.net) → HasNumber ms f q (i ∷ path, l.port) → Has (join_edges ms f s) (p, q)
      output_has p q l c e x y =
          join_has p q l (subst (λ (ls : List Connection). Has ls l) (sym one.1) c) false (subst (λ (z : Name). net_kind_is_input (net_kind_of (map port_declared (ports_of ms z)) l.port) ≡ false) (sym one.0) e)
          (has_edge (both (net_number l) (port_number l)) p q
          (is_both (net_number l) (port_number l) p q (number_is ms top f flat a path h.outer h.around_low h.around_stands h.around_is l.net p x) (number_is ms top f flat s (i ∷ path) h.inner low stands h.inner_is l.port q y)))

  join_none : (s p q : ℕ) → s ≡ 0 → Has (join_edges ms f s) (p, q) → ⊥
  join_none s p q e h = subst (λ n. Has (join_edges ms f n) (p, q)) e h

  join_sound_at : (s p q : ℕ) → s < length f.instances.items → (path : Path) → StandsAt ms f.instances.items s path → Has (join_edges ms f s) (p, q) → IsPartEdge ms top f p q
  join_sound_at s p q low [] stands h = absurd (join_none s p q stands h)
  join_sound_at s p q low (i ∷ path) stands h = join_sound s path i low stands (inner_of ms top f flat s path i low stands) p q h

  -- the edges of the memories at the top's ports
  abbrev top_number : Name → ℕ → Type 0
  top_number x number = number_in 0 (declared top) x ≡ Some number

  top_base : base_at f 0 ≡ 0
  top_base = flat.numbers.starts

  answers_are : top_answers f ports ≡ flat_map (answer_edges (declared top) ports) ports
  answers_are =
      let t = table_of ms top f flat 0 [] top (top_low ms top f flat) refl (top_is ms top f flat) in
      ap (λ (o : Option Table). option_map_or (λ (t : Table). flat_map (answer_edges t.scope ports) ports) o []) t.1 ∙ ap (λ (l : List Declaration). flat_map (answer_edges l ports) ports) t.2.names

  top_net : (x : Name) (number : ℕ) → top_number x number → HasNumber ms f number ([], x)
  top_net x number e = net_is ms top f flat 0 [] top (top_low ms top f flat) refl (top_is ms top f flat) x number (ap (λ n. number_in n (declared top) x) top_base ∙ e)

  top_has : (x : Name) (number : ℕ) → HasNumber ms f number ([], x) → top_number x number
  top_has x number h = ap (λ n. number_in n (declared top) x) (sym top_base) ∙ number_is ms top f flat 0 [] top (top_low ms top f flat) refl (top_is ms top f flat) x number h

  answer_sound : (p q : ℕ) → Has (top_answers f ports) (p, q) → IsPartEdge ms top f p q
  answer_sound p q h =
      let t = of_flat (answer_edges (declared top) ports) ports (p, q) (subst (λ (l : List (ℕ × ℕ)). Has l (p, q)) answers_are h) in
      let e = of_net_edges 0 (declared top) t.0.name (asked_port ports t.0.name) p q t.2 in
      record {
        net = ([], t.0.name);
        part_net = ([], e.0);
        from = top_net t.0.name p e.2;
        to = top_net e.0 q e.3;
        part = part_answer ms top [] t.0.name ([], e.0) (has_map (λ (y : Name). ([], y)) (asked_port ports t.0.name) e.0 e.1);
      }

  answer_has : (x y : Name) → Has (asked_port ports x) y → (p q : ℕ) → HasNumber ms f p ([], x) → HasNumber ms f q ([], y) → Has (top_answers f ports) (p, q)
  answer_has x y h p q a b =
      let input : net_kind_is_input (net_kind_of ports x) ≡ true = asked_test (net_kind_is_input (net_kind_of ports x)) (filter (has_port ports) (address_of x)) y h in
      let t = of_map declaration_name ports x (declared_by net_kind_is_input ports x refl input) in
      let edge : Has (net_edges 0 (declared top) x (asked_port ports x)) (p, q) = has_net_edges 0 (declared top) x y (asked_port ports x) p q h (top_has x p a) (top_has y q b) in
      subst (λ (l : List (ℕ × ℕ)). Has l (p, q)) (sym answers_are)
      (has_flat (answer_edges (declared top) ports) ports t.0 (p, q) t.1 (subst (λ (z : Name). Has (net_edges 0 (declared top) z (asked_port ports z)) (p, q)) (sym t.2) edge))

  -- all edges
  abbrev below : List (ℕ × ℕ)
  below = edges_below (instance_edges ms f) (length f.instances.items)

  instance_sound : (k p q : ℕ) → k < length f.instances.items → Has (instance_edges ms f k) (p, q) → IsPartEdge ms top f p q
  instance_sound k p q low h =
      let w = flat.instances.paths k low in
      let m = flat.instances.modules k w.0 low w.1 in
      elim (has_split (own_edges ms f k) (join_edges ms f k) (p, q) h) [
        | inl l ↦ own_sound k w.0 m.0 low w.1 m.2 p q l
        | inr r ↦ join_sound_at k p q low w.0 w.1 r
      ]

  pub edges_sound : (p q : ℕ) → Has (all_edges ms f top) (p, q) → IsPartEdge ms top f p q
  edges_sound p q h = elim (has_split below (top_answers f ports) (p, q) h) [
    | inl l ↦ (let t = of_below (instance_edges ms f) (length f.instances.items) (p, q) l in instance_sound t.0 p q t.1 t.2)
    | inr r ↦ answer_sound p q r
  ]

  own_all : (k p q : ℕ) → k < length f.instances.items → Has (own_edges ms f k) (p, q) → Has (all_edges ms f top) (p, q)
  own_all k p q low h =
      has_left below (top_answers f ports) (p, q) (has_below (instance_edges ms f) (length f.instances.items) k (p, q) low (has_left (own_edges ms f k) (join_edges ms f k) (p, q) h))

  join_all : (k p q : ℕ) → k < length f.instances.items → Has (join_edges ms f k) (p, q) → Has (all_edges ms f top) (p, q)
  join_all k p q low h =
      has_left below (top_answers f ports) (p, q) (has_below (instance_edges ms f) (length f.instances.items) k (p, q) low (has_right (own_edges ms f k) (join_edges ms f k) (p, q) h))

  -- each part of a net is the end of an edge from it
  module _ (p q : ℕ) (path : Path) (x : Name) (from : HasNumber ms f p (path, x)) where
    abbrev tree : ModuleTree
    tree = from.at.tree

    tree_at : module_at ms top path ≡ Some tree
    tree_at = module_of ms top f flat from.instance path tree from.at.there from.at.stands from.at.of_module

    driver_all : (z : Name) (e : Value) → Has tree.items (Assign z e) → (t : Bool) → bytes_eq z x ≡ t → (b : FlatNet) → HasNumber ms f q b → Has {N = FlatNet} (cond t (map (λ (y : Name). (path, y)) (value_nets e)) []) b → Has (all_edges ms f top) (p, q)
    driver_all z e has true s b to h =
        let t = of_map (λ (y : Name). (path, y)) (value_nets e) b h in
        let same : z ≡ x = (bytes_decides z x).0 s in
        own_all from.instance p q from.at.there
        (own_has from.instance path tree from.at.there from.at.stands from.at.of_module x t.0 e (subst (λ (y : Name). Has tree.items (Assign y e)) same has) t.1 p q from (subst (λ (n : FlatNet). HasNumber ms f q n) (sym t.2) to))
    driver_all z e has false s b to h = absurd h

    output_all : (kn i : Name) (connections : List Connection) → Has tree.items (Instance kn i connections) → (l : Connection) → Has connections l → (t u : Bool) → bytes_eq l.net x ≡ t → net_kind_is_input (net_kind_of (map port_declared (ports_of ms kn)) l.port) ≡ u
        → (b : FlatNet) → HasNumber ms f q b → Has {N = FlatNet} (cond (t && not u) ((i ∷ path, l.port) ∷ []) []) b → Has (all_edges ms f top) (p, q)
    output_all kn i connections has l c true false e g b to (inl is) =
        let at : HasNumber ms f q (i ∷ path, l.port) = subst (λ (n : FlatNet). HasNumber ms f q n) (sym is) to in
        let h : IsInner ms top f flat at.instance path i = inner_of ms top f flat at.instance path i at.at.there at.at.stands in
        let outer : tree ≡ h.outer = cc (tree_at, h.outer_at) in
        let line : Has h.outer.items (Instance kn i connections) = subst (λ (m : ModuleTree). Has m.items (Instance kn i connections)) outer has in
        let net : l.net ≡ x = (bytes_decides l.net x).0 e in
        join_all at.instance p q at.at.there
        (output_has at.instance path i at.at.there at.at.stands h kn connections line p q l c g (subst (λ (y : Name). HasNumber ms f p (path, y)) (sym net) from) at)
    output_all kn i connections has l c true false e g b to (inr h) = absurd h
    output_all kn i connections has l c true true e g b to h = absurd h
    output_all kn i connections has l c false u e g b to h = absurd h

    line_all : (it : Item) → Has tree.items it → (b : FlatNet) → HasNumber ms f q b → Has (line_parts ms path x it) b → Has (all_edges ms f top) (p, q)
    line_all (Assign z e) has b to h = driver_all z e has (bytes_eq z x) refl b to h
    line_all (Instance kn i connections) has b to h =
        let t = of_flat (λ (l : Connection). if bytes_eq l.net x && not (net_kind_is_input (net_kind_of (map port_declared (ports_of ms kn)) l.port)) then (i ∷ path, l.port) ∷ [] else []) connections b h in
        output_all kn i connections has t.0 t.1 _ _ refl refl b to t.2
    line_all (Wire w z) has b to h = absurd h
    line_all (Reg w z) has b to h = absurd h
    line_all (Memory w z n) has b to h = absurd h
    line_all (Always s) has b to h = absurd h

  outside_all : (p q : ℕ) (path : Path) (x : Name) → HasNumber ms f p (path, x) → (b : FlatNet) → HasNumber ms f q b → Has (outside ms top (path, x)) b → Has (all_edges ms f top) (p, q)
  outside_all p q [] x from b to h = absurd h
  outside_all p q (i ∷ path) x from b to g =
      let h : IsInner ms top f flat from.instance path i = inner_of ms top f flat from.instance path i from.at.there from.at.stands in
      let j : Joined ms top h.outer path i x b = joined ms top h.outer path h.outer_at i x b g in
      let input : net_kind_is_input (net_kind_of (map port_declared (ports_of ms j.kn)) j.connection.port) ≡ true = subst (λ (z : Name). net_kind_is_input (net_kind_of (map port_declared (ports_of ms j.kn)) z) ≡ true) (sym j.port) j.input in
      join_all from.instance p q from.at.there
      (input_has from.instance path i from.at.there from.at.stands h j.kn j.connections j.has p q j.connection j.connected input
      (subst (λ (z : Name). HasNumber ms f p (i ∷ path, z)) (sym j.port) from) (subst (λ (n : FlatNet). HasNumber ms f q n) (sym j.is) to))

  answer_all : (p q : ℕ) (path : Path) (x : Name) → HasNumber ms f p (path, x) → (b : FlatNet) → HasNumber ms f q b → Has (answers top (path, x)) b → Has (all_edges ms f top) (p, q)
  answer_all p q [] x from b to h =
      let t = of_map (λ (y : Name). ([], y)) (asked_port ports x) b h in
      has_right below (top_answers f ports) (p, q) (answer_has x t.0 t.1 p q from (subst (λ (n : FlatNet). HasNumber ms f q n) (sym t.2) to))
  answer_all p q (i ∷ path) x from b to h = absurd h

  pub edges_complete : (p q : ℕ) (n b : FlatNet) → HasNumber ms f p n → HasNumber ms f q b → Has (parts ms top true n) b → Has (all_edges ms f top) (p, q)
  edges_complete p q (path, x) b from to h =
      elim (parts_split ms top path x from.at.tree (tree_at p q path x from) b h) [
        | inl l ↦ (let t = of_flat (line_parts ms path x) from.at.tree.items b l in line_all p q path x from t.0 t.1 b to t.2)
        | inr r ↦ (elim r [
          | inl g ↦ answer_all p q path x from b to g
          | inr o ↦ outside_all p q path x from b to o
        ])
      ]
