-- What is written line by line is the table of a module.
use Rattle.std.proofs.Common.{◌≡◌, ℕ, zero, suc, ◌+◌, ◌<◌, ◌≤◌, Bool, true, false, cond, List, [], ◌∷◌, ◌++◌, length, get_or, take, Option, Some, None, inl, inr, refl, sym, ap, subst, ◌∙◌, map, arith}
use Rattle.std.specs.Prelude.{◌==◌, bytes_eq, count_by, slice_get, replicate, unwrap_or, option_map, option_to_list}
use Rattle.std.specs.List.{flat_map}
use Rattle.std.specs.Cmp.Lexicographic.{bytes_decides}
use Rattle.std.proofs.lemmas.Bool.Decides.{nat_tests}
use Rattle.std.proofs.lemmas.List.{length-append, length-map, length-replicate}
use Rattle.std.proofs.lemmas.Option.{get_or_from_slice_get, slice_get_within}
use Rattle.vlog_tree.specs.declared.tree.Value.{Value}
use Rattle.vlog_tree.specs.declared.tree.Connection.{Connection}
use Rattle.vlog_tree.specs.declared.tree.Item.{Item}
use Rattle.vlog_tree.specs.declared.tree.Item.TheVariants.{Wire, Reg, Memory, Assign, Always, Instance}
use Rattle.vlog_tree.specs.declared.table.Declaration.{Declaration}
use Rattle.vlog_tree.specs.declared.table.NetKind.{NetKind}
use Rattle.vlog_tree.specs.declared.table.NetKind.TheVariants as kind
use Rattle.vlog_tree.specs.Form.{ModuleTree}
use Rattle.tapa_base.specs.Lists.{Has}
use Rattle.vlog_tree.specs.Table.{Name, is_clk, declared, port_declared, declaration_name, module_declared, module_named, find_name, net_kind_of, net_kind_is_read, net_kind_is_driven, net_kind_is_input, ports_of, one_if}
use Rattle.vlog_tree.specs.Loops.{item_instances, instances}
use Rattle.vlog_tree.specs.Refused.{IsSound}
use Rattle.tapa_base.proofs.Lists.{has_got, has_flat, of_flat, has_left, has_right, has_split}
use Rattle.vlog_run_laws.proofs.runs.Sound.{declared_by, is_known_module, connection_port, connection_net}
use Rattle.vlog_run_laws.proofs.runs.Alone.{count_cons, module_there, instance_single}
use Rattle.vlog_run_laws.proofs.runs.Sizes.{declared_net_kind, found_name}
use Rattle.vlog_run_laws.proofs.runs.Cycles.{connected_once}
use Rattle.vlog_run_laws.proofs.runs.Drivers.{Source as driver, output, connection_source, line_sources, sources, source_cases, has_source}
use Rattle.sim_flat.specs.Kinds.{kind_place}
use Rattle.sim_flat.proofs.Placing.{kind_got}
use Rattle.sim_flat.specs.declared.tables.Child.{Child}
use Rattle.sim_flat.specs.declared.tables.Scopes.{Scopes}
use Rattle.sim_flat.specs.declared.tables.Source.{Source}
use Rattle.sim_flat.specs.declared.tables.Source.TheVariants as source
use Rattle.sim_flat.specs.declared.tables.Table.{Table}
use Rattle.sim_flat.specs.Places.{place_in, both, DeclaredAt}
use Rattle.sim_flat.specs.Tables.{IsInstanceAt, IsConnected, IsSource, IsChild, IsTable}
use Rattle.sim_flat.specs.Written.{written, source_by, first_source, AreScopes, inner_names, join_of, output_of, some_join, some_output, some_line, join_writes, output_writes, joined_of, line_writes, lines_writes, line_children, lines_children, child_row, child_rows}
use Rattle.sim_flat.proofs.Got.{of_option, has_option, instance_got}
use Rattle.sim_flat.proofs.Names.{place_declared, place_found, place_is, of_both, is_both}
use Rattle.sim_flat.proofs.Ports.{inner_named, port_same, direction_same}
use Rattle.sim_flat.proofs.Writes.{written_length, written_at, WrittenAt}
use Rattle.vlog_run_laws.proofs.runs.Solved.{count_one as count_some, some_counted as one_of_count, some_step as one_step}
use Rattle.tapa_base.proofs.Got.{got_map as map_got, of_map_got}

-- a write of lines is that of one of them
record IsLineWrite (s : Scopes) (ds : List Declaration) (line c : ℕ) (items : List Item) (w : ℕ × Source) : Type 0 where
  k : ℕ
  item : Item
  at : ℕ
  before : ℕ
  got : slice_get items k ≡ Some item
  at_is : at ≡ line + k
  before_is : before ≡ c + length (flat_map item_instances (take k items))
  has : Has (line_writes s ds at before item) w

line_write : (s : Scopes) (ds : List Declaration) (line c : ℕ) (items : List Item) (w : ℕ × Source) → Has (lines_writes s ds line c items) w → IsLineWrite s ds line c items w
line_write s ds line c [] w h = absurd h
line_write s ds line c (it ∷ items) w h = elim (has_split (line_writes s ds line c it) (lines_writes s ds (line + 1) (c + length (item_instances it)) items) w h) [
  | inl l ↦ record { k = 0; item = it; at = line; before = c; got = refl; at_is = (let z : line ≡ line + 0 = omega arith in z); before_is = (let z : c ≡ c + 0 = omega arith in z); has = l }
  | inr r ↦ (
      let t : IsLineWrite s ds (line + 1) (c + length (item_instances it)) items w = line_write s ds (line + 1) (c + length (item_instances it)) items w r in
      let a : t.at ≡ line + 1 + t.k = t.at_is in
      let b : t.before ≡ c + length (item_instances it) + length (flat_map item_instances (take t.k items)) = t.before_is in
      let l : length (item_instances it ++ flat_map item_instances (take t.k items)) ≡ length (item_instances it) + length (flat_map item_instances (take t.k items)) = length-append (item_instances it) (flat_map item_instances (take t.k items)) in
      record {
        k = suc t.k;
        item = t.item;
        at = t.at;
        before = t.before;
        got = t.got;
        at_is = (let z : t.at ≡ line + suc t.k = omega arith in z);
        before_is = (let z : t.before ≡ c + length (item_instances it ++ flat_map item_instances (take t.k items)) = omega arith in z);
        has = t.has;
      })
]

-- where a line writes a place, wherever it stands, the lines do
some_write : (s : Scopes) (ds : List Declaration) (line c j : ℕ) (items : List Item) (it : Item) → Has items it → ((n e : ℕ) → (src : Source) × Has (line_writes s ds n e it) (j, src)) → (src : Source) × Has (lines_writes s ds line c items) (j, src)
some_write s ds line c j [] it h f = absurd h
some_write s ds line c j (z ∷ items) it (inl e) f =
    let r = f line c in
    (r.0, has_left (line_writes s ds line c z) (lines_writes s ds (line + 1) (c + length (item_instances z)) items) (j, r.0) (subst (λ (y : Item). Has (line_writes s ds line c y) (j, r.0)) (sym e) r.1))
some_write s ds line c j (z ∷ items) it (inr h) f =
    let r = some_write s ds (line + 1) (c + length (item_instances z)) j items it h f in
    (r.0, has_right (line_writes s ds line c z) (lines_writes s ds (line + 1) (c + length (item_instances z)) items) (j, r.0) r.1)

-- the line of an instance
record IsChildLine (s : Scopes) (ds : List Declaration) (line : ℕ) (items : List Item) (c : ℕ) : Type 0 where
  k : ℕ
  at : ℕ
  kn : Name
  i : Name
  connections : List Connection
  got : slice_get items k ≡ Some (Instance kn i connections)
  at_is : at ≡ line + k
  listed : slice_get (flat_map item_instances items) c ≡ Some (kn, i)
  row : slice_get (lines_children s ds line items) c ≡ Some (at, joined_of (inner_names s kn) ds connections)

-- that of an instance behind another line
child_behind : (s : Scopes) (ds : List Declaration) (line : ℕ) (it : Item) (items : List Item) (c : ℕ) → item_instances it ≡ [] → line_children s ds line it ≡ [] → IsChildLine s ds (line + 1) items c → IsChildLine s ds line (it ∷ items) c
child_behind s ds line it items c e f t = record {
  k = suc t.k;
  at = t.at;
  kn = t.kn;
  i = t.i;
  connections = t.connections;
  got = t.got;
  at_is = (let a : t.at ≡ line + 1 + t.k = t.at_is in let z : t.at ≡ line + suc t.k = omega arith in z);
  listed = ap (λ (l : List (Name × Name)). slice_get (l ++ flat_map item_instances items) c) e ∙ t.listed;
  row = ap (λ (l : List (ℕ × List (Option ℕ))). slice_get (l ++ lines_children s ds (line + 1) items) c) f ∙ t.row;
}

child_line : (s : Scopes) (ds : List Declaration) (line : ℕ) (items : List Item) (c : ℕ) → c < length (flat_map item_instances items) → IsChildLine s ds line items c
child_line s ds line [] c h = absurd (omega arith)
child_line s ds line (Instance kn i connections ∷ items) zero h =
    record { k = 0; at = line; kn = kn; i = i; connections = connections; got = refl; at_is = (let z : line ≡ line + 0 = omega arith in z); listed = refl; row = refl }
child_line s ds line (Instance kn i connections ∷ items) (suc c) h =
    let t : IsChildLine s ds (line + 1) items c = child_line s ds (line + 1) items c (omega arith) in
    let a : t.at ≡ line + 1 + t.k = t.at_is in
    record { k = suc t.k; at = t.at; kn = t.kn; i = t.i; connections = t.connections; got = t.got; at_is = (let z : t.at ≡ line + suc t.k = omega arith in z); listed = t.listed; row = t.row }
child_line s ds line (Assign x e ∷ items) c h = child_behind s ds line (Assign x e) items c refl refl (child_line s ds (line + 1) items c h)
child_line s ds line (Wire w x ∷ items) c h = child_behind s ds line (Wire w x) items c refl refl (child_line s ds (line + 1) items c h)
child_line s ds line (Reg w x ∷ items) c h = child_behind s ds line (Reg w x) items c refl refl (child_line s ds (line + 1) items c h)
child_line s ds line (Memory w x n ∷ items) c h = child_behind s ds line (Memory w x n) items c refl refl (child_line s ds (line + 1) items c h)
child_line s ds line (Always b ∷ items) c h = child_behind s ds line (Always b) items c refl refl (child_line s ds (line + 1) items c h)

children_length : (s : Scopes) (ds : List Declaration) (line : ℕ) (items : List Item) → length (lines_children s ds line items) ≡ length (flat_map item_instances items)
children_length s ds line [] = refl
children_length s ds line (Instance kn i connections ∷ items) = ap suc (children_length s ds (line + 1) items)
children_length s ds line (Assign x e ∷ items) = children_length s ds (line + 1) items
children_length s ds line (Wire w x ∷ items) = children_length s ds (line + 1) items
children_length s ds line (Reg w x ∷ items) = children_length s ds (line + 1) items
children_length s ds line (Memory w x n ∷ items) = children_length s ds (line + 1) items
children_length s ds line (Always b ∷ items) = children_length s ds (line + 1) items

-- a connection of an input, and one of another port
of_join : (inner ds : List Declaration) (l : Connection) (b : Bool) → net_kind_is_input (net_kind_of inner l.port) ≡ b → (p q : ℕ) → cond b (both (place_in inner l.port) (place_in ds l.net)) None ≡ Some (p, q) → (b ≡ true) × (place_in inner l.port ≡ Some p) × (place_in ds l.net ≡ Some q)
of_join inner ds l true e p q h = let r = of_both (place_in inner l.port) (place_in ds l.net) p q h in (refl, r.0, r.1)
of_join inner ds l false e p q h = cc

of_output : (inner ds : List Declaration) (l : Connection) (b : Bool) → net_kind_is_input (net_kind_of inner l.port) ≡ b → (p q : ℕ) → cond b None (both (place_in inner l.port) (place_in ds l.net)) ≡ Some (p, q) → (b ≡ false) × (place_in inner l.port ≡ Some p) × (place_in ds l.net ≡ Some q)
of_output inner ds l true e p q h = cc
of_output inner ds l false e p q h = let r = of_both (place_in inner l.port) (place_in ds l.net) p q h in (refl, r.0, r.1)

abbrev no_place : Option ℕ
no_place = None

module _ (ms : List ModuleTree) (sound : IsSound ms) (m : ModuleTree) (in_ms : Has ms m) (s : Scopes) (are : AreScopes ms s) where
  abbrev ds : List Declaration
  ds = declared m

  inner_is : (kn : Name) (inner : ModuleTree) → module_named ms kn ≡ Some inner → inner_names s kn ≡ declared inner
  inner_is kn inner e =
      ap (λ (l : List Declaration). unwrap_or (slice_get s.scopes.now (kind_place l kn)) s.none) are.names
      ∙ ap (λ (l : List (List Declaration)). unwrap_or (slice_get l (kind_place (map module_declared ms) kn)) s.none) are.scopes
      ∙ ap (λ o. unwrap_or o s.none) (map_got declared ms (kind_place (map module_declared ms) kn) inner (kind_got ms kn inner e))

  -- an instance of the module
  module _ (kn i : Name) (connections : List Connection) (has : Has m.items (Instance kn i connections)) (inner : ModuleTree) (named : module_named ms kn ≡ Some inner) where
    abbrev ports : List Declaration
    ports = map port_declared (ports_of ms kn)

    connected_at : (l : Connection) → Has connections l → (b : Bool) → net_kind_is_input (net_kind_of (declared inner) l.port) ≡ b → (p q : ℕ) → place_in (declared inner) l.port ≡ Some p → place_in ds l.net ≡ Some q
        → IsConnected ms m kn connections inner b p q
    connected_at l h b e p q f g = record {
      connection = l;
      connected = h;
      direction = sym (direction_same ms sound.names m in_ms kn i connections has inner named l h) ∙ e;
      port_at = place_declared (declared inner) l.port p f;
      net_at = place_declared ds l.net q g;
    }

    join_connected : (l : Connection) → Has connections l → (p q : ℕ) → join_of (declared inner) ds l ≡ Some (p, q) → IsConnected ms m kn connections inner true p q
    join_connected l h p q e =
        let t = of_join (declared inner) ds l (net_kind_is_input (net_kind_of (declared inner) l.port)) refl p q e in
        connected_at l h true t.0 p q t.1 t.2

    output_connected : (l : Connection) → Has connections l → (p q : ℕ) → output_of (declared inner) ds l ≡ Some (p, q) → IsConnected ms m kn connections inner false p q
    output_connected l h p q e =
        let t = of_output (declared inner) ds l (net_kind_is_input (net_kind_of (declared inner) l.port)) refl p q e in
        connected_at l h false t.0 p q t.1 t.2

    net_found : (l : Connection) → Has connections l → (q : ℕ) × (place_in ds l.net ≡ Some q)
    net_found l h = place_found ds l.net (declared_by net_kind_is_read ds l.net refl (connection_net ms sound.names m in_ms kn i connections has l h))

    port_found : (l : Connection) → Has connections l → (p : ℕ) × (place_in (declared inner) l.port ≡ Some p)
    port_found l h =
        let read = connection_port ms sound.names m in_ms kn i connections has l h in
        place_found (declared inner) l.port (declared_by net_kind_is_read (declared inner) l.port refl (ap net_kind_is_read (port_same ms sound.names m in_ms kn i connections has inner named l.port read) ∙ read))

    -- a place of an input is joined to a net
    abbrev joins : List (ℕ × Option ℕ)
    joins = flat_map (join_writes (declared inner) ds) connections

    of_joins : (p : ℕ) (v : Option ℕ) → Has joins (p, v) → (q : ℕ) × (v ≡ Some q) × IsConnected ms m kn connections inner true p q
    of_joins p v h =
        let t = of_flat (join_writes (declared inner) ds) connections (p, v) h in
        let o = of_option some_join (join_of (declared inner) ds t.0) (p, v) t.2 in
        let a : o.0.0 ≡ p = ap (λ (z : ℕ × Option ℕ). z.0) o.2 in
        let b : Some o.0.1 ≡ v = ap (λ (z : ℕ × Option ℕ). z.1) o.2 in
        (o.0.1, sym b, join_connected t.0 t.1 p o.0.1 (subst (λ n. join_of (declared inner) ds t.0 ≡ Some (n, o.0.1)) a o.1))

    has_joins : (l : Connection) → Has connections l → net_kind_is_input (net_kind_of (declared inner) l.port) ≡ true → (p q : ℕ) → place_in (declared inner) l.port ≡ Some p → place_in ds l.net ≡ Some q → Has joins (p, Some q)
    has_joins l h e p q f g =
        has_flat (join_writes (declared inner) ds) connections l (p, Some q) h
        (has_option some_join (join_of (declared inner) ds l) (p, q) (ap (λ b. cond b (both (place_in (declared inner) l.port) (place_in ds l.net)) None) e ∙ is_both (place_in (declared inner) l.port) (place_in ds l.net) p q f g))

    joined_by : (p : ℕ) → WrittenAt joins (replicate (length (declared inner)) None) p None → ((v : Option ℕ) × Has joins (p, v)) → (q : ℕ) × (get_or (joined_of (declared inner) ds connections) p None ≡ Some q) × IsConnected ms m kn connections inner true p q
    joined_by p (inl h) w = of_joins p (get_or (joined_of (declared inner) ds connections) p None) h
    joined_by p (inr e) w = absurd (e.1 w.0 w.1)

    -- the connection of a port
    connection_of : (x : Name) → net_kind_is_input (net_kind_of ports x) ≡ true → (l : Connection) × Has connections l × (l.port ≡ x)
    connection_of x e =
        let f = found_name ports x net_kind_is_input refl e in
        let all = (instance_single ms sound.names m in_ms kn i connections has).1 in
        let t = one_of_count (λ (l : Connection). bytes_eq l.port (find_name ports x).name) connections (count_some _ (connected_once ports connections all (find_name ports x) f.0)) in
        (t.0, t.1, (bytes_decides t.0.port (find_name ports x).name).0 t.2 ∙ f.1)

    joined_input : (p : ℕ) (x : Name) → DeclaredAt inner p x → net_kind_is_input (net_kind_of ports x) ≡ true → (q : ℕ) × (get_or (joined_of (declared inner) ds connections) p None ≡ Some q) × IsConnected ms m kn connections inner true p q
    joined_input p x at e =
        let t = connection_of x e in
        let port : place_in (declared inner) t.0.port ≡ Some p = subst (λ (y : Name). place_in (declared inner) y ≡ Some p) (sym t.2) (place_is ms sound.names inner (inner_named ms sound.names m in_ms kn i connections has inner named).has p x at) in
        let input : net_kind_is_input (net_kind_of (declared inner) t.0.port) ≡ true = direction_same ms sound.names m in_ms kn i connections has inner named t.0 t.1 ∙ subst (λ (y : Name). net_kind_is_input (net_kind_of ports y) ≡ true) (sym t.2) e in
        let net = net_found t.0 t.1 in
        let low : p < length (declared inner) = slice_get_within (declared inner) p at.0 at.1 in
        let len : length (replicate (length (declared inner)) no_place) ≡ length (declared inner) = length-replicate (length (declared inner)) no_place in
        joined_by p (written_at joins (replicate (length (declared inner)) None) p None (omega arith)) (Some net.0, has_joins t.0 t.1 input p net.0 port net.1)

  known_of : (kn i : Name) (connections : List Connection) → Has m.items (Instance kn i connections) → (inner : ModuleTree) × (module_named ms kn ≡ Some inner)
  known_of kn i connections has = module_there ms kn (is_known_module ms sound.names m in_ms kn i connections has)

  abbrev writes : List (ℕ × Source)
  writes = lines_writes s ds 0 0 m.items

  abbrev instance_at : (k line : ℕ) (kn i : Name) (connections : List Connection) → slice_get m.items k ≡ Some (Instance kn i connections) → line ≡ k → (c : ℕ) → slice_get (instances m) c ≡ Some (kn, i) → (inner : ModuleTree) → module_named ms kn ≡ Some inner → IsInstanceAt ms m line c
  instance_at k line kn i connections got e c listed inner named = record {
    module_name = kn;
    name = i;
    connections = connections;
    inner = inner;
    listed = listed;
    stands = ap (λ n. slice_get m.items n) e ∙ got;
    known = named;
  }

  module _ (j : ℕ) (d : Declaration) (here : slice_get ds j ≡ Some d) where
    same_declared : (x : Name) → DeclaredAt m j x → x ≡ d.name
    same_declared x a = let same : a.0 ≡ d = cc (a.1, here) in sym a.2 ∙ ap declaration_name same

    assign_write : (k at : ℕ) (x : Name) (e : Value) → slice_get m.items k ≡ Some (Assign x e) → at ≡ 0 + k → (src : Source) → Has (option_to_list (option_map (some_line at) (place_in ds x))) (j, src) → IsSource ms m j d src
    assign_write k at x e got is src h =
        let o = of_option (some_line at) (place_in ds x) (j, src) h in
        let a : o.0 ≡ j = ap (λ (z : ℕ × Source). z.0) o.2 in
        let b : source.Line at ≡ src = ap (λ (z : ℕ × Source). z.1) o.2 in
        let name : x ≡ d.name = same_declared x (place_declared ds x j (o.1 ∙ ap (λ n. Some n) a)) in
        let line : at ≡ k = omega arith in
        let got_at : slice_get m.items at ≡ Some (Assign d.name e) = ap (λ n. slice_get m.items n) line ∙ got ∙ ap (λ (y : Name). Some (Assign y e)) name in
        subst (λ (z : Source). IsSource ms m j d z) b (e, got_at)

    instance_write : (k at c : ℕ) (kn i : Name) (connections : List Connection) → slice_get m.items k ≡ Some (Instance kn i connections) → at ≡ 0 + k → c ≡ 0 + length (flat_map item_instances (take k m.items)) → (src : Source)
        → Has (flat_map (output_writes (inner_names s kn) ds c) connections) (j, src) → IsSource ms m j d src
    instance_write k at c kn i connections got is is_c src h =
        let has : Has m.items (Instance kn i connections) = has_got m.items k (Instance kn i connections) got in
        let known = known_of kn i connections has in
        let h2 : Has (flat_map (output_writes (declared known.0) ds c) connections) (j, src) = subst (λ (l : List Declaration). Has (flat_map (output_writes l ds c) connections) (j, src)) (inner_is kn known.0 known.1) h in
        let t = of_flat (output_writes (declared known.0) ds c) connections (j, src) h2 in
        let o = of_option (some_output c) (output_of (declared known.0) ds t.0) (j, src) t.2 in
        let a : o.0.1 ≡ j = ap (λ (z : ℕ × Source). z.0) o.2 in
        let b : source.Child c o.0.0 ≡ src = ap (λ (z : ℕ × Source). z.1) o.2 in
        let line : at ≡ k = omega arith in
        let before : c ≡ length (flat_map item_instances (take k m.items)) = omega arith in
        let listed : slice_get (instances m) c ≡ Some (kn, i) = ap (λ n. slice_get (instances m) n) before ∙ instance_got m.items k kn i connections got in
        let at_line : IsInstanceAt ms m at c = instance_at k at kn i connections got line c listed known.0 known.1 in
        let connected : IsConnected ms m kn connections known.0 false o.0.0 j = output_connected kn i connections has known.0 known.1 t.0 t.1 o.0.0 j (subst (λ n. output_of (declared known.0) ds t.0 ≡ Some (o.0.0, n)) a o.1) in
        subst (λ (z : Source). IsSource ms m j d z) b (at, at_line, connected)

    of_line : (k at c : ℕ) (it : Item) → slice_get m.items k ≡ Some it → at ≡ 0 + k → c ≡ 0 + length (flat_map item_instances (take k m.items)) → (src : Source) → Has (line_writes s ds at c it) (j, src) → IsSource ms m j d src
    of_line k at c (Assign x e) got is is_c src h = assign_write k at x e got is src h
    of_line k at c (Instance kn i connections) got is is_c src h = instance_write k at c kn i connections got is is_c src h
    of_line k at c (Wire w x) got is is_c src h = absurd h
    of_line k at c (Reg w x) got is is_c src h = absurd h
    of_line k at c (Memory w x n) got is is_c src h = absurd h
    of_line k at c (Always b) got is is_c src h = absurd h

    of_write : (src : Source) → Has writes (j, src) → IsSource ms m j d src
    of_write src h =
        let t : IsLineWrite s ds 0 0 m.items (j, src) = line_write s ds 0 0 m.items (j, src) h in
        of_line t.k t.at t.before t.item t.got t.at_is t.before_is src t.has

    -- what drives the name writes its place
    driver_writes : (it : Item) → Has m.items it → (r : driver) → Has (line_sources ms it) (d.name, r) → (n e : ℕ) → (src : Source) × Has (line_writes s ds n e it) (j, src)
    driver_writes (Assign x v) has r (inl p) n e =
        let same : x ≡ d.name = ap (λ (q : Name × driver). q.0) p in
        (source.Line n, has_option (some_line n) (place_in ds x) j (place_is ms sound.names m in_ms j x (d, here, sym same)))
    driver_writes (Assign x v) has r (inr h) n e = absurd h
    driver_writes (Instance kn i connections) has r h n e =
        let t = of_flat (connection_source (map port_declared (ports_of ms kn)) i) connections (d.name, r) h in
        by_test t.0 t.1 (net_kind_is_input (net_kind_of (map port_declared (ports_of ms kn)) t.0.port)) refl t.2 where
          by_test : (l : Connection) → Has connections l → (b : Bool) → net_kind_is_input (net_kind_of (map port_declared (ports_of ms kn)) l.port) ≡ b → Has {N = Name × driver} (cond b [] ((l.net, output i l.port) ∷ [])) (d.name, r)
              → (src : Source) × Has (flat_map (output_writes (inner_names s kn) ds e) connections) (j, src)
          by_test l g true f k = absurd k
          by_test l g false f (inl p) =
              let same : l.net ≡ d.name = ap (λ (q : Name × driver). q.0) p in
              let known = known_of kn i connections has in
              let port = port_found kn i connections has known.0 known.1 l g in
              let other : net_kind_is_input (net_kind_of (declared known.0) l.port) ≡ false = direction_same ms sound.names m in_ms kn i connections has known.0 known.1 l g ∙ f in
              let net : place_in ds l.net ≡ Some j = place_is ms sound.names m in_ms j l.net (d, here, sym same) in
              let is : output_of (declared known.0) ds l ≡ Some (port.0, j) = ap (λ b. cond b None (both (place_in (declared known.0) l.port) (place_in ds l.net))) other ∙ is_both (place_in (declared known.0) l.port) (place_in ds l.net) port.0 j port.1 net in
              let written_there : Has (output_writes (declared known.0) ds e l) (j, source.Child e port.0) = has_option (some_output e) (output_of (declared known.0) ds l) (port.0, j) is in
              (source.Child e port.0, has_flat (output_writes (inner_names s kn) ds e) connections l (j, source.Child e port.0) g (subst (λ (z : List Declaration). Has (output_writes z ds e l) (j, source.Child e port.0)) (sym (inner_is kn known.0 known.1)) written_there))
          by_test l g false f (inr k) = absurd k
    driver_writes (Wire w x) has r h n e = absurd h
    driver_writes (Reg w x) has r h n e = absurd h
    driver_writes (Memory w x k) has r h n e = absurd h
    driver_writes (Always b) has r h n e = absurd h

    kind_is : net_kind_of ds d.name ≡ d.net_kind
    kind_is = declared_net_kind m ms sound.names in_ms d (has_got ds j d here)

    -- a name that lines drive is written
    driven_written : net_kind_is_driven d.net_kind ≡ true → (d.net_kind ≡ kind.Input → ⊥) → (src : Source) × Has writes (j, src)
    driven_written e f = elim (source_cases (sources ms m.items) d.name) [
      | inl n ↦ absurd (has_source ms sound.drivers m in_ms d.name (ap net_kind_is_driven kind_is ∙ e) (λ i. f (sym kind_is ∙ i)) n)
      | inr r ↦ (let t = of_flat (line_sources ms) m.items (d.name, r.0) r.1 in some_write s ds 0 0 j m.items t.0 t.1 (driver_writes t.0 t.1 r.0 t.2))
    ]

    input_by : d.net_kind ≡ kind.Input → (b : Bool) → is_clk d.name ≡ b → IsSource ms m j d (cond b source.Nothing source.Input)
    input_by e true f = inl f
    input_by e false f = (e, f)

    first_by : (k : NetKind) → d.net_kind ≡ k → ((src : Source) → Has writes (j, src) → ⊥) → IsSource ms m j d (source_by d.name k)
    first_by kind.Register e none = e
    first_by kind.Input e none = input_by e (is_clk d.name) refl
    first_by kind.Unknown e none = inr (ap net_kind_is_read e)
    first_by kind.Output e none = let w = driven_written (ap net_kind_is_driven e) (λ f. output_no_input (sym e ∙ f)) in absurd (none w.0 w.1) where
      output_no_input : kind.Output ≡ kind.Input → ⊥
      output_no_input e = cc
    first_by kind.WireNet e none = let w = driven_written (ap net_kind_is_driven e) (λ f. wire_no_input (sym e ∙ f)) in absurd (none w.0 w.1) where
      wire_no_input : kind.WireNet ≡ kind.Input → ⊥
      wire_no_input e = cc
    first_by kind.MemoryArray e none = inr (ap net_kind_is_read e)
    first_by kind.ChildInstance e none = inr (ap net_kind_is_read e)

    source_by_write : WrittenAt writes (map first_source ds) j source.Nothing → IsSource ms m j d (get_or (written writes (map first_source ds)) j source.Nothing)
    source_by_write (inl h) = of_write (get_or (written writes (map first_source ds)) j source.Nothing) h
    source_by_write (inr e) =
        let first : get_or (map first_source ds) j source.Nothing ≡ first_source d = get_or_from_slice_get (map first_source ds) j (first_source d) source.Nothing (map_got first_source ds j d here) in
        subst (λ (z : Source). IsSource ms m j d z) (sym (e.0 ∙ first)) (first_by d.net_kind refl e.1)

    source_is : IsSource ms m j d (get_or (written writes (map first_source ds)) j source.Nothing)
    source_is =
        let low : j < length ds = slice_get_within ds j d here in
        let len : length (map first_source ds) ≡ length ds = length-map ds first_source in
        source_by_write (written_at writes (map first_source ds) j source.Nothing (omega arith))

  module _ (children : List Child) (rows : child_rows children ≡ lines_children s ds 0 m.items) where
    is_child : (c : ℕ) → c < length (instances m) → IsChild ms m children c
    is_child c low =
        let t : IsChildLine s ds 0 m.items c = child_line s ds 0 m.items c low in
        let at : t.at ≡ 0 + t.k = t.at_is in
        let w = of_map_got child_row children c (t.at, joined_of (inner_names s t.kn) ds t.connections) (ap (λ (l : List (ℕ × List (Option ℕ))). slice_get l c) rows ∙ t.row) in
        let line_is : w.0.line ≡ t.at = ap (λ (z : ℕ × List (Option ℕ)). z.0) w.2 in
        let joined_is : w.0.joined.items ≡ joined_of (inner_names s t.kn) ds t.connections = ap (λ (z : ℕ × List (Option ℕ)). z.1) w.2 in
        let line : w.0.line ≡ t.k = omega arith in
        let has : Has m.items (Instance t.kn t.i t.connections) = has_got m.items t.k (Instance t.kn t.i t.connections) t.got in
        let known = known_of t.kn t.i t.connections has in
        let all : w.0.joined.items ≡ joined_of (declared known.0) ds t.connections = joined_is ∙ ap (λ (l : List Declaration). joined_of l ds t.connections) (inner_is t.kn known.0 known.1) in
        record {
          child = w.0;
          got = w.1;
          at = instance_at t.k w.0.line t.kn t.i t.connections t.got line c t.listed known.0 known.1;
          joined = λ p x here e.
              let r = joined_input t.kn t.i t.connections has known.0 known.1 p x here e in
              (r.0, ap (λ (l : List (Option ℕ)). get_or l p None) all ∙ r.1, r.2);
        }

  -- the table of a module
  pub table_is : (t : Table) → t.scope ≡ declared m → t.sources.items ≡ written (lines_writes s (declared m) 0 0 m.items) (map first_source (declared m)) → child_rows t.children.items ≡ lines_children s (declared m) 0 m.items → IsTable ms m t
  table_is t scope_is sources_are rows = record {
    names = scope_is;
    count = ap length sources_are ∙ written_length writes (map first_source ds) ∙ length-map ds first_source;
    sources = λ j d here. subst (λ (l : List Source). IsSource ms m j d (get_or l j source.Nothing)) (sym sources_are) (source_is j d here);
    children = is_child t.children.items rows;
  }
