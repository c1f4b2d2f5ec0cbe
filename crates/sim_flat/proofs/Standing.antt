-- Nets of a flattened design and their numbers.
use Rattle.std.proofs.Common.{◌≡◌, ℕ, ◌+◌, ◌<◌, ◌≤◌, ◌^◌, Bool, false, cond, List, [], ◌∷◌, Option, Some, None, length, get_or, inl, inr, refl, sym, ap, subst, ◌∙◌, arith}
use Rattle.std.specs.Prelude.{◌⊎◌, ◌==◌, slice_get, option_and_then}
use Rattle.std.specs.List.{flat_map}
use Rattle.std.specs.Option.{option_map_or}
use Rattle.std.proofs.lemmas.Bool.{cases_lt}
use Rattle.std.proofs.lemmas.Bool.Decides.{nat_tests}
use Rattle.std.proofs.lemmas.Option.{slice_get-get_or, slice_get_past, slice_get_within}
use Rattle.vlog_tree.specs.declared.tree.Connection.{Connection}
use Rattle.vlog_tree.specs.declared.tree.Item.{Item}
use Rattle.vlog_tree.specs.declared.tree.Item.TheVariants.{Instance}
use Rattle.vlog_tree.specs.declared.table.Declaration.{Declaration}
use Rattle.vlog_tree.specs.Form.{ModuleTree}
use Rattle.tapa_base.specs.Lists.{Has}
use Rattle.vlog_tree.specs.Cycle.{Path, module_at, child_of}
use Rattle.vlog_tree.specs.Table.{Name, declared, declaration_name, module_named, first_violation}
use Rattle.vlog_tree.specs.V2.{v2_uses}
use Rattle.vlog_tree.specs.Loops.{instances}
use Rattle.vlog_tree.specs.Flattened.{FlatNet}
use Rattle.tapa_base.proofs.Lists.{has_got}
use Rattle.vlog_run_laws.proofs.runs.Alone.{child_is}
use Rattle.vlog_run_laws.proofs.runs.Solved.{Around, module_around}
use Rattle.sim_flat.specs.declared.instances.Instance as row
use Rattle.sim_flat.specs.Rows.{row_at}
use Rattle.sim_flat.specs.Instances.{IsNamed, StandsAt, IsModuleOf}
use Rattle.sim_flat.specs.declared.flat.Flat.{Flat}
use Rattle.sim_flat.specs.declared.tables.Child.{Child}
use Rattle.sim_flat.specs.declared.tables.Table.{Table}
use Rattle.sim_flat.specs.Places.{number_in, DeclaredAt}
use Rattle.sim_flat.specs.Tables.{IsChild, IsTable}
use Rattle.sim_flat.specs.Flat.{IsOwner, IsFlat, HasNumber}
use Rattle.sim_flat.specs.Edges.{table_at, lines_at, base_at, connections_of, connections_in, connection_edge, joins_in, join_edges, NumbersFit}
use Rattle.sim_flat.proofs.Got.{pair_parts}
use Rattle.sim_flat.proofs.Names.{place_declared, place_is, of_number, number_of}
use Rattle.tapa_base.proofs.Tests.{above_zero}
use Rattle.tapa_base.proofs.Got.{some_at as there}

-- the way to an instance is one
pub path_single : (ms : List ModuleTree) (rows : List row.Instance) (path way : Path) (k : ℕ) → StandsAt ms rows k path → StandsAt ms rows k way → path ≡ way
path_single ms rows [] [] k s t = refl
path_single ms rows [] (j ∷ way) k s t = let pos : 0 < k = t.0 in absurd (omega (arith, s))
path_single ms rows (i ∷ path) [] k s t = let pos : 0 < k = s.0 in absurd (omega (arith, t))
path_single ms rows (i ∷ path) (j ∷ way) k s t =
    let a : IsNamed ms rows k i = s.1 in
    let b : IsNamed ms rows k j = t.1 in
    let outer : a.outer ≡ b.outer = cc (a.got, b.got) in
    let named : slice_get (instances a.outer) (row_at rows k).child ≡ Some (b.module_name, j) = subst (λ (q : ModuleTree). slice_get (instances q) (row_at rows k).child ≡ Some (b.module_name, j)) (sym outer) b.named in
    let pair : Some (a.module_name, i) ≡ Some (b.module_name, j) = sym a.named ∙ named in
    let name : i ≡ j = (pair_parts a.module_name b.module_name i j pair).1 in
    ap (λ (z : Name). z ∷ path) name ∙ ap (λ (p : Path). j ∷ p) (path_single ms rows path way (row_at rows k).around s.2 t.2)

module _ (ms : List ModuleTree) (top : ModuleTree) (f : Flat) (flat : IsFlat ms top f) where
  abbrev pub rows : List row.Instance
  rows = f.instances.items

  abbrev pub v2 : first_violation (v2_uses ms) ≡ None
  v2 = flat.design.sound.names

  pub in_top : Has ms top
  in_top = has_got ms flat.top_place top flat.top_at

  module_in_ms : (k : ℕ) (m : ModuleTree) → IsModuleOf ms rows k m → Has ms m
  module_in_ms k m is = has_got ms (row_at rows k).kind m is

  row_got : (k : ℕ) → k < length rows → slice_get rows k ≡ Some (row_at rows k)
  row_got k low = slice_get-get_or rows k _ low

  -- the module at the end of a way
  pub module_of : (k : ℕ) (path : Path) (m : ModuleTree) → k < length rows → StandsAt ms rows k path → IsModuleOf ms rows k m → module_at ms top path ≡ Some m
  module_of k path m low s is =
      let t = flat.instances.modules k path low s in
      let same : t.0 ≡ m = cc (t.2, is) in
      t.1 ∙ ap (λ (q : ModuleTree). Some q) same

  -- the number of a net is below the count of all, and of one net alone
  number_got : (number : ℕ) (n : FlatNet) (h : HasNumber ms f number n) → slice_get f.owners.items number ≡ Some h.instance
  number_got number n h =
      let low : h.place < length (declared h.at.tree) = slice_get_within (declared h.at.tree) h.place h.at.declared_at.0 h.at.declared_at.1 in
      ap (λ k. slice_get f.owners.items k) h.is ∙ flat.numbers.owned h.instance h.place h.at.tree h.at.there h.at.of_module low

  pub number_low : (number : ℕ) (n : FlatNet) → HasNumber ms f number n → number < length f.owners.items
  number_low number n h = slice_get_within f.owners.items number h.instance (number_got number n h)

  pub net_of : (number : ℕ) → number < length f.owners.items → (n : FlatNet) × HasNumber ms f number n
  net_of number low =
      let t = there f.owners.items number low in
      let o : IsOwner ms rows f.first_net.items number t.0 = flat.numbers.owner number t.0 t.1 in
      let w = flat.instances.paths t.0 o.there in
      let d = there (declared o.tree) o.place o.low in
      ((w.0, d.0.name), record { instance = t.0; place = o.place; at = record { there = o.there; stands = w.1; tree = o.tree; of_module = o.of_module; declared_at = (d.0, d.1, refl) }; is = o.is })

  pub net_single : (number : ℕ) (n b : FlatNet) → HasNumber ms f number n → HasNumber ms f number b → n ≡ b
  net_single number n b h g =
      let a : Some h.instance ≡ Some g.instance = sym (number_got number n h) ∙ number_got number b g in
      let k : h.instance ≡ g.instance = cc a in
      let x : number ≡ get_or f.first_net.items h.instance 0 + h.place = h.is in
      let y : number ≡ get_or f.first_net.items g.instance 0 + g.place = g.is in
      let z : get_or f.first_net.items h.instance 0 ≡ get_or f.first_net.items g.instance 0 = ap (λ m. get_or f.first_net.items m 0) k in
      let j : h.place ≡ g.place = omega arith in
      let way : n.0 ≡ b.0 = path_single ms rows n.0 b.0 g.instance (subst (λ m. StandsAt ms rows m n.0) k h.at.stands) g.at.stands in
      let tree : h.at.tree ≡ g.at.tree = cc (subst (λ m. IsModuleOf ms rows m h.at.tree) k h.at.of_module, g.at.of_module) in
      let got : slice_get (declared g.at.tree) g.place ≡ Some h.at.declared_at.0 = subst (λ (q : ModuleTree). slice_get (declared q) g.place ≡ Some h.at.declared_at.0) tree (subst (λ m. slice_get (declared h.at.tree) m ≡ Some h.at.declared_at.0) j h.at.declared_at.1) in
      let d : h.at.declared_at.0 ≡ g.at.declared_at.0 = cc (got, g.at.declared_at.1) in
      let name : n.1 ≡ b.1 = sym h.at.declared_at.2 ∙ ap declaration_name d ∙ g.at.declared_at.2 in
      ap (λ (p : Path). (p, n.1)) way ∙ ap (λ (y : Name). (b.0, y)) name

  -- the nets of one instance
  module _ (k : ℕ) (path : Path) (m : ModuleTree) (low : k < length rows) (stands : StandsAt ms rows k path) (is : IsModuleOf ms rows k m) where
    pub number_is : (x : Name) (number : ℕ) → HasNumber ms f number (path, x) → number_in (base_at f k) (declared m) x ≡ Some number
    number_is x number h =
        let same : h.instance ≡ k = flat.instances.single path h.instance k h.at.there low h.at.stands stands in
        let tree : h.at.tree ≡ m = cc (subst (λ n. IsModuleOf ms rows n h.at.tree) same h.at.of_module, is) in
        let at : DeclaredAt m h.place x = subst (λ (q : ModuleTree). DeclaredAt q h.place x) tree h.at.declared_at in
        number_of (base_at f k) (declared m) x h.place number (place_is ms v2 m (module_in_ms k m is) h.place x at) (h.is ∙ ap (λ n. get_or f.first_net.items n 0 + h.place) same)

    pub net_is : (x : Name) (number : ℕ) → number_in (base_at f k) (declared m) x ≡ Some number → HasNumber ms f number (path, x)
    net_is x number e =
        let t = of_number (base_at f k) (declared m) x number e in
        record { instance = k; place = t.0; at = record { there = low; stands = stands; tree = m; of_module = is; declared_at = place_declared (declared m) x t.0 t.1 }; is = t.2 }

    pub table_of : (t : Table) × (table_at f k ≡ Some t) × IsTable ms m t
    table_of =
        let e = flat.tables.each (row_at rows k).kind m is in
        (e.0, ap (λ (o : Option row.Instance). option_and_then (λ (r : row.Instance). slice_get f.tables.items r.kind) o) (row_got k low) ∙ e.1, e.2)

    pub lines_are : lines_at ms f k ≡ m.items
    lines_are =
        ap (λ (o : Option row.Instance). option_map_or (λ (q : ModuleTree). q.items) (option_and_then (λ (r : row.Instance). slice_get ms r.kind) o) []) (row_got k low)
        ∙ ap (λ (o : Option ModuleTree). option_map_or (λ (q : ModuleTree). q.items) o []) is

    -- the connections of an instance in it
    pub connections_are : (c : ℕ) (t : Table) → table_at f k ≡ Some t → (h : IsChild ms m t.children.items c) → connections_in ms f k c ≡ h.at.connections
    connections_are c t e h =
        ap (λ (o : Option Table). option_map_or (λ (t : Table). option_map_or (λ (ch : Child). option_map_or connections_of (slice_get (lines_at ms f k) ch.line) []) (slice_get t.children.items c) []) o []) e
        ∙ ap (λ (o : Option Child). option_map_or (λ (ch : Child). option_map_or connections_of (slice_get (lines_at ms f k) ch.line) []) o []) h.got
        ∙ ap (λ (items : List Item). option_map_or connections_of (slice_get items h.child.line) []) lines_are
        ∙ ap (λ (o : Option Item). option_map_or connections_of o []) h.at.stands

  pub tables_fit : length f.owners.items < 2 ^ 64 → NumbersFit f
  tables_fit fits k t e = fit (cases_lt k (length rows)) where
    fit : (k < length rows) ⊎ (length rows ≤ k) → base_at f k + length t.scope < 2 ^ 64
    fit (inl low) =
        let w = flat.instances.paths k low in
        let m = flat.instances.modules k w.0 low w.1 in
        let u = table_of k w.0 m.0 low w.1 m.2 in
        let same : u.0 ≡ t = cc (u.1, e) in
        let scope : t.scope ≡ declared m.0 = ap (λ (z : Table). z.scope) (sym same) ∙ u.2.names in
        let len : length t.scope ≡ length (declared m.0) = ap length scope in
        let within : base_at f k + length (declared m.0) ≤ length f.owners.items = flat.numbers.within k m.0 low m.2 in
        omega arith
    fit (inr high) =
        let none : table_at f k ≡ None = ap (λ (o : Option row.Instance). option_and_then (λ (r : row.Instance). slice_get f.tables.items r.kind) o) (slice_get_past rows k high) in
        absurd (let clash : None ≡ Some t = sym none ∙ e in cc)

  pub top_low : 0 < length rows
  top_low = let n = flat.instances.numbers [] top refl in let low : n.0 < length rows = n.1 in omega arith

  pub top_is : IsModuleOf ms rows 0 top
  top_is =
      let t = flat.instances.modules 0 [] top_low refl in
      let same : t.0 ≡ top = cc (t.1) in
      subst (λ (q : ModuleTree). IsModuleOf ms rows 0 q) same t.2

  -- an instance in another
  pub record IsInner (s : ℕ) (path : Path) (i : Name) : Type 0 where
    pub outer : ModuleTree
    pub inner : ModuleTree
    pub around_low : (row_at rows s).around < length rows
    pub around_stands : StandsAt ms rows (row_at rows s).around path
    pub around_is : IsModuleOf ms rows (row_at rows s).around outer
    pub outer_at : module_at ms top path ≡ Some outer
    pub inner_is : IsModuleOf ms rows s inner
    pub inner_at : module_at ms top (i ∷ path) ≡ Some inner
    pub table : Table
    pub table_is : table_at f (row_at rows s).around ≡ Some table
    pub child : IsChild ms outer table.children.items (row_at rows s).child
    pub name_is : child.at.name ≡ i
    pub line : Has outer.items (Instance child.at.module_name i child.at.connections)
    pub named : module_named ms child.at.module_name ≡ Some inner

  named_by : (i : Name) (path : Path) (k o : ModuleTree) (w : Around ms top i path k) → module_at ms top path ≡ Some o → (x : Name) → child_of o.items i ≡ Some x → module_named ms x ≡ Some k
  named_by i path k o w at x e =
      let tree : w.tree ≡ o = cc (w.at, at) in
      let some : Some w.kn ≡ Some x = sym w.child ∙ ap (λ (q : ModuleTree). child_of q.items i) tree ∙ e in
      let kn : w.kn ≡ x = cc some in
      ap (λ (z : Name). module_named ms z) (sym kn) ∙ w.named

  inner_by : (s : ℕ) (path : Path) (i : Name) (o k : ModuleTree) (t : Table) → (row_at rows s).around < length rows → StandsAt ms rows (row_at rows s).around path → IsModuleOf ms rows (row_at rows s).around o → module_at ms top path ≡ Some o
      → IsModuleOf ms rows s k → module_at ms top (i ∷ path) ≡ Some k → table_at f (row_at rows s).around ≡ Some t → IsChild ms o t.children.items (row_at rows s).child → (kn : Name) → slice_get (instances o) (row_at rows s).child ≡ Some (kn, i) → IsInner s path i
  inner_by s path i o k t low stands is at inner_is inner_at table child kn named =
      let pair : Some (child.at.module_name, child.at.name) ≡ Some (kn, i) = sym child.at.listed ∙ named in
      let name : child.at.name ≡ i = (pair_parts child.at.module_name kn child.at.name i pair).1 in
      let got : slice_get o.items child.child.line ≡ Some (Instance child.at.module_name i child.at.connections) = child.at.stands ∙ ap (λ (z : Name). Some (Instance child.at.module_name z child.at.connections)) name in
      let line : Has o.items (Instance child.at.module_name i child.at.connections) = has_got o.items child.child.line (Instance child.at.module_name i child.at.connections) got in
      record {
        outer = o;
        inner = k;
        around_low = low;
        around_stands = stands;
        around_is = is;
        outer_at = at;
        inner_is = inner_is;
        inner_at = inner_at;
        table = t;
        table_is = table;
        child = child;
        name_is = name;
        line = line;
        named = named_by i path k o (module_around ms top i path k inner_at) at child.at.module_name (child_is ms v2 o (module_in_ms (row_at rows s).around o is) child.at.module_name i child.at.connections line);
      }

  module _ (s : ℕ) (path : Path) (i : Name) (low : s < length rows) (stands : StandsAt ms rows s (i ∷ path)) where
    around_below : (row_at rows s).around < length rows
    around_below = let before : (row_at rows s).around < s = flat.instances.before s stands.0 low in omega arith

    pub inner_of : IsInner s path i
    inner_of =
        let n : IsNamed ms rows s i = stands.1 in
        let o = flat.instances.modules (row_at rows s).around path around_below stands.2 in
        let k = flat.instances.modules s (i ∷ path) low stands in
        let outer : n.outer ≡ o.0 = cc (n.got, o.2) in
        let named : slice_get (instances o.0) (row_at rows s).child ≡ Some (n.module_name, i) = subst (λ (q : ModuleTree). slice_get (instances q) (row_at rows s).child ≡ Some (n.module_name, i)) outer n.named in
        let t = table_of (row_at rows s).around path o.0 around_below stands.2 o.2 in
        inner_by s path i o.0 k.0 t.0 around_below stands.2 o.2 o.1 k.2 k.1 t.1 (t.2.children (row_at rows s).child (slice_get_within (instances o.0) (row_at rows s).child (n.module_name, i) named)) n.module_name named

    -- the edges of its connections
    pub joins_are : (h : IsInner s path i) → join_edges ms f s ≡ flat_map (connection_edge (base_at f (row_at rows s).around) (declared h.outer) (base_at f s) (declared h.inner)) h.child.at.connections
    joins_are h =
        let a : ℕ = (row_at rows s).around in
        let c : ℕ = (row_at rows s).child in
        let t = table_of s (i ∷ path) h.inner low stands h.inner_is in
        let u = table_of a path h.outer h.around_low h.around_stands h.around_is in
        not_top s stands.0 (option_map_or (joins_in ms f s) (slice_get rows s) [])
        ∙ ap (λ (o : Option row.Instance). option_map_or (joins_in ms f s) o []) (row_got s low)
        ∙ ap (λ (o : Option Table). option_map_or (λ (inside : Table). option_map_or (λ (t : Table). flat_map (connection_edge (base_at f a) t.scope (base_at f s) inside.scope) (connections_in ms f a c)) (table_at f a) []) o []) t.1
        ∙ ap (λ (o : Option Table). option_map_or (λ (u : Table). flat_map (connection_edge (base_at f a) u.scope (base_at f s) t.0.scope) (connections_in ms f a c)) o []) u.1
        ∙ ap (λ (l : List Declaration). flat_map (connection_edge (base_at f a) l (base_at f s) t.0.scope) (connections_in ms f a c)) u.2.names
        ∙ ap (λ (l : List Declaration). flat_map (connection_edge (base_at f a) (declared h.outer) (base_at f s) l) (connections_in ms f a c)) t.2.names
        ∙ ap (λ (l : List Connection). flat_map (connection_edge (base_at f a) (declared h.outer) (base_at f s) (declared h.inner)) l) (connections_are a path h.outer h.around_low h.around_stands h.around_is c h.table h.table_is h.child) where
          not_top : (n : ℕ) → 0 < n → (l : List (ℕ × ℕ)) → cond (n == 0) [] l ≡ l
          not_top n pos l = ap (λ (b : Bool). cond b [] l) (above_zero n pos)
