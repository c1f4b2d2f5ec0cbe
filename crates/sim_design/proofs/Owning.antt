-- Nets by their numbers, and what they have their numbers from.
use Rattle.std.proofs.Common.{◌≡◌, ℕ, ◌+◌, ◌<◌, true, false, List, [], ◌∷◌, map, Some, None, length, get_or, inl, inr, refl, sym, ap, subst, ◌∙◌, arith}
use Rattle.std.specs.Prelude.{◌⊎◌, slice_get}
use Rattle.std.proofs.lemmas.Option.{same_Some, slice_get_within}
use Rattle.vlog_tree.specs.declared.tree.Value.{Value}
use Rattle.vlog_tree.specs.declared.tree.Item.{Item}
use Rattle.vlog_tree.specs.declared.tree.Item.TheVariants.{Assign, Instance}
use Rattle.vlog_tree.specs.Form.{ModuleTree}
use Rattle.vlog_tree.specs.Flattened.{FlatNet}
use Rattle.vlog_tree.specs.declared.table.Declaration.{Declaration}
use Rattle.vlog_tree.specs.declared.table.NetKind.TheVariants as kind
use Rattle.tapa_base.specs.Lists.{Has}
use Rattle.vlog_tree.specs.Cycle.{Path, module_at}
use Rattle.vlog_tree.specs.Labels.{rdata_of, m_rdata}
use Rattle.vlog_tree.specs.V6.{has_all_five}
use Rattle.vlog_tree.specs.Table.{Name, is_clk, declared, port_declared, net_kind_of, net_kind_is_read, bits_of}
use Rattle.vlog_run_laws.proofs.runs.Sizes.{declared_bits, declared_net_kind}
use Rattle.vlog_run_laws.proofs.runs.Settled.{module_in, top_tree}
use Rattle.vlog_run_laws.proofs.runs.Labelled.{rdata_label}
use Rattle.vlog_run_laws.proofs.runs.TopPorts.{input_port, all_five}
use Rattle.tapa_base.proofs.Lists.{has_got}
use Rattle.sim_flat.specs.Instances.{StandsAt, IsModuleOf}
use Rattle.sim_flat.specs.declared.flat.Flat.{Flat}
use Rattle.sim_flat.specs.declared.tables.Source.{Source}
use Rattle.sim_flat.specs.declared.tables.Source.TheVariants as source
use Rattle.sim_flat.specs.declared.tables.Table.{Table}
use Rattle.sim_flat.specs.Tables.{IsSource, IsTable}
use Rattle.sim_flat.specs.Flat.{IsFlat, IsNetAt, HasNumber}
use Rattle.sim_flat.specs.Edges.{table_at, lines_at}
use Rattle.sim_flat.proofs.Standing.{module_of, table_of, lines_are, top_is}
use Rattle.sim_design.specs.declared.driven.Spot.{Spot}
use Rattle.sim_design.specs.Lines.{IsLine}
use Rattle.vlog_run_laws.specs.runs.Readable.{CanBeRead}
use Rattle.sim_design.proofs.Undriven.{IsHeld, no_assign, no_port}
use Rattle.sim_design.specs.Plans.{IsAtSpot}
use Rattle.sim_design.specs.States.{IsFree}
use Rattle.sim_design.specs.Given.{IsGivenPair, IsFreeSource, IsGivenNet}
use Rattle.sim_tape.specs.Tape.{TapeTree}
use Rattle.sim_tape.specs.declared.gates.Pair.{Pair}
use Rattle.tapa_base.proofs.Tests.{true_not_false}

register_no_input : kind.Register ≡ kind.Input → ⊥
register_no_input e = cc

module _ (ms : List ModuleTree) (top : ModuleTree) (f : Flat) (flat : IsFlat ms top f) where
  -- the owner of a number is the instance of its net
  owner_is : (number k : ℕ) (n : FlatNet) (h : HasNumber ms f number n) → Some k ≡ slice_get f.owners.items number → k ≡ h.instance
  owner_is number k n h e =
      same_Some k h.instance
      (e ∙ ap (λ i. slice_get f.owners.items i) h.is ∙ flat.numbers.owned h.instance h.place h.at.tree h.at.there h.at.of_module (slice_get_within (declared h.at.tree) h.place h.at.declared_at.0 h.at.declared_at.1))

  owner_there : (number : ℕ) (n : FlatNet) (h : HasNumber ms f number n) → slice_get f.owners.items number ≡ Some h.instance
  owner_there number n h =
      ap (λ i. slice_get f.owners.items i) h.is ∙ flat.numbers.owned h.instance h.place h.at.tree h.at.there h.at.of_module (slice_get_within (declared h.at.tree) h.place h.at.declared_at.0 h.at.declared_at.1)

  -- the number of a net has an owner, a table, and is none below those of the owner
  pub no_owner : (number : ℕ) (n : FlatNet) → HasNumber ms f number n → None ≡ slice_get f.owners.items number → ⊥
  no_owner number n h e = let clash : None ≡ Some h.instance = e ∙ owner_there number n h in cc

  pub no_table : (number k : ℕ) (n : FlatNet) → HasNumber ms f number n → Some k ≡ slice_get f.owners.items number → None ≡ table_at f k → ⊥
  no_table number k n h e none =
      let r = table_of ms top f flat h.instance n.0 h.at.tree h.at.there h.at.stands h.at.of_module in
      let clash : None ≡ Some r.0 = none ∙ ap (λ i. table_at f i) (owner_is number k n h e) ∙ r.1 in
      cc

  pub no_base : (number k base : ℕ) (n : FlatNet) → HasNumber ms f number n → Some k ≡ slice_get f.owners.items number → base ≡ get_or f.first_net.items k 0 → number < base → ⊥
  no_base number k base n h e first low =
      let is : number ≡ get_or f.first_net.items h.instance 0 + h.place = h.is in
      let from : base ≡ get_or f.first_net.items h.instance 0 = first ∙ ap (λ i. get_or f.first_net.items i 0) (owner_is number k n h e) in
      omega (arith, is, from, low)

  net_there : (k j : ℕ) (n : FlatNet) (i p : ℕ) → IsNetAt ms f i p n → k ≡ i → j ≡ p → IsNetAt ms f k j n
  net_there k j n i p at e g = subst (λ a. IsNetAt ms f a j n) (sym e) (subst (λ b. IsNetAt ms f i b n) (sym g) at)

  -- the net of a number stands where it is looked for
  pub stands_there : (number k j : ℕ) (n : FlatNet) → HasNumber ms f number n → Some k ≡ slice_get f.owners.items number → number ≡ get_or f.first_net.items k 0 + j → IsNetAt ms f k j n
  stands_there number k j n h e is =
      let same : k ≡ h.instance = owner_is number k n h e in
      let there : number ≡ get_or f.first_net.items h.instance 0 + h.place = h.is in
      let here : number ≡ get_or f.first_net.items h.instance 0 + j = subst (λ a. number ≡ get_or f.first_net.items a 0 + j) same is in
      net_there k j n h.instance h.place h.at same (omega arith)

  pub at_spot : (t : Table) (k base j number : ℕ) (n : FlatNet) → HasNumber ms f number n → Some k ≡ slice_get f.owners.items number → Some t ≡ table_at f k → base ≡ get_or f.first_net.items k 0 → number ≡ base + j
      → IsAtSpot ms f t (record { instance = k; base = base }) j n
  at_spot t k base j number n h e got first is =
      let at = stands_there number k j n h e (is ∙ ap (λ b. b + j) first) in
      let r = table_of ms top f flat k n.0 at.tree at.there at.stands at.of_module in
      let same : t ≡ r.0 = same_Some t r.0 (got ∙ r.1) in
      record { at = at; first = first; table = subst (λ (t : Table). IsTable ms at.tree t) (sym same) r.2 }

  module _ (t : Table) (spot : Spot) (place : ℕ) (n : FlatNet) (a : IsAtSpot ms f t spot place n) where
    -- what the net has its number from
    pub from_source : (s : Source) → s ≡ get_or t.sources.items place source.Nothing → IsSource ms a.at.tree place a.at.declared_at.0 s
    from_source s e = subst (λ (s : Source). IsSource ms a.at.tree place a.at.declared_at.0 s) (sym e) (a.table.sources place a.at.declared_at.0 a.at.declared_at.1)

    abbrev tree : ModuleTree
    tree = a.at.tree

    abbrev d : Declaration
    d = a.at.declared_at.0

    -- the line that drives the net
    pub is_line : (at bits : ℕ) (item : Item) (x : Name) (e : Value) (items : List Item) → source.Line at ≡ get_or t.sources.items place source.Nothing → items ≡ lines_at ms f spot.instance → Some item ≡ slice_get items at → item ≡ Assign x e → bits ≡ bits_of t.scope x
        → (x ≡ n.1) × IsLine ms f spot t.scope n.0 tree x e bits
    is_line at bits item x e items s are got is wide =
        let r = from_source (source.Line at) s in
        let lines : lines_at ms f spot.instance ≡ tree.items = lines_are ms top f flat spot.instance n.0 tree a.at.there a.at.stands a.at.of_module in
        let same : Assign x e ≡ Assign d.name r.0 = same_Some (Assign x e) (Assign d.name r.0) (ap (λ (i : Item). Some i) (sym is) ∙ got ∙ ap (λ l. slice_get l at) (are ∙ lines) ∙ r.1) in
        let name : x ≡ d.name = cc same in (
          name ∙ a.at.declared_at.2,
          record {
            there = a.at.there;
            stands = a.at.stands;
            of_module = a.at.of_module;
            first = a.first;
            declares = a.table.names;
            wide = wide ∙ ap (λ ds. bits_of ds x) a.table.names;
            line = has_got tree.items at (Assign x e) (r.1 ∙ ap (λ (i : Item). Some i) (sym same));
          },
        )

    -- the name at the place is the net's
    pub name_is : (e : Declaration) → Some e ≡ slice_get t.scope place → e.name ≡ n.1
    name_is e got =
        let same : e ≡ d = same_Some e d (got ∙ ap (λ ds. slice_get ds place) a.table.names ∙ a.at.declared_at.1) in
        ap (λ (d : Declaration). d.name) same ∙ a.at.declared_at.2

    at_path : module_at ms top n.0 ≡ Some tree
    at_path = module_of ms top f flat spot.instance n.0 tree a.at.there a.at.stands a.at.of_module

    in_ms : Has ms tree
    in_ms = module_in ms top (has_got ms flat.top_place top flat.top_at) n.0 tree at_path

    -- an input of a module
    pub is_input_net : source.Input ≡ get_or t.sources.items place source.Nothing → net_kind_of (declared tree) n.1 ≡ kind.Input
    is_input_net s =
        let r = from_source source.Input s in
        ap (λ y. net_kind_of (declared tree) y) (sym a.at.declared_at.2) ∙ declared_net_kind tree ms flat.design.sound.names in_ms d (has_got (declared tree) place d a.at.declared_at.1) ∙ r.0

    -- the top stands at no name
    no_way : (path : Path) → StandsAt ms f.instances.items spot.instance path → spot.instance ≡ 0 → path ≡ []
    no_way [] h z = refl
    no_way (i ∷ path) h z = let some : 0 < spot.instance = h.0 in absurd (omega arith)

    pub at_top : spot.instance ≡ 0 → (n.0 ≡ []) × (tree ≡ top)
    at_top z = (
      no_way n.0 a.at.stands z,
      same_Some tree top (sym (subst (λ k. IsModuleOf ms f.instances.items k tree) z a.at.of_module) ∙ top_is ms top f flat),
    )

    -- what a memory answers at a port of the top
    pub is_answer : spot.instance ≡ 0 → source.Input ≡ get_or t.sources.items place source.Nothing → (label : Name) → rdata_of n.1 ≡ Some label
        → (t.scope ≡ declared top) × (0 < length label) × (has_all_five (map port_declared top.ports) label ≡ true) × (n ≡ ([], m_rdata label))
    is_answer z s label e =
        let q = at_top z in
        let l = rdata_label n.1 label e in
        let top_here = top_tree ms flat.top_place flat.design top flat.top_at in
        let p = input_port top n.1 (ap (λ (m : ModuleTree). net_kind_of (declared m) n.1) (sym q.1) ∙ is_input_net s) in
        let five = all_five ms flat.design.outside top top_here.has top_here.is_top p.0 p.1 label (ap rdata_of p.2 ∙ e) in (
          a.table.names ∙ ap declared q.1,
          l.1,
          five,
          ap (λ (w : Path). (w, n.1)) q.0 ∙ ap (λ (y : Name). ([], y)) l.0,
        )

    -- a net that can be read, and no clock
    pub is_read_net : (e : Declaration) (m : ModuleTree) → Some e ≡ slice_get t.scope place → module_at ms top n.0 ≡ Some m → net_kind_is_read e.net_kind ≡ true → is_clk e.name ≡ false
        → (net_kind_is_read (net_kind_of (declared m) n.1) ≡ true) × (is_clk n.1 ≡ false)
    is_read_net e m got there read clock =
        let same : e ≡ d = same_Some e d (got ∙ ap (λ ds. slice_get ds place) a.table.names ∙ a.at.declared_at.1) in
        let name : d.name ≡ n.1 = a.at.declared_at.2 in
        let kind_is : net_kind_of (declared tree) n.1 ≡ d.net_kind = ap (λ y. net_kind_of (declared tree) y) (sym name) ∙ declared_net_kind tree ms flat.design.sound.names in_ms d (has_got (declared tree) place d a.at.declared_at.1) in
        let it : tree ≡ m = same_Some tree m (sym at_path ∙ there) in (
          ap (λ (k : ModuleTree). net_kind_is_read (net_kind_of (declared k) n.1)) (sym it) ∙ ap net_kind_is_read (kind_is ∙ ap (λ (d : Declaration). d.net_kind) (sym same)) ∙ read,
          ap is_clk (sym name) ∙ ap (λ (d : Declaration). is_clk d.name) (sym same) ∙ clock,
        )

    -- what the name at the place is
    pub kind_is : net_kind_of (declared tree) n.1 ≡ d.net_kind
    kind_is = ap (λ y. net_kind_of (declared tree) y) (sym a.at.declared_at.2) ∙ declared_net_kind tree ms flat.design.sound.names in_ms d (has_got (declared tree) place d a.at.declared_at.1)

    pub bits_are : (e : Declaration) → Some e ≡ slice_get t.scope place → bits_of (declared tree) n.1 ≡ e.bits
    bits_are e got =
        let same : e ≡ d = same_Some e d (got ∙ ap (λ ds. slice_get ds place) a.table.names ∙ a.at.declared_at.1) in
        ap (λ y. bits_of (declared tree) y) (sym a.at.declared_at.2) ∙ declared_bits tree ms flat.design.sound.names in_ms d (has_got (declared tree) place d a.at.declared_at.1) ∙ ap (λ (d : Declaration). d.bits) (sym same)

    -- a register, or an input of the top but what a memory answers
    pub is_free : (e : Declaration) → Some e ≡ slice_get t.scope place → (s : Source) → s ≡ get_or t.sources.items place source.Nothing → IsFreeSource spot.instance e.name s → IsFree ms top n
    is_free e got source.Register s free = record { tree = tree; at = at_path; by = inl (kind_is ∙ from_source source.Register s) }
    is_free e got source.Input s free = record { tree = tree; at = at_path; by = inr ((at_top free.0).0, is_input_net s, ap rdata_of (sym (name_is e got)) ∙ free.1) }
    is_free e got source.Nothing s free = absurd free
    is_free e got (source.Line l) s free = absurd free
    is_free e got (source.Child c p) s free = absurd free

    pub is_given : (e : Declaration) → Some e ≡ slice_get t.scope place → (s : Source) → s ≡ get_or t.sources.items place source.Nothing → is_clk e.name ≡ false → (tape : TapeTree) (p : Pair)
        → IsGivenPair tape e.bits p × IsFreeSource spot.instance e.name s → IsGivenNet ms top n tape p
    is_given e got s from clock tape p h = record {
      tree = tree;
      at = at_path;
      free = is_free e got s from h.1;
      clock = ap is_clk (sym (name_is e got)) ∙ clock;
      given = subst (λ k. IsGivenPair tape k p) (sym (bits_are e got)) h.0;
    }

    pub no_name : None ≡ slice_get t.scope place → ⊥
    no_name none = let clash : None ≡ Some d = none ∙ ap (λ ds. slice_get ds place) a.table.names ∙ a.at.declared_at.1 in cc

    -- what says of a net that it has its number from no other
    free_by : IsFree ms top n → (net_kind_of (declared tree) n.1 ≡ kind.Register) ⊎ ((n.0 ≡ []) × (net_kind_of (declared tree) n.1 ≡ kind.Input) × (rdata_of n.1 ≡ None))
    free_by free =
        let same : free.tree ≡ tree = same_Some free.tree tree (sym free.at ∙ at_path) in
        subst (λ (m : ModuleTree). (net_kind_of (declared m) n.1 ≡ kind.Register) ⊎ ((n.0 ≡ []) × (net_kind_of (declared m) n.1 ≡ kind.Input) × (rdata_of n.1 ≡ None))) same free.by

    held : IsFree ms top n → IsHeld ms flat.design.sound.names flat.design.sound.drivers tree in_ms n.1
    held free = elim (free_by free) [ inl r ↦ inl r | inr i ↦ inr i.1 ]

    held_read : IsFree ms top n → net_kind_is_read (net_kind_of (declared tree) n.1) ≡ true
    held_read free = elim (free_by free) [ inl r ↦ ap net_kind_is_read r | inr i ↦ ap net_kind_is_read i.1 ]

    -- only clocks, and names that can't be read, have no source
    pub no_nothing : source.Nothing ≡ get_or t.sources.items place source.Nothing → net_kind_is_read (net_kind_of (declared tree) n.1) ≡ true → is_clk n.1 ≡ false → ⊥
    no_nothing s read clock = elim (from_source source.Nothing s) [
      | inl c ↦ true_not_false (sym c ∙ ap is_clk a.at.declared_at.2 ∙ clock)
      | inr r ↦ true_not_false (sym read ∙ ap net_kind_is_read kind_is ∙ r)
    ]

    no_line : (l : ℕ) → source.Line l ≡ get_or t.sources.items place source.Nothing → IsFree ms top n → ⊥
    no_line l s free =
        let r = from_source (source.Line l) s in
        no_assign ms flat.design.sound.names flat.design.sound.drivers tree in_ms n.1 (held free) r.0 (subst (λ y. Has tree.items (Assign y r.0)) a.at.declared_at.2 (has_got tree.items l (Assign d.name r.0) r.1))

    no_child : (c p : ℕ) → source.Child c p ≡ get_or t.sources.items place source.Nothing → IsFree ms top n → ⊥
    no_child c p s free =
        let r = from_source (source.Child c p) s in
        let i = r.1 in
        let w = r.2 in
        let same : w.net_at.0 ≡ d = same_Some w.net_at.0 d (sym w.net_at.1 ∙ a.at.declared_at.1) in
        let net : w.connection.net ≡ n.1 = sym w.net_at.2 ∙ ap (λ (d : Declaration). d.name) same ∙ a.at.declared_at.2 in
        no_port ms flat.design.sound.names flat.design.sound.drivers tree in_ms n.1 (held free) i.module_name i.name i.connections (has_got tree.items r.0 (Instance i.module_name i.name i.connections) i.stands) w.connection w.connected net w.direction

    -- a net that has its number from no other has a source that says so
    pub free_source : (e : Declaration) → Some e ≡ slice_get t.scope place → IsFree ms top n → is_clk n.1 ≡ false → (s : Source) → s ≡ get_or t.sources.items place source.Nothing → IsFreeSource spot.instance e.name s
    free_source e got free clock source.Register s = tt
    free_source e got free clock source.Input s = elim (free_by free) [
      | inl r ↦ absurd (register_no_input (sym r ∙ is_input_net s))
      | inr i ↦ (subst (λ (p : Path). StandsAt ms f.instances.items spot.instance p) i.0 a.at.stands, ap rdata_of (name_is e got) ∙ i.2)
    ]
    free_source e got free clock source.Nothing s = absurd (no_nothing s (held_read free) clock)
    free_source e got free clock (source.Line l) s = absurd (no_line l s free)
    free_source e got free clock (source.Child c p) s = absurd (no_child c p s free)

    -- a register has its number from no other net
    pub is_register : source.Register ≡ get_or t.sources.items place source.Nothing → IsFree ms top n
    is_register s = record { tree = tree; at = at_path; by = inl (kind_is ∙ from_source source.Register s) }

    pub is_read_here : (r : CanBeRead ms top n) → net_kind_is_read (net_kind_of (declared tree) n.1) ≡ true
    is_read_here r =
        let same : r.tree ≡ tree = same_Some r.tree tree (sym r.at ∙ at_path) in
        subst (λ (m : ModuleTree). net_kind_is_read (net_kind_of (declared m) n.1) ≡ true) same r.read

    -- the line that a net's source names
    pub source_line : (l : ℕ) (items : List Item) → source.Line l ≡ get_or t.sources.items place source.Nothing → items ≡ lines_at ms f spot.instance → (e : Value) × (slice_get items l ≡ Some (Assign d.name e))
    source_line l items s are =
        let r = from_source (source.Line l) s in
        let lines : lines_at ms f spot.instance ≡ tree.items = lines_are ms top f flat spot.instance n.0 tree a.at.there a.at.stands a.at.of_module in
        (r.0, ap (λ z. slice_get z l) (are ∙ lines) ∙ r.1)

    -- what the name at the place of a net that can be read is
    pub can_be_read : (e : Declaration) → Some e ≡ slice_get t.scope place → CanBeRead ms top n → (net_kind_is_read e.net_kind ≡ true) × (is_clk e.name ≡ false)
    can_be_read e got r =
        let same : e ≡ d = same_Some e d (got ∙ ap (λ ds. slice_get ds place) a.table.names ∙ a.at.declared_at.1) in
        (ap (λ (d : Declaration). net_kind_is_read d.net_kind) same ∙ ap net_kind_is_read (sym kind_is) ∙ is_read_here r, ap is_clk (name_is e got) ∙ r.clock)
