-- Ranks of the nets of channels: each net rests on nets of lower rank, and no output is above an input.
use Rattle.std.proofs.Common.{◌≡◌, ℕ, ◌+◌, ◌*◌, ◌<◌, ◌≤◌, Bool, true, false, cond, List, [], ◌∷◌, ◌++◌, Option, Some, inl, inr, refl, sym, ap, subst, ◌∙◌, arith, map}
use Rattle.std.specs.Prelude.{bytes_eq, codes, nat_le, nat_lt}
use Rattle.std.specs.List.{list_all, flat_map}
use Rattle.std.specs.Cmp.Lexicographic.{bytes_decides}
use Rattle.std.proofs.lemmas.Bool.{ltb-true, leb-true}
use Rattle.vlog_tree.specs.declared.tree.Connection.{Connection}
use Rattle.vlog_tree.specs.declared.tree.Direction.TheVariants.{Input as Inward, Output as Outward}
use Rattle.vlog_tree.specs.declared.tree.Item.TheVariants.{Instance}
use Rattle.vlog_tree.specs.declared.tree.PortDecl.{PortDecl}
use Rattle.vlog_tree.specs.declared.table.Declaration.{Declaration}
use Rattle.vlog_tree.specs.declared.table.NetKind.TheVariants.{Unknown, Input, Output}
use Rattle.vlog_tree.specs.Names.{is_among}
use Rattle.vlog_tree.specs.Form.{ModuleTree, is_input}
use Rattle.tapa_base.specs.Lists.{Has}
use Rattle.vlog_tree.specs.Table.{Name, clk, port_declared, find_name, net_kind_of, ports_of, module_named}
use Rattle.vlog_tree.specs.Labels.{rst, rdata_of, m_addr, label_in}
use Rattle.vlog_tree.specs.Loops.{Rests, line_edges, connection_edge, memory_edges, direct_edges, instances, port_of}
use Rattle.vlog_module_laws.specs.Ranks.{FallsBy}
use Rattle.vlog_module_laws.proofs.Ranks.{lower}
use Rattle.vlog_module_laws.proofs.Larger.{known_by}
use Rattle.hw_build.proofs.Forms.{all_append}
use Rattle.hw_channel_lines.specs.Names.{fifo_name, relay_name}
use Rattle.hw_channel_lines.specs.Texts.{step_tree, even_tree, odd_tree, fifo_tree, plain_tree, relayed_tree, first_part, second_of_two, second_of_three, third_part, relay_connections, fifo_connections}
use Rattle.hw_channel_laws.specs.modules.Rules.{outer_ports}
use Rattle.tapa_base.proofs.Tests.{both_true}

abbrev firsts : List Name
firsts = codes "put_late" ∷ codes "din_late" ∷ codes "put_1" ∷ codes "din_1" ∷ codes "rdy_1" ∷ codes "put_2" ∷ codes "din_2" ∷ codes "rdy_2" ∷ codes "ready" ∷ codes "some" ∷ codes "dout" ∷ codes "more" ∷ codes "fewer" ∷ codes "head_up" ∷ codes "head_last" ∷ codes "tail_up" ∷ codes "tail_last" ∷ []

abbrev seconds : List Name
seconds = codes "clk" ∷ codes "rst" ∷ codes "din" ∷ codes "wr" ∷ codes "take" ∷ codes "rdy_early" ∷ codes "rdy" ∷ codes "has" ∷ codes "head_next" ∷ codes "tail_next" ∷ []

abbrev thirds : List Name
thirds = codes "put" ∷ codes "pop" ∷ []

abbrev fourths : List Name
fourths = codes "moves" ∷ codes "count_next" ∷ []

-- the inputs of instances; their outputs have rank 0, as registers have
abbrev inner_inputs : List Name
inner_inputs =
    codes "part_0.clk" ∷ codes "part_0.rst" ∷ codes "part_0.put" ∷ codes "part_0.din" ∷ codes "part_0.rdy_early" ∷ codes "part_1.clk" ∷ codes "part_1.rst" ∷ codes "part_1.put" ∷ codes "part_1.din" ∷ codes "part_1.rdy_early"
    ∷ codes "part_2.clk" ∷ codes "part_2.rst" ∷ codes "part_2.put" ∷ codes "part_2.din" ∷ codes "part_2.rdy_early" ∷ codes "relay.clk" ∷ codes "relay.rst" ∷ codes "relay.put" ∷ codes "relay.din" ∷ codes "relay.rdy_early"
    ∷ codes "fifo.clk" ∷ codes "fifo.rst" ∷ codes "fifo.put" ∷ codes "fifo.din" ∷ codes "fifo.take" ∷ []

pub rank : Name → ℕ
rank x =
    cond (is_among firsts x) 1 (cond (is_among seconds x) 2 (cond (is_among thirds x) 3 (cond (is_among fourths x) 4 (cond (is_among inner_inputs x) 5 0))))

abbrev falls : Name × Name → Bool
falls e = nat_lt (rank e.1) (rank e.0)

-- ---- ports

abbrev port_ranked : PortDecl → Bool
port_ranked p = cond (is_input p.direction) (nat_le 2 (rank p.name)) (nat_le (rank p.name) 2)

abbrev pub relay_ports : ℕ → List PortDecl
relay_ports bits =
    record { direction = Inward; width = 1; name = clk } ∷ record { direction = Inward; width = 1; name = rst } ∷ record { direction = Inward; width = 1; name = codes "put" }
    ∷ record { direction = Inward; width = bits; name = codes "din" } ∷ record { direction = Inward; width = 1; name = codes "rdy_early" } ∷ record { direction = Outward; width = 1; name = codes "put_late" }
    ∷ record { direction = Outward; width = bits; name = codes "din_late" } ∷ record { direction = Outward; width = 1; name = codes "rdy" } ∷ []

abbrev pub fifo_ports : ℕ → List PortDecl
fifo_ports bits =
    record { direction = Inward; width = 1; name = clk } ∷ record { direction = Inward; width = 1; name = rst } ∷ record { direction = Inward; width = 1; name = codes "put" }
    ∷ record { direction = Inward; width = bits; name = codes "din" } ∷ record { direction = Inward; width = 1; name = codes "take" } ∷ record { direction = Outward; width = 1; name = codes "rdy" }
    ∷ record { direction = Outward; width = 1; name = codes "has" } ∷ record { direction = Outward; width = bits; name = codes "dout" } ∷ []

relay_ranked : (bits : ℕ) → list_all port_ranked (relay_ports bits) ≡ true
unfolding rank clk rst
relay_ranked bits = refl

fifo_ranked : (bits : ℕ) → list_all port_ranked (fifo_ports bits) ≡ true
unfolding rank clk rst
fifo_ranked bits = refl

outer_ranked : (bits : ℕ) → list_all port_ranked (outer_ports bits) ≡ true
unfolding rank clk rst
outer_ranked bits = refl

at_kind : (t : Bool) (n : ℕ) → cond t (nat_le 2 n) (nat_le n 2) ≡ true → (cond t Input Output ≡ Output → n ≤ 2) × (cond t Input Output ≡ Input → 2 ≤ n)
at_kind true n h = (λ e. absurd (never e), λ e. leb-true 2 n h) where
  never : Input ≡ Output → ⊥
  never e = cc
at_kind false n h = (λ e. leb-true n 2 h, λ e. absurd (never e)) where
  never : Output ≡ Input → ⊥
  never e = cc

abbrev Ranked : Declaration → Name → Type 0
Ranked d x = (d.net_kind ≡ Output → rank x ≤ 2) × (d.net_kind ≡ Input → 2 ≤ rank x)

this_port : (p : PortDecl) (rest : Declaration) (x : Name) (b : Bool) → bytes_eq p.name x ≡ b → port_ranked p ≡ true → Ranked rest x → Ranked (cond b (port_declared p) rest) x
this_port p rest x true e h r = subst (λ y. Ranked (port_declared p) y) ((bytes_decides p.name x).0 e) (at_kind (is_input p.direction) (rank p.name) h)
this_port p rest x false e h r = r

ranked : (ps : List PortDecl) → list_all port_ranked ps ≡ true → (x : Name) → Ranked (find_name (map port_declared ps) x) x
ranked [] h x = (λ e. absurd (never e), λ e. absurd (never_too e)) where
  never : Unknown ≡ Output → ⊥
  never e = cc

  never_too : Unknown ≡ Input → ⊥
  never_too e = cc
ranked (p ∷ ps) h x =
    let t = both_true (port_ranked p) (list_all port_ranked ps) h in
    this_port p (find_name (map port_declared ps) x) x (bytes_eq p.name x) refl t.0 (ranked ps t.1 x)

-- ---- edges

all_have : {A : Type 0} (p : A → Bool) (xs : List A) (x : A) → list_all p xs ≡ true → Has xs x → p x ≡ true
all_have p [] x h i = absurd i
all_have p (y ∷ ys) x h (inl e) = ap p (sym e) ∙ (both_true (p y) (list_all p ys) h).0
all_have p (y ∷ ys) x h (inr i) = all_have p ys x (both_true (p y) (list_all p ys) h).1 i

-- no name of these ports is one of a memory's
no_memories : (b : Bool) (bits : ℕ) → (list_all falls (memory_edges b (map port_declared (relay_ports bits))) ≡ true)
    × (list_all falls (memory_edges b (map port_declared (fifo_ports bits))) ≡ true) × (list_all falls (memory_edges b (map port_declared (outer_ports bits))) ≡ true)
unfolding clk rst rdata_of m_addr label_in
no_memories true bits = (refl, refl, refl)
no_memories false bits = (refl, refl, refl)

step_falls : (ms : List ModuleTree) (bits : ℕ) → list_all falls (flat_map (line_edges ms) (step_tree bits).items) ≡ true
unfolding rank
step_falls ms bits = refl

fifo_falls : (ms : List ModuleTree) (bits depth places : ℕ) → list_all falls (flat_map (line_edges ms) (fifo_tree bits depth places).items) ≡ true
unfolding rank
fifo_falls ms bits depth places = refl

-- the edges of an instance, by the ports of its module
instance_falls : (ms : List ModuleTree) (k i : Name) (connections : List Connection) (ports : List PortDecl) → ports_of ms k ≡ ports
    → list_all falls (map (connection_edge (map port_declared ports) i) connections) ≡ true → list_all falls (line_edges ms (Instance k i connections)) ≡ true
instance_falls ms k i connections ports e h = subst (λ q. list_all falls (map (connection_edge (map port_declared q) i) connections) ≡ true) (sym e) h

first_falls : (bits : ℕ) → list_all falls (map (connection_edge (map port_declared (relay_ports bits)) (codes "part_0")) first_part) ≡ true
unfolding rank clk rst connection_edge port_of
first_falls bits = refl

second_falls : (bits : ℕ) → list_all falls (map (connection_edge (map port_declared (relay_ports bits)) (codes "part_1")) second_of_two) ≡ true
unfolding rank clk rst connection_edge port_of
second_falls bits = refl

middle_falls : (bits : ℕ) → list_all falls (map (connection_edge (map port_declared (relay_ports bits)) (codes "part_1")) second_of_three) ≡ true
unfolding rank clk rst connection_edge port_of
middle_falls bits = refl

third_falls : (bits : ℕ) → list_all falls (map (connection_edge (map port_declared (relay_ports bits)) (codes "part_2")) third_part) ≡ true
unfolding rank clk rst connection_edge port_of
third_falls bits = refl

abbrev pub relay_joined : List Connection
relay_joined = relay_connections (codes "put") (codes "din") (codes "rdy_early") (codes "put_late") (codes "din_late") (codes "ready")

relay_falls : (bits : ℕ) → list_all falls (map (connection_edge (map port_declared (relay_ports bits)) (codes "relay")) relay_joined) ≡ true
unfolding rank clk rst connection_edge port_of
relay_falls bits = refl

abbrev pub plain_joined : List Connection
plain_joined = fifo_connections (codes "put") (codes "din") (codes "ready")

plain_fifo_falls : (bits : ℕ) → list_all falls (map (connection_edge (map port_declared (fifo_ports bits)) (codes "fifo")) plain_joined) ≡ true
unfolding rank clk rst connection_edge port_of
plain_fifo_falls bits = refl

abbrev pub late_joined : List Connection
late_joined = fifo_connections (codes "put_late") (codes "din_late") (codes "rdy_early")

late_fifo_falls : (bits : ℕ) → list_all falls (map (connection_edge (map port_declared (fifo_ports bits)) (codes "fifo")) late_joined) ≡ true
unfolding rank clk rst connection_edge port_of
late_fifo_falls bits = refl

even_falls : (ms : List ModuleTree) (bits steps half : ℕ) → ports_of ms (relay_name bits half) ≡ relay_ports bits → list_all falls (flat_map (line_edges ms) (even_tree bits steps half).items) ≡ true
even_falls ms bits steps half e =
    let k = relay_name bits half in
    all_append falls (line_edges ms (Instance k (codes "part_0") first_part)) (line_edges ms (Instance k (codes "part_1") second_of_two) ++ []) (instance_falls ms k (codes "part_0") first_part (relay_ports bits) e (first_falls bits))
    (all_append falls (line_edges ms (Instance k (codes "part_1") second_of_two)) [] (instance_falls ms k (codes "part_1") second_of_two (relay_ports bits) e (second_falls bits)) refl)

odd_falls : (ms : List ModuleTree) (bits steps half : ℕ) → ports_of ms (relay_name bits half) ≡ relay_ports bits → ports_of ms (relay_name bits 1) ≡ relay_ports bits
    → list_all falls (flat_map (line_edges ms) (odd_tree bits steps half).items) ≡ true
odd_falls ms bits steps half e f =
    let k = relay_name bits half in
    let one = relay_name bits 1 in
    all_append falls (line_edges ms (Instance k (codes "part_0") first_part)) (line_edges ms (Instance k (codes "part_1") second_of_three) ++ (line_edges ms (Instance one (codes "part_2") third_part) ++ []))
    (instance_falls ms k (codes "part_0") first_part (relay_ports bits) e (first_falls bits))
    (all_append falls (line_edges ms (Instance k (codes "part_1") second_of_three)) (line_edges ms (Instance one (codes "part_2") third_part) ++ [])
    (instance_falls ms k (codes "part_1") second_of_three (relay_ports bits) e (middle_falls bits))
    (all_append falls (line_edges ms (Instance one (codes "part_2") third_part)) [] (instance_falls ms one (codes "part_2") third_part (relay_ports bits) f (third_falls bits)) refl))

plain_falls : (ms : List ModuleTree) (bits depth : ℕ) → ports_of ms (fifo_name bits depth depth) ≡ fifo_ports bits → list_all falls (flat_map (line_edges ms) (plain_tree bits depth).items) ≡ true
unfolding rank
plain_falls ms bits depth e =
    let k = fifo_name bits depth depth in
    all_append falls (line_edges ms (Instance k (codes "fifo") plain_joined)) [] (instance_falls ms k (codes "fifo") plain_joined (fifo_ports bits) e (plain_fifo_falls bits)) refl

relayed_falls : (ms : List ModuleTree) (bits depth late : ℕ) → ports_of ms (relay_name bits late) ≡ relay_ports bits → ports_of ms (fifo_name bits depth (depth + 2 * late)) ≡ fifo_ports bits
    → list_all falls (flat_map (line_edges ms) (relayed_tree bits depth late).items) ≡ true
unfolding rank
relayed_falls ms bits depth late e f =
    let r = relay_name bits late in
    let k = fifo_name bits depth (depth + 2 * late) in
    all_append falls (line_edges ms (Instance r (codes "relay") relay_joined)) (line_edges ms (Instance k (codes "fifo") late_joined) ++ [])
    (instance_falls ms r (codes "relay") relay_joined (relay_ports bits) e (relay_falls bits))
    (all_append falls (line_edges ms (Instance k (codes "fifo") late_joined)) [] (instance_falls ms k (codes "fifo") late_joined (fifo_ports bits) f (late_fifo_falls bits)) refl)

-- ---- whole modules

module _ (ms : List ModuleTree) (is_top : Name → Bool) where
  -- a module by whose ranks no output rests on an input
  pub record IsCut (m : ModuleTree) : Type 0 where
    pub falls_by : FallsBy ms is_top m rank
    pub ports_ranked : list_all port_ranked m.ports ≡ true

  pub no_way : (m : ModuleTree) → IsCut m → (x y : Name) → net_kind_of (map port_declared m.ports) x ≡ Output → net_kind_of (map port_declared m.ports) y ≡ Input → Rests ms is_top m x y → ⊥
  no_way m c x y out into r =
      let low : rank y < rank x = lower ms is_top r rank c.falls_by in
      let a : rank x ≤ 2 = (ranked m.ports c.ports_ranked x).0 out in
      let b : 2 ≤ rank y = (ranked m.ports c.ports_ranked y).1 into in
      absurd (omega arith)

  -- the module of each instance is found and cut
  abbrev pub ChildrenAreCut : ModuleTree → Type 0
  ChildrenAreCut m = (kn i : Name) → Has (instances m) (kn, i) → (k : ModuleTree) × (module_named ms kn ≡ Some k) × IsCut k

  some_same : (o : Option ModuleTree) (a b : ModuleTree) → o ≡ Some a → o ≡ Some b → a ≡ b
  some_same o a b e f = let t : Some a ≡ Some b = sym e ∙ f in cc

  cut : (m : ModuleTree) → list_all falls (flat_map (line_edges ms) m.items) ≡ true → ((b : Bool) → list_all falls (memory_edges b (map port_declared m.ports)) ≡ true) → list_all port_ranked m.ports ≡ true
      → ChildrenAreCut m → IsCut m
  cut m edges memories ports children = record {
    falls_by = record {
      direct = λ x y h.
          ltb-true (rank y) (rank x)
          (all_have falls (direct_edges ms is_top m) (x, y) (all_append falls (flat_map (line_edges ms) m.items) (memory_edges (is_top m.name) (map port_declared m.ports)) edges (memories (is_top m.name))) h);
      inside = λ kn i x y k h named out into r.
          let c = children kn i h in
          let same : c.0 ≡ k = some_same (module_named ms kn) c.0 k c.1 named in
          absurd (no_way k (subst IsCut same c.2) x y out into r);
    };
    ports_ranked = ports;
  }

  pub cut_step : (bits : ℕ) → IsCut (step_tree bits)
  cut_step bits = cut (step_tree bits) (step_falls ms bits) (λ b. (no_memories b bits).0) (relay_ranked bits) (λ kn i h. absurd h)

  pub cut_fifo : (bits depth places : ℕ) → IsCut (fifo_tree bits depth places)
  cut_fifo bits depth places = cut (fifo_tree bits depth places) (fifo_falls ms bits depth places) (λ b. (no_memories b bits).1) (fifo_ranked bits) (λ kn i h. absurd h)

  ports_are : (kn : Name) (k : ModuleTree) (ps : List PortDecl) → module_named ms kn ≡ Some k → k.ports ≡ ps → ports_of ms kn ≡ ps
  ports_are kn k ps e f = (known_by ms kn k e).1 ∙ f

  abbrev IsFoundCut : Name → List PortDecl → Type 0
  IsFoundCut kn ps = (k : ModuleTree) × (module_named ms kn ≡ Some k) × IsCut k × (k.ports ≡ ps)

  of_child : (kn kn_too : Name) (ps : List PortDecl) → kn ≡ kn_too → IsFoundCut kn ps → (k : ModuleTree) × (module_named ms kn_too ≡ Some k) × IsCut k
  of_child kn kn_too ps e c = (c.0, ap (module_named ms) (sym e) ∙ c.1, c.2)

  abbrev first_name : Name × Name → Name
  first_name q = q.0

  pub cut_even : (bits steps half : ℕ) → IsFoundCut (relay_name bits half) (relay_ports bits) → IsCut (even_tree bits steps half)
  cut_even bits steps half c =
      cut (even_tree bits steps half) (even_falls ms bits steps half (ports_are (relay_name bits half) c.0 (relay_ports bits) c.1 c.3)) (λ b. (no_memories b bits).0) (relay_ranked bits) children where
        children : ChildrenAreCut (even_tree bits steps half)
        children kn i (inl e) = of_child (relay_name bits half) kn (relay_ports bits) (ap first_name e) c
        children kn i (inr (inl e)) = of_child (relay_name bits half) kn (relay_ports bits) (ap first_name e) c
        children kn i (inr (inr h)) = absurd h

  pub cut_odd : (bits steps half : ℕ) → IsFoundCut (relay_name bits half) (relay_ports bits) → IsFoundCut (relay_name bits 1) (relay_ports bits) → IsCut (odd_tree bits steps half)
  cut_odd bits steps half c d =
      cut (odd_tree bits steps half)
      (odd_falls ms bits steps half (ports_are (relay_name bits half) c.0 (relay_ports bits) c.1 c.3) (ports_are (relay_name bits 1) d.0 (relay_ports bits) d.1 d.3)) (λ b. (no_memories b bits).0) (relay_ranked bits) children where
        children : ChildrenAreCut (odd_tree bits steps half)
        children kn i (inl e) = of_child (relay_name bits half) kn (relay_ports bits) (ap first_name e) c
        children kn i (inr (inl e)) = of_child (relay_name bits half) kn (relay_ports bits) (ap first_name e) c
        children kn i (inr (inr (inl e))) = of_child (relay_name bits 1) kn (relay_ports bits) (ap first_name e) d
        children kn i (inr (inr (inr h))) = absurd h

  pub cut_plain : (bits depth : ℕ) → IsFoundCut (fifo_name bits depth depth) (fifo_ports bits) → IsCut (plain_tree bits depth)
  cut_plain bits depth c =
      cut (plain_tree bits depth) (plain_falls ms bits depth (ports_are (fifo_name bits depth depth) c.0 (fifo_ports bits) c.1 c.3)) (λ b. (no_memories b bits).2) (outer_ranked bits) children where
        children : ChildrenAreCut (plain_tree bits depth)
        children kn i (inl e) = of_child (fifo_name bits depth depth) kn (fifo_ports bits) (ap first_name e) c
        children kn i (inr h) = absurd h

  pub cut_relayed : (bits depth late : ℕ) → IsFoundCut (relay_name bits late) (relay_ports bits) → IsFoundCut (fifo_name bits depth (depth + 2 * late)) (fifo_ports bits) → IsCut (relayed_tree bits depth late)
  cut_relayed bits depth late c d =
      cut (relayed_tree bits depth late)
      (relayed_falls ms bits depth late (ports_are (relay_name bits late) c.0 (relay_ports bits) c.1 c.3) (ports_are (fifo_name bits depth (depth + 2 * late)) d.0 (fifo_ports bits) d.1 d.3)) (λ b. (no_memories b bits).2) (outer_ranked bits)
      children where
        children : ChildrenAreCut (relayed_tree bits depth late)
        children kn i (inl e) = of_child (relay_name bits late) kn (relay_ports bits) (ap first_name e) c
        children kn i (inr (inl e)) = of_child (fifo_name bits depth (depth + 2 * late)) kn (fifo_ports bits) (ap first_name e) d
        children kn i (inr (inr h)) = absurd h
