-- The scalars, memories and streams of the top.
use Rattle.std.proofs.Common.{◌≡◌, ℕ, ◌+◌, ◌<◌, true, cond, eqb, ◌&&◌, List, [], ◌∷◌, ◌++◌, length, Option, Some, None, inl, inr, refl, ap, ◌∙◌, arith, append_assoc}
use Rattle.std.specs.Prelude.{map, nat_le, slice_get}
use Rattle.std.specs.List.{flat_map}
use Rattle.std.proofs.lemmas.Bool.{le-leb, and_from as yes_and}
use Rattle.std.proofs.lemmas.List.{append-nil}
use Rattle.tapa_base.specs.declared.shape.Port.{Port}
use Rattle.tapa_base.specs.Kinds.{bits_of}
use Rattle.tapa_syntax.specs.declared.program.Memory.{Memory}
use Rattle.tapa_syntax.specs.declared.program.Program.{Program}
use Rattle.tapa_syntax.specs.declared.program.Scalar.{Scalar}
use Rattle.tapa_syntax.specs.declared.program.Stream.{Stream}
use Rattle.task_fsm.specs.declared.machine.Fsm.{Fsm}
use Rattle.vlog_tree.specs.declared.tree.Item.{Item}
use Rattle.vlog_tree.specs.declared.tree.PortDecl.{PortDecl}
use Rattle.vlog_tree.specs.declared.table.Declaration.{Declaration}
use Rattle.vlog_tree.specs.declared.table.NetKind.TheVariants.{Input as InputNet, WireNet}
use Rattle.vlog_tree.specs.Environment.{scalar_label, memory_label, is_stream, is_bit_wire, stream_label as stream_label_of, item_stream}
use Rattle.vlog_tree.specs.Form.{ModuleTree}
use Rattle.tapa_base.specs.Lists.{Has}
use Rattle.vlog_tree.specs.Labels.{rst, done, scalar, scalar_of, ack_of, din_of, m_ack, m_rdata, m_addr, m_wdata, m_we, s_din, s_wr, s_rdy}
use Rattle.vlog_tree.specs.Table.{Name, clk, declared, find_name, net_kind_is_wire, bits_of as bits_in}
use Rattle.tapa_base.proofs.Lists.{has_left, has_right, has_flat}
use Rattle.vlog_module_laws.proofs.Labelled.{labels}
use Rattle.hw_build.specs.Elements.{Element, Input, Wire, InstanceWire, empty, element_ports, element_items}
use Rattle.hw_build.specs.Fitting.{declarations, first_table}
use Rattle.hw_build.proofs.Right.{table, all_once}
use Rattle.hw_build.proofs.Tables.{stays_new, found, items_of_all, ports_of_all}
use Rattle.hw_build.specs.Scope.{each}
use Rattle.hw_build.specs.Fits.{declared_names}
use Rattle.hw_top_laws.specs.joins.Joins.{input_port, output_port}
use Rattle.hw_lines.specs.Texts.{task_name}
use Rattle.hw_top_lines.specs.Legal.{scalar_ports, memory_ports as memory_shapes, stream_ports, IsReady}
use Rattle.hw_top_lines.specs.Names.{s_has, s_dout}
use Rattle.hw_top_lines.specs.Bounds.{parameters}
use Rattle.hw_top_lines.specs.Texts.{scalar_port, memory_ports, ports, token_bits, stream_wires, take_wire, at_instance, ended_wire, doneness, wires, instances, top_elements, top_tree}
use Rattle.hw_top_laws.specs.modules.Lower.{lower_modules, KeepPromises}
use Rattle.hw_top_laws.proofs.names.Made.{sort, scalar_sort, addr_names, wdata_names, we_names, ack_names, rdata_names, clk_sort, rst_sort, done_sort, wr_names, rdy_names, has_names, dout_names}
use Rattle.hw_top_laws.proofs.names.Top.{rest_sorts, done_sorts}
use Rattle.hw_top_laws.proofs.form.Drives.{ports_none, wires_none, done_none, instances_none}
use Rattle.hw_top_laws.proofs.form.Standing.{stream_there, memory_there, scalars, memories, streams}
use Rattle.hw_top_laws.proofs.form.Whole.{tops_are_fitting}
use Rattle.hw_top_laws.specs.design.Outside.{TopsHaveScalars, TopsHaveMemories, TopsHaveStreams}
use Rattle.hw_top_laws.proofs.design.OutsideParts.{flat_flat, flat_none, flat_both, flat_each, gives, each_given, each_nothing, no_scalar, no_ack, no_din}
use Rattle.hw_top_laws.proofs.modules.Channels.{some_bit}
use Rattle.tapa_base.proofs.Tests.{few_bits}
use Rattle.tapa_base.proofs.Got.{got_left, get_right as got_right, got_map}

-- a name is not empty
some_bytes : (x : Name) → (x ≡ [] → ⊥) → 0 < length x
some_bytes [] h = absurd (h refl)
some_bytes (c ∷ x) h = omega arith

module _ (program : Program) (machines : List Fsm) (added : List ℕ) (ready : IsReady program machines added) (kept : KeepPromises program machines) where
  abbrev top : List Element
  top = top_elements program added

  abbrev tree : ModuleTree
  tree = top_tree program added

  tree_ports : tree.ports ≡ (empty (task_name program.top)).ports ++ flat_map element_ports top
  tree_ports = ports_of_all top (empty (task_name program.top))

  tree_items : tree.items ≡ flat_map element_items top
  tree_items = items_of_all top (empty (task_name program.top))

  pub scalar_long : (k : ℕ) (c : Scalar) → slice_get program.scalars.items k ≡ Some c → 0 < length c.name
  scalar_long k c e =
      some_bytes c.name (ready.told_apart.parameters_written k c.name (got_left (map (λ (c : Scalar). c.name) program.scalars.items) (map (λ (m : Memory). m.name) program.memories.items) k c.name (got_map (λ (c : Scalar). c.name) program.scalars.items k c e))).1

  pub memory_long : (k : ℕ) (m : Memory) → slice_get program.memories.items k ≡ Some m → 0 < length m.name
  memory_long k m e =
      let front = map (λ (c : Scalar). c.name) program.scalars.items in
      some_bytes m.name
      (ready.told_apart.parameters_written (length front + k) m.name (got_right front (map (λ (m : Memory). m.name) program.memories.items) k m.name (got_map (λ (m : Memory). m.name) program.memories.items k m e))).1

  stream_long : (k : ℕ) (r : Stream) → slice_get program.streams.items k ≡ Some r → 0 < length r.label
  stream_long k r e = some_bytes r.label (ready.told_apart.streams_written k r.label (got_map (λ (r : Stream). r.label) program.streams.items k r e)).1

  -- ---- ports

  module _ (G : PortDecl → List Port) where
    abbrev of_element : Element → List Port
    of_element e = flat_map G (element_ports e)

    -- the ports of the top, part by part
    over_ports : (us vs : List Port) → flat_map G (empty (task_name program.top)).ports ≡ [] → G (output_port 1 done) ≡ [] → flat_map of_element (scalars program) ≡ us → flat_map of_element (memories program) ≡ vs → flat_map G tree.ports ≡ us ++ vs
    over_ports us vs first last e f =
        ap (λ (l : List PortDecl). flat_map G l) tree_ports
        ∙ flat_both G (empty (task_name program.top)).ports (flat_map element_ports top) [] (us ++ vs) first
        (flat_flat G element_ports top
        ∙ flat_both of_element (ports program ++ wires program ++ doneness program) (instances program added) (us ++ vs) []
        (flat_both of_element (ports program ++ wires program) (doneness program) (us ++ vs) []
        (flat_both of_element (ports program) (wires program) (us ++ vs) [] (flat_both of_element (scalars program) (memories program) us vs e f) (wires_none of_element (λ w x v. refl) program (λ w x. refl)) ∙ append-nil (us ++ vs))
        (done_none of_element (λ w x v. refl) program (λ v. ap (λ l. l ++ []) last)) ∙ append-nil (us ++ vs)) (instances_none of_element (λ k i ls. refl) program added)
        ∙ append-nil (us ++ vs))

  -- scalars
  abbrev of_scalar : PortDecl → List Port
  of_scalar p = scalar_label p (scalar_of p.name)

  scalar_none : (p : PortDecl) → (sort p.name ≡ 2 → ⊥) → of_scalar p ≡ []
  scalar_none p h = ap (scalar_label p) (no_scalar p.name h)

  abbrev scalar_given : Scalar → Port
  scalar_given c = record { name = c.name; bits = bits_of c.kind }

  scalar_at : (k : ℕ) (o : Option Scalar) → slice_get program.scalars.items k ≡ o → flat_map (of_element of_scalar) (scalar_port o) ≡ gives scalar_given o
  scalar_at k None e = refl
  scalar_at k (Some c) e =
      let p = input_port (bits_of c.kind) (scalar c.name) in
      rw (ap (scalar_label p) (labels.scalars.there c.name (scalar_long k c e))) refl

  no_scalar_at : (k : ℕ) (o : Option Memory) → flat_map (of_element of_scalar) (memory_ports o) ≡ []
  no_scalar_at k None = refl
  no_scalar_at k (Some m) =
      let b = bits_of m.kind in
      let e1 = scalar_none (output_port 64 (m_addr m.name)) (λ s. let t = addr_names.sorts m.name in omega (arith, s, t)) in
      let e2 = scalar_none (output_port b (m_wdata m.name)) (λ s. let t = wdata_names.sorts m.name in omega (arith, s, t)) in
      let e3 = scalar_none (output_port 1 (m_we m.name)) (λ s. let t = we_names.sorts m.name in omega (arith, s, t)) in
      let e4 = scalar_none (input_port 1 (m_ack m.name)) (λ s. let t = ack_names.sorts m.name in omega (arith, s, t)) in
      let e5 = scalar_none (input_port b (m_rdata m.name)) (λ s. let t = rdata_names.sorts m.name in omega (arith, s, t)) in
      rw (e1, e2, e3, e4, e5) refl

  first_scalars : flat_map of_scalar (empty (task_name program.top)).ports ≡ []
  first_scalars =
      ap (λ l. l ++ (of_scalar (input_port 1 rst) ++ [])) (scalar_none (input_port 1 clk) (λ s. let t = clk_sort in omega (arith, s, t)))
      ∙ ap (λ l. l ++ []) (scalar_none (input_port 1 rst) (λ s. let t = rst_sort in omega (arith, s, t)))

  pub scalars_are : flat_map of_scalar tree.ports ≡ scalar_ports program
  scalars_are =
      over_ports of_scalar (scalar_ports program) [] first_scalars (scalar_none (output_port 1 done) (λ s. let t = done_sort in omega (arith, s, t)))
      (flat_each (of_element of_scalar) (λ x. scalar_port (slice_get program.scalars.items x)) (λ x. gives scalar_given (slice_get program.scalars.items x)) (length program.scalars.items) (λ k l. scalar_at k (slice_get program.scalars.items k) refl)
      ∙ each_given scalar_given program.scalars.items)
      (flat_each (of_element of_scalar) (λ m. memory_ports (slice_get program.memories.items m)) (λ m. []) (length program.memories.items) (λ k l. no_scalar_at k (slice_get program.memories.items k)) ∙ each_nothing (length program.memories.items))
      ∙ append-nil (scalar_ports program)

  -- ---- what is declared

  in_tree : (e : Element) (d : Declaration) → Has top e → Has (declarations e) d → find_name (declared tree) d.name ≡ d
  in_tree e d h k =
      let fit = tops_are_fitting program machines added ready kept in
      found (declared tree) d ((table (lower_modules program machines added) (task_name program.top) top fit).has d (stays_new top first_table e d h k)) (all_once (lower_modules program machines added) (task_name program.top) top fit d.name)

  port_there : (e : Element) → Has (ports program) e → Has top e
  port_there e h = has_left (ports program ++ wires program ++ doneness program) (instances program added) e (has_left (ports program ++ wires program) (doneness program) e (has_left (ports program) (wires program) e h))

  wire_there : (e : Element) → Has (wires program) e → Has top e
  wire_there e h = has_left (ports program ++ wires program ++ doneness program) (instances program added) e (has_left (ports program ++ wires program) (doneness program) e (has_right (ports program) (wires program) e h))

  -- memories
  abbrev of_memory : PortDecl → List Port
  of_memory p = memory_label (declared tree) (ack_of p.name)

  memory_none : (p : PortDecl) → (sort p.name ≡ 6 → ⊥) → of_memory p ≡ []
  memory_none p h = ap (memory_label (declared tree)) (no_ack p.name h)

  abbrev memory_given : Memory → Port
  memory_given m = record { name = m.name; bits = bits_of m.kind }

  cell_bits : (k : ℕ) (m : Memory) → slice_get program.memories.items k ≡ Some m → bits_in (declared tree) (m_rdata m.name) ≡ bits_of m.kind
  cell_bits k m e =
      let b = bits_of m.kind in
      let d : Declaration = record { name = m_rdata m.name; net_kind = InputNet; bits = b; cells = 0 } in
      ap (λ (z : Declaration). z.bits) (in_tree (Input b (m_rdata m.name)) d (port_there _ (memory_there program k m e (Input b (m_rdata m.name)) (inr (inr (inr (inr (inl refl))))))) (inl refl))

  memory_at : (k : ℕ) (o : Option Memory) → slice_get program.memories.items k ≡ o → flat_map (of_element of_memory) (memory_ports o) ≡ gives memory_given o
  memory_at k None e = refl
  memory_at k (Some m) e =
      let b = bits_of m.kind in
      let e1 = memory_none (output_port 64 (m_addr m.name)) (λ s. let t = addr_names.sorts m.name in omega (arith, s, t)) in
      let e2 = memory_none (output_port b (m_wdata m.name)) (λ s. let t = wdata_names.sorts m.name in omega (arith, s, t)) in
      let e3 = memory_none (output_port 1 (m_we m.name)) (λ s. let t = we_names.sorts m.name in omega (arith, s, t)) in
      let e4 : of_memory (input_port 1 (m_ack m.name)) ≡ memory_given m ∷ [] =
      ap (memory_label (declared tree)) (labels.acks.there m.name (memory_long k m e)) ∙ ap (λ n. record { name = m.name; bits = n } ∷ []) (cell_bits k m e) in
      let e5 = memory_none (input_port b (m_rdata m.name)) (λ s. let t = rdata_names.sorts m.name in omega (arith, s, t)) in
      rw (e1, e2, e3, e4, e5) refl

  no_memory_at : (o : Option Scalar) → flat_map (of_element of_memory) (scalar_port o) ≡ []
  no_memory_at None = refl
  no_memory_at (Some c) = rw (memory_none (input_port (bits_of c.kind) (scalar c.name)) (λ s. let t = scalar_sort c.name in omega (arith, s, t))) refl

  first_memories : flat_map of_memory (empty (task_name program.top)).ports ≡ []
  first_memories =
      ap (λ l. l ++ (of_memory (input_port 1 rst) ++ [])) (memory_none (input_port 1 clk) (λ s. let t = clk_sort in omega (arith, s, t)))
      ∙ ap (λ l. l ++ []) (memory_none (input_port 1 rst) (λ s. let t = rst_sort in omega (arith, s, t)))

  pub memories_are : flat_map of_memory tree.ports ≡ memory_shapes program
  memories_are =
      over_ports of_memory [] (memory_shapes program) first_memories (memory_none (output_port 1 done) (λ s. let t = done_sort in omega (arith, s, t)))
      (flat_each (of_element of_memory) (λ x. scalar_port (slice_get program.scalars.items x)) (λ x. []) (length program.scalars.items) (λ k l. no_memory_at (slice_get program.scalars.items k)) ∙ each_nothing (length program.scalars.items))
      (flat_each (of_element of_memory) (λ m. memory_ports (slice_get program.memories.items m)) (λ m. gives memory_given (slice_get program.memories.items m)) (length program.memories.items)
      (λ k l. memory_at k (slice_get program.memories.items k) refl)
      ∙ each_given memory_given program.memories.items)

  -- ---- streams

  abbrev of_item : Item → List Port
  of_item it = item_stream (declared tree) it

  abbrev of_lines : Element → List Port
  of_lines e = flat_map of_item (element_items e)

  other_wire : (w : ℕ) (x : Name) → (sort x ≡ 8 → ⊥) → stream_label_of (declared tree) w (din_of x) ≡ []
  other_wire w x h = ap (stream_label_of (declared tree) w) (no_din x h)

  other_lines : (e : Element) → ((y : Name) → Has (declared_names e) y → sort y ≡ 8 → ⊥) → of_lines e ≡ []
  other_lines (Wire w x v) h = ap (λ l. l ++ []) (other_wire w x (h x (inl refl)))
  other_lines (InstanceWire w x) h = ap (λ l. l ++ []) (other_wire w x (h x (inl refl)))
  other_lines _ h = refl

  others : (es : List Element) → ((y : Name) → Has (flat_map declared_names es) y → sort y ≡ 8 → ⊥) → flat_map of_lines es ≡ []
  others es h = flat_none of_lines es (λ e k. other_lines e (λ y i. h y (has_flat declared_names es e y k i)))

  bit_wire : (k : ℕ) (r : Stream) → slice_get program.streams.items k ≡ Some r → (x : Name) → Has (stream_wires (Some r)) (InstanceWire 1 x) → is_bit_wire (declared tree) x ≡ true
  bit_wire k r e x h =
      let d : Declaration = record { name = x; net_kind = WireNet; bits = 1; cells = 0 } in
      let f = in_tree (InstanceWire 1 x) d (wire_there (InstanceWire 1 x) (stream_there program k r e (InstanceWire 1 x) h)) (inl refl) in
      ap (λ (z : Declaration). net_kind_is_wire z.net_kind && eqb z.bits 1) f

  stream_is : (k : ℕ) (r : Stream) → slice_get program.streams.items k ≡ Some r → is_stream (declared tree) (token_bits r.kind) (s_wr r.label) (s_rdy r.label) ≡ true
  unfolding is_stream
  stream_is k r e =
      let w = token_bits r.kind in
      let a = some_bit r.kind in
      let b = few_bits r.kind in
      let ds = declared tree in
      yes_and (nat_le 2 w && nat_le w 65 && is_bit_wire ds (s_wr r.label)) (is_bit_wire ds (s_rdy r.label))
      (yes_and (nat_le 2 w && nat_le w 65) (is_bit_wire ds (s_wr r.label)) (yes_and (nat_le 2 w) (nat_le w 65) (le-leb 2 w (omega (arith, a))) (le-leb w 65 (omega (arith, b)))) (bit_wire k r e (s_wr r.label) (inr (inl refl))))
      (bit_wire k r e (s_rdy r.label) (inr (inr (inl refl))))

  abbrev stream_given : Stream → Port
  stream_given r = record { name = r.label; bits = token_bits r.kind }

  next_line : (e : Element) (es : List Element) (us vs : List Port) → of_lines e ≡ us → flat_map of_lines es ≡ vs → flat_map of_lines (e ∷ es) ≡ us ++ vs
  next_line e es us vs h k = ap (λ l. l ++ flat_map of_lines es) h ∙ ap (λ l. us ++ l) k

  stream_at : (k : ℕ) (o : Option Stream) → slice_get program.streams.items k ≡ o → flat_map of_lines (stream_wires o) ≡ gives stream_given o
  stream_at k None e = refl
  stream_at k (Some r) e =
      let w = token_bits r.kind in
      let rest = InstanceWire 1 (s_wr r.label) ∷ InstanceWire 1 (s_rdy r.label) ∷ InstanceWire 1 (s_has r.label) ∷ InstanceWire w (s_dout r.label) ∷ [] in
      let own : of_lines (InstanceWire w (s_din r.label)) ≡ stream_given r ∷ [] =
      ap (λ o. stream_label_of (declared tree) w o ++ []) (labels.dins.there r.label (stream_long k r e))
      ∙ ap (λ b. cond b (stream_given r ∷ []) [] ++ []) (stream_is k r e) in
      next_line (InstanceWire w (s_din r.label)) rest (stream_given r ∷ []) [] own (others rest no_others) where
        no_others : (y : Name) → Has (s_wr r.label ∷ s_rdy r.label ∷ s_has r.label ∷ s_dout r.label ∷ []) y → sort y ≡ 8 → ⊥
        no_others y (inl f) s = let t = wr_names.sorts r.label in let u = ap sort f in omega (arith, s, t, u)
        no_others y (inr (inl f)) s = let t = rdy_names.sorts r.label in let u = ap sort f in omega (arith, s, t, u)
        no_others y (inr (inr (inl f))) s = let t = has_names.sorts r.label in let u = ap sort f in omega (arith, s, t, u)
        no_others y (inr (inr (inr (inl f)))) s = let t = dout_names.sorts r.label in let u = ap sort f in omega (arith, s, t, u)
        no_others y (inr (inr (inr (inr n)))) s = absurd n

  pub streams_are : flat_map of_item tree.items ≡ stream_ports program
  streams_are =
      let n = length program.instances.items in
      let bounds = each (at_instance program (parameters program)) n in
      let ends = each ended_wire n in
      let takes = each (λ s. take_wire (slice_get program.streams.items s)) (length program.streams.items) in
      let all : flat_map of_lines (streams program) ≡ stream_ports program =
      flat_each of_lines (λ s. stream_wires (slice_get program.streams.items s)) (λ s. gives stream_given (slice_get program.streams.items s)) (length program.streams.items) (λ k l. stream_at k (slice_get program.streams.items k) refl)
      ∙ each_given stream_given program.streams.items in
      let behind : flat_map of_lines (bounds ++ ends ++ takes) ≡ [] =
      others (bounds ++ ends ++ takes) (λ y h s. let t = rest_sorts program ready.told_apart ready.well_formed added ready.countable y h in omega (arith, s, t)) in
      let at_end : flat_map of_lines (doneness program) ≡ [] = others (doneness program) (λ y h s. let t = done_sorts program ready.told_apart ready.well_formed added ready.countable y h in omega (arith, s, t)) in
      let grouped : wires program ≡ streams program ++ (bounds ++ ends ++ takes) = ap (λ l. l ++ takes) (append_assoc (streams program) bounds ends) ∙ append_assoc (streams program) (bounds ++ ends) takes in
      let in_wires : flat_map of_lines (wires program) ≡ stream_ports program =
      ap (λ (l : List Element). flat_map of_lines l) grouped ∙ flat_both of_lines (streams program) (bounds ++ ends ++ takes) (stream_ports program) [] all behind ∙ append-nil (stream_ports program) in
      ap (λ (l : List Item). flat_map of_item l) tree_items ∙ flat_flat of_item element_items top
      ∙ flat_both of_lines (ports program ++ wires program ++ doneness program) (instances program added) (stream_ports program) []
      (flat_both of_lines (ports program ++ wires program) (doneness program) (stream_ports program) []
      (flat_both of_lines (ports program) (wires program) [] (stream_ports program) (ports_none of_lines (λ w x. refl) (λ w x. refl) program) in_wires) at_end ∙ append-nil (stream_ports program))
      (instances_none of_lines (λ k i ls. refl) program added)
      ∙ append-nil (stream_ports program)

pub tops_have_scalars : TopsHaveScalars
tops_have_scalars program machines added ready kept = scalars_are program machines added ready kept

pub tops_have_memories : TopsHaveMemories
tops_have_memories program machines added ready kept = memories_are program machines added ready kept

pub tops_have_streams : TopsHaveStreams
tops_have_streams program machines added ready kept = streams_are program machines added ready kept
