-- The nets of a design's top that its surroundings read: done, and those of streams and of memories around it.
use Rattle.std.proofs.Common.{◌≡◌, ℕ, ◌≤◌, Bool, true, false, cond, ◌&&◌, List, [], ◌∷◌, Option, Some, None, map, inl, inr, refl, sym, ap, subst, ◌∙◌}
use Rattle.std.specs.Prelude.{◌==◌, codes, nat_le, not, slice_get}
use Rattle.std.proofs.lemmas.Bool.{leb-true}
use Rattle.tapa_base.specs.declared.shape.Port.{Port}
use Rattle.vlog_tree.specs.declared.tree.Item.{Item}
use Rattle.vlog_tree.specs.declared.tree.Item.TheVariants.{Wire, Reg, Memory, Assign, Always, Instance}
use Rattle.vlog_tree.specs.declared.table.Declaration.{Declaration}
use Rattle.vlog_tree.specs.declared.table.NetKind.{NetKind}
use Rattle.vlog_tree.specs.declared.table.NetKind.TheVariants.{Unknown, Input, Output, WireNet, Register, MemoryArray, ChildInstance}
use Rattle.vlog_tree.specs.Form.{ModuleTree}
use Rattle.tapa_base.specs.Lists.{Has}
use Rattle.vlog_tree.specs.Environment.{shape_of, streams_of, is_bit_wire, is_stream, stream_label, item_stream}
use Rattle.vlog_tree.specs.Labels.{done, m_ack, m_we, m_addr, m_wdata, s_wr, s_rdy, s_din, din_of}
use Rattle.vlog_tree.specs.Table.{Name, clk, is_clk, declared, port_declared, items_declared, net_kind_of, net_kind_is_read, net_kind_is_wire, bits_of, first_violation}
use Rattle.vlog_tree.specs.Refused.{IsDesign}
use Rattle.vlog_tree.specs.V6.{v6_uses, module_tops, is_top, is_whole_top, has_port}
use Rattle.tapa_base.proofs.Lists.{of_flat}
use Rattle.vlog_run_laws.proofs.runs.Sizes.{declared_net_kind, has_line}
use Rattle.vlog_run_laws.proofs.runs.Cycles.{port_stands}
use Rattle.vlog_tree.proofs.Labelled.{labelled}
use Rattle.vlog_run_laws.proofs.runs.TopPorts.{use_right, five_of, memory_clock}
use Rattle.vlog_run_laws.proofs.runs.Settled.{IsTopTree, top_tree}
use Rattle.cycle_sim.proofs.Asking.{five_ports}
use Rattle.vlog_run_laws.proofs.runs.Surround.{clock_of_ack as ack_clock, clock_of_wdata as wdata_clock, clock_of_we as we_clock}
use Rattle.tapa_base.proofs.Tests.{not_no, both_true}

wr_clock : (l : Name) → is_clk (s_wr l) ≡ false
unfolding s_wr clk
wr_clock l = refl

rdy_clock : (l : Name) → is_clk (s_rdy l) ≡ false
unfolding s_rdy clk
rdy_clock l = refl

din_clock : (l : Name) → is_clk (s_din l) ≡ false
unfolding s_din clk
din_clock l = refl

pub done_clock : is_clk done ≡ false
unfolding done clk
done_clock = refl

din_label : (x l : Name) → din_of x ≡ Some l → x ≡ s_din l
unfolding din_of s_din
din_label x l h = (labelled (codes "s_") (codes "_din") x l h).is

wire_is_read : (k : NetKind) → net_kind_is_wire k ≡ true → net_kind_is_read k ≡ true
wire_is_read Unknown h = cc
wire_is_read Input h = cc
wire_is_read Output h = cc
wire_is_read WireNet h = refl
wire_is_read Register h = cc
wire_is_read MemoryArray h = cc
wire_is_read ChildInstance h = cc

-- what a design says of a stream of its top
record IsStreamLine (m : ModuleTree) (l : Port) : Type 0 where
  width : ℕ
  name : Name
  line : Has m.items (Wire width name)
  label : din_of name ≡ Some l.name
  wide : l.bits ≡ width
  stream : is_stream (declared m) width (s_wr l.name) (s_rdy l.name) ≡ true

abbrev labelled_port : Name → ℕ → Port
labelled_port x w = record { name = x; bits = w }

stream_here : (m : ModuleTree) (w : ℕ) (y x : Name) (l : Port) (b : Bool) → is_stream (declared m) w (s_wr x) (s_rdy x) ≡ b → din_of y ≡ Some x → Has m.items (Wire w y) → Has (cond b (labelled_port x w ∷ []) []) l → IsStreamLine m l
stream_here m w y x l true e label line (inl is) =
    let name : x ≡ l.name = ap (λ (k : Port). k.name) is in
    record {
      width = w;
      name = y;
      line = line;
      label = label ∙ ap (λ z. Some z) name;
      wide = ap (λ (k : Port). k.bits) (sym is);
      stream = subst (λ z. is_stream (declared m) w (s_wr z) (s_rdy z) ≡ true) name e;
    }
stream_here m w y x l true e label line (inr h) = absurd h
stream_here m w y x l false e label line h = absurd h

stream_by : (m : ModuleTree) (w : ℕ) (y : Name) (l : Port) (o : Option Name) → din_of y ≡ o → Has m.items (Wire w y) → Has (stream_label (declared m) w o) l → IsStreamLine m l
stream_by m w y l None e line h = absurd h
stream_by m w y l (Some x) e line h = stream_here m w y x l (is_stream (declared m) w (s_wr x) (s_rdy x)) refl e line h

stream_of : (m : ModuleTree) (l : Port) (it : Item) → Has m.items it → Has (item_stream (declared m) it) l → IsStreamLine m l
stream_of m l (Wire w y) line h = stream_by m w y l (din_of y) refl line h
stream_of m l (Reg w y) line h = absurd h
stream_of m l (Memory w y n) line h = absurd h
stream_of m l (Assign y e) line h = absurd h
stream_of m l (Always b) line h = absurd h
stream_of m l (Instance k i connections) line h = absurd h

stream_line : (m : ModuleTree) (l : Port) → Has (streams_of m) l → IsStreamLine m l
stream_line m l h = let t = of_flat (item_stream (declared m)) m.items l h in stream_of m l t.0 t.1 t.2

-- the bits of a stream's din, and that its wr and rdy are wires
stream_parts : (ds : List Declaration) (w : ℕ) (wr rdy : Name) → is_stream ds w wr rdy ≡ true → (nat_le 2 w ≡ true) × (nat_le w 65 ≡ true) × (net_kind_is_wire (net_kind_of ds wr) ≡ true) × (net_kind_is_wire (net_kind_of ds rdy) ≡ true)
unfolding is_stream
stream_parts ds w wr rdy h =
    let a = both_true _ (is_bit_wire ds rdy) h in
    let b = both_true _ (is_bit_wire ds wr) a.0 in
    let c = both_true (nat_le 2 w) (nat_le w 65) b.0 in
    (c.0, c.1, (both_true (net_kind_is_wire (net_kind_of ds wr)) (bits_of ds wr == 1) b.1).0, (both_true (net_kind_is_wire (net_kind_of ds rdy)) (bits_of ds rdy == 1) a.1).0)

module _ (ms : List ModuleTree) (tops : first_violation (v6_uses ms) ≡ None) (m : ModuleTree) (in_ms : Has ms m) (top : is_top ms m.name ≡ true) where
  abbrev ports : List Declaration
  ports = map port_declared m.ports

  -- the top has a port done
  has_done : has_port ports done ≡ true
  unfolding module_tops is_whole_top
  has_done = of_use (use_right ms tops m in_ms (m.name, is_top ms m.name && not (is_whole_top ms ports)) (by_module refl)) where
    by_module : {u : Name × Bool} → u ≡ (m.name, is_top ms m.name && not (is_whole_top ms ports)) → Has (module_tops ms m) u
    by_module e = inl (sym e)

    of_use : (is_top ms m.name && not (is_whole_top ms ports)) ≡ false → has_port ports done ≡ true
    of_use h =
        let w = not_no (is_whole_top ms ports) (subst (λ b. (b && not (is_whole_top ms ports)) ≡ false) top h) in
        (both_true _ (has_port ports done) w).1

module _ (ms : List ModuleTree) (place : ℕ) (design : IsDesign ms place) (top : ModuleTree) (at : slice_get ms place ≡ Some top) where
  tree : IsTopTree ms top
  tree = top_tree ms place design top at

  port_read : (x : Name) → has_port (map port_declared top.ports) x ≡ true → net_kind_is_read (net_kind_of (declared top) x) ≡ true
  port_read x port = ap (λ (d : Declaration). net_kind_is_read d.net_kind) (port_stands (map port_declared top.ports) (items_declared top.items) x port) ∙ port

  pub done_read : net_kind_is_read (net_kind_of (declared top) done) ≡ true
  done_read = port_read done (has_done ms design.outside top tree.has tree.is_top)

  -- what a memory around the design is asked by can be read
  module _ (l : Port) (has : Has (shape_of top).memories l) where
    five : (has_port (map port_declared top.ports) (m_ack l.name) ≡ true) × (has_port (map port_declared top.ports) (m_addr l.name) ≡ true) × (has_port (map port_declared top.ports) (m_wdata l.name) ≡ true) × (has_port (map port_declared top.ports) (m_we l.name) ≡ true)
    five = five_of ms design.outside top tree.has l.name (five_ports ms design.sound.names design.outside top tree.has tree.is_top l has).1

    abbrev IsNet : Name → Type 0
    IsNet x = (net_kind_is_read (net_kind_of (declared top) x) ≡ true) × (is_clk x ≡ false)

    pub ack_net : IsNet (m_ack l.name)
    ack_net = (port_read (m_ack l.name) five.0, ack_clock l.name)

    pub we_net : IsNet (m_we l.name)
    we_net = (port_read (m_we l.name) five.3, we_clock l.name)

    pub addr_net : IsNet (m_addr l.name)
    addr_net = (port_read (m_addr l.name) five.1, memory_clock l.name)

    pub wdata_net : IsNet (m_wdata l.name)
    wdata_net = (port_read (m_wdata l.name) five.2, wdata_clock l.name)

  -- the nets of a stream can be read
  module _ (l : Port) (has : Has (streams_of top) l) where
    said : IsStreamLine top l
    said = stream_line top l has

    parts : (nat_le 2 said.width ≡ true) × (nat_le said.width 65 ≡ true) × (net_kind_is_wire (net_kind_of (declared top) (s_wr l.name)) ≡ true) × (net_kind_is_wire (net_kind_of (declared top) (s_rdy l.name)) ≡ true)
    parts = stream_parts (declared top) said.width (s_wr l.name) (s_rdy l.name) said.stream

    abbrev IsWire : Name → Type 0
    IsWire x = (net_kind_is_read (net_kind_of (declared top) x) ≡ true) × (is_clk x ≡ false)

    pub wr_net : IsWire (s_wr l.name)
    wr_net = (wire_is_read (net_kind_of (declared top) (s_wr l.name)) parts.2, wr_clock l.name)

    pub rdy_net : IsWire (s_rdy l.name)
    rdy_net = (wire_is_read (net_kind_of (declared top) (s_rdy l.name)) parts.3, rdy_clock l.name)

    pub din_net : IsWire (s_din l.name)
    din_net =
        let d : Declaration = record { name = said.name; net_kind = WireNet; bits = said.width; cells = 0 } in
        let is : net_kind_of (declared top) said.name ≡ WireNet = declared_net_kind top ms design.sound.names tree.has d (has_line top ms design.sound.names tree.has (Wire said.width said.name) said.line d (inl refl)) in
        let name : said.name ≡ s_din l.name = din_label said.name l.name said.label in
        (ap (λ z. net_kind_is_read (net_kind_of (declared top) z)) (sym name) ∙ ap net_kind_is_read is, din_clock l.name)

    pub din_bits : (2 ≤ l.bits) × (l.bits ≤ 65)
    din_bits = (subst (λ w. 2 ≤ w) (sym said.wide) (leb-true 2 said.width parts.0), subst (λ w. w ≤ 65) (sym said.wide) (leb-true said.width 65 parts.1))
