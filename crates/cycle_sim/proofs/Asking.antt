-- What the memories around a design are given fits their cells.
use Rattle.std.proofs.Common.{◌≡◌, ◌^◌, ◌<◌, ◌≤◌, true, false, ◌&&◌, List, Option, Some, None, length, inl, inr, refl, ap, subst, ◌∙◌, map, arith}
use Rattle.std.specs.Prelude.{nat_le}
use Rattle.std.specs.Option.{option_map_or}
use Rattle.std.proofs.Math.Pow.{pow_mono}
use Rattle.std.proofs.lemmas.Bool.{leb-true}
use Rattle.tapa_base.specs.declared.shape.Port.{Port}
use Rattle.vlog_tree.specs.declared.tree.PortDecl.{PortDecl}
use Rattle.vlog_tree.specs.declared.table.Declaration.{Declaration}
use Rattle.vlog_tree.specs.Form.{ModuleTree, is_input}
use Rattle.tapa_base.specs.Lists.{Has}
use Rattle.vlog_tree.specs.Table.{Name, clk, is_clk, declared, port_declared, items_declared, net_kind_of, bits_of, net_kind_is_read, first_violation}
use Rattle.vlog_tree.specs.Labels.{m_rdata, m_wdata, ack_of, rdata_of}
use Rattle.vlog_tree.specs.V2.{v2_uses}
use Rattle.vlog_tree.specs.V6.{v6_uses, rdata_fits, has_all_five, agrees, is_top}
use Rattle.vlog_tree.specs.Cycle.{Cycle}
use Rattle.vlog_tree.specs.Environment.{shape_of, memory_label}
use Rattle.tapa_base.proofs.Lists.{of_flat}
use Rattle.vlog_run_laws.proofs.runs.Cycles.{port_stands}
use Rattle.vlog_run_laws.proofs.runs.TopPorts.{five_of, five_rdata}
use Rattle.vlog_run_laws.proofs.runs.Ports.{fits, named_port, ack_input}
use Rattle.vlog_run_laws.proofs.runs.Labelled.{ack_label, rdata_of_label}
use Rattle.vlog_run_laws.specs.widths.Widths.{NumbersFit}
use Rattle.vlog_run_laws.proofs.widths.Agreeing.{port_bits, data_agree}
use Rattle.vlog_run_laws.proofs.runs.Surround.{clock_of_wdata as wdata_clock}
use Rattle.tapa_base.proofs.Tests.{both_true}

few_bits : (ports : List Declaration) (before : List PortDecl) (p : PortDecl) (l : Name) → rdata_of p.name ≡ Some l → rdata_fits ports before p ≡ true → p.width ≤ 64
unfolding rdata_fits
few_bits ports before p l e h =
    let r = subst (λ (o : Option Name). option_map_or (λ x. is_input p.direction && nat_le p.width 64 && has_all_five ports x && agrees before (m_wdata x) p.width) o true ≡ true) e h in
    let s = both_true _ (agrees before (m_wdata l) p.width) r in
    let t = both_true _ (has_all_five ports l) s.0 in
    leb-true p.width 64 (both_true (is_input p.direction) (nat_le p.width 64) t.0).1

module _ (ms : List ModuleTree) (names : first_violation (v2_uses ms) ≡ None) (tops : first_violation (v6_uses ms) ≡ None) (m : ModuleTree) (in_ms : Has ms m) (top : is_top ms m.name ≡ true) where
  abbrev ports : List Declaration
  ports = map port_declared m.ports

  memory_port : (l : Port) → Has (shape_of m).memories l → (p : PortDecl) × Has m.ports p × (ack_of p.name ≡ Some l.name)
  memory_port l h = let t = of_flat (λ (p : PortDecl). memory_label (declared m) (ack_of p.name)) m.ports l h in (t.0, t.1, of_label (ack_of t.0.name) t.2) where
    of_label : (o : Option Name) → Has (memory_label (declared m) o) l → o ≡ Some l.name
    of_label None h = absurd h
    of_label (Some x) (inl e) = ap (λ (k : Port). Some k.name) e
    of_label (Some x) (inr h) = absurd h

  -- a memory around has all five ports, and a label that is not empty
  pub five_ports : (l : Port) → Has (shape_of m).memories l → (0 < length l.name) × (has_all_five ports l.name ≡ true)
  five_ports l h =
      let q = memory_port l h in
      let g = fits ms names tops m in_ms top q.0 q.1 in
      ((ack_label q.0.name l.name q.2).1, (ack_input ports g.0 q.0 g.1 l.name q.2).1)

  data_bits : (l : Port) → Has (shape_of m).memories l → bits_of (declared m) (m_rdata l.name) ≤ 64
  data_bits l h =
      let five = five_ports l h in
      let p = named_port ms names tops m in_ms top (m_rdata l.name) (five_rdata ms tops m in_ms l.name five.1) in
      let g = fits ms names tops m in_ms top p.0 p.1 in
      let few : p.0.width ≤ 64 = few_bits ports g.0 p.0 l.name (ap rdata_of p.2 ∙ rdata_of_label l.name five.0) g.1.rdata in
      subst (λ z. z ≤ 64) (port_bits ms names tops m in_ms top p.0 p.1 ∙ ap (bits_of (declared m)) p.2) few

  -- what is stored has at most 64 bits
  pub data_low : (c : Cycle) → NumbersFit m c → (l : Port) → Has (shape_of m).memories l → c.net (m_wdata l.name) < 2 ^ 64
  data_low c f l h =
      let five = five_ports l h in
      let port = (five_of ms tops m in_ms l.name five.1).2 in
      let read : net_kind_is_read (net_kind_of (declared m) (m_wdata l.name)) ≡ true = ap (λ (d : Declaration). net_kind_is_read d.net_kind) (port_stands ports (items_declared m.items) (m_wdata l.name) port) ∙ port in
      let low : c.net (m_wdata l.name) < 2 ^ bits_of (declared m) (m_rdata l.name) =
      subst (λ w. c.net (m_wdata l.name) < 2 ^ w) (data_agree ms names tops m in_ms top l.name five.0 five.1) (f.nets (m_wdata l.name) read (wdata_clock l.name)) in
      let few : bits_of (declared m) (m_rdata l.name) ≤ 64 = data_bits l h in
      let most : 2 ^ bits_of (declared m) (m_rdata l.name) ≤ 2 ^ 64 = pow_mono few in
      omega arith
