-- What a memory around the top is asked by is declared, and not the clock.
use Rattle.std.proofs.Common.{◌≡◌, true, false, List, Option, Some, None, inl, inr, refl, ap, subst, ◌∙◌, map}
use Rattle.tapa_base.specs.declared.shape.Port.{Port}
use Rattle.vlog_tree.specs.declared.tree.PortDecl.{PortDecl}
use Rattle.vlog_tree.specs.declared.table.Declaration.{Declaration}
use Rattle.vlog_tree.specs.Form.{ModuleTree}
use Rattle.tapa_base.specs.Lists.{Has}
use Rattle.vlog_tree.specs.Table.{Name, clk, is_clk, declared, port_declared, items_declared, net_kind_of, net_kind_is_read, first_violation}
use Rattle.vlog_tree.specs.Environment.{shape_of, memory_label}
use Rattle.vlog_tree.specs.Labels.{ack_of, m_ack, m_we, m_addr, m_wdata}
use Rattle.vlog_tree.specs.V2.{v2_uses}
use Rattle.vlog_tree.specs.V6.{v6_uses, is_top, has_port, has_all_five}
use Rattle.tapa_base.proofs.Lists.{of_flat}
use Rattle.vlog_run_laws.proofs.runs.Cycles.{port_stands}
use Rattle.vlog_run_laws.proofs.runs.TopPorts.{memory_clock, five_of}
use Rattle.vlog_run_laws.proofs.runs.Ports.{fits, ack_input}
use Rattle.vlog_run_laws.proofs.runs.Surround.{clock_of_ack as ack_clock, clock_of_wdata as wdata_clock, clock_of_we as we_clock}

module _ (ms : List ModuleTree) (names : first_violation (v2_uses ms) ≡ None) (tops : first_violation (v6_uses ms) ≡ None) (m : ModuleTree) (in_ms : Has ms m) (top : is_top ms m.name ≡ true) where
  abbrev ports : List Declaration
  ports = map port_declared m.ports

  -- a net that is read as any other
  abbrev pub IsReadNet : Name → Type 0
  IsReadNet x = (net_kind_is_read (net_kind_of (declared m) x) ≡ true) × (is_clk x ≡ false)

  port_read : (x : Name) → has_port ports x ≡ true → net_kind_is_read (net_kind_of (declared m) x) ≡ true
  port_read x h = ap (λ (d : Declaration). net_kind_is_read d.net_kind) (port_stands ports (items_declared m.items) x h) ∙ h

  by_ack : (l : Port) (p : PortDecl) → Has m.ports p → (o : Option Name) → ack_of p.name ≡ o → Has (memory_label (declared m) o) l → has_all_five ports l.name ≡ true
  by_ack l p h None e k = absurd k
  by_ack l p h (Some x) e (inl s) = let f = fits ms names tops m in_ms top p h in subst (λ (q : Port). has_all_five ports q.name ≡ true) s (ack_input ports f.0 p f.1 x e).1
  by_ack l p h (Some x) e (inr s) = absurd s

  -- the four nets that ask a memory of the top's shape
  pub asked_by : (l : Port) → Has (shape_of m).memories l → IsReadNet (m_ack l.name) × IsReadNet (m_we l.name) × IsReadNet (m_addr l.name) × IsReadNet (m_wdata l.name)
  asked_by l has =
      let t = of_flat (λ (p : PortDecl). memory_label (declared m) (ack_of p.name)) m.ports l has in
      let f = five_of ms tops m in_ms l.name (by_ack l t.0 t.1 (ack_of t.0.name) refl t.2) in (
        (port_read (m_ack l.name) f.0, ack_clock l.name),
        (port_read (m_we l.name) f.3, we_clock l.name),
        (port_read (m_addr l.name) f.1, memory_clock l.name),
        (port_read (m_wdata l.name) f.2, wdata_clock l.name),
      )
