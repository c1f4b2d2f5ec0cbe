-- What the top's ports ask for is there.
use Rattle.std.proofs.Common.{◌≡◌, Bool, true, false, cond, ◌&&◌, List, [], ◌∷◌, Option, Some, None, inl, inr, refl, sym, ap, subst, ◌∙◌, map}
use Rattle.std.specs.Prelude.{nat_le, not}
use Rattle.std.specs.List.{flat_map}
use Rattle.std.specs.Option.{option_map_or}
use Rattle.vlog_tree.specs.declared.tree.Connection.{Connection}
use Rattle.vlog_tree.specs.declared.tree.Item.{Item}
use Rattle.vlog_tree.specs.declared.tree.Item.TheVariants.{Wire, Reg, Memory, Assign, Always, Instance}
use Rattle.vlog_tree.specs.declared.tree.PortDecl.{PortDecl}
use Rattle.vlog_tree.specs.declared.table.Declaration.{Declaration}
use Rattle.vlog_tree.specs.declared.table.NetKind.TheVariants.{Input}
use Rattle.vlog_tree.specs.Form.{ModuleTree, is_input}
use Rattle.tapa_base.specs.Lists.{Has}
use Rattle.vlog_tree.specs.Table.{Name, NameUse, clk, is_clk, declared, port_declared, items_declared, find_name, net_kind_of, net_kind_is_read, first_violation}
use Rattle.vlog_tree.specs.Labels.{rdata_of, m_addr, m_ack, m_we, m_wdata, m_rdata, read_of, address_of}
use Rattle.vlog_tree.specs.V6.{v6_uses, module_tops, top_ports, clock_connections, clock_connection, port_fits, rdata_fits, addr_fits, wdata_fits, we_fits, has_all_five, has_port, is_top, agrees}
use Rattle.tapa_base.proofs.Lists.{has_flat, has_map, of_map, has_left, has_right, has_split}
use Rattle.vlog_run_laws.proofs.runs.Sound.{right}
use Rattle.vlog_run_laws.proofs.runs.Sizes.{found_name}
use Rattle.vlog_run_laws.proofs.runs.Alone.{of_items}
use Rattle.vlog_run_laws.proofs.runs.Cycles.{port_stands}
use Rattle.tapa_base.proofs.Tests.{not_no, both_true}

pub memory_clock : (x : Name) → is_clk (m_addr x) ≡ false
unfolding m_addr clk
memory_clock x = refl

line_no_input : (it : Item) (d : Declaration) → Has (items_declared (it ∷ [])) d → d.net_kind ≡ Input → ⊥
line_no_input (Wire w x) d (inl e) s = cc
line_no_input (Wire w x) d (inr h) s = absurd h
line_no_input (Reg w x) d (inl e) s = cc
line_no_input (Reg w x) d (inr h) s = absurd h
line_no_input (Memory w x n) d (inl e) s = cc
line_no_input (Memory w x n) d (inr h) s = absurd h
line_no_input (Instance k i connections) d (inl e) s = cc
line_no_input (Instance k i connections) d (inr h) s = absurd h
line_no_input (Assign x e) d h s = absurd h
line_no_input (Always b) d h s = absurd h

-- what is declared as an input is a port
pub input_port : (m : ModuleTree) (x : Name) → net_kind_of (declared m) x ≡ Input → (p : PortDecl) × Has m.ports p × (p.name ≡ x) × (port_declared p ≡ find_name (declared m) x)
input_port m x s =
    let f = found_name (declared m) x net_kind_is_read refl (ap net_kind_is_read s) in
    let d = find_name (declared m) x in
    elim (has_split (map port_declared m.ports) (items_declared m.items) d f.0) [
      | inl l ↦ (let t = of_map port_declared m.ports d l in (t.0, t.1, ap (λ (d : Declaration). d.name) t.2 ∙ f.1, t.2))
      | inr r ↦ (let t = of_items m.items d r in absurd (line_no_input t.0 d t.2 s))
    ]

fits_of : (ports : List Declaration) (ps before : List PortDecl) → ((u : NameUse) → Has (top_ports ports before ps) u → u.1 ≡ false) → (p : PortDecl) → Has ps p → (b : List PortDecl) × (port_fits ports b p ≡ true)
fits_of ports [] before f p h = absurd h
fits_of ports (q ∷ ps) before f p (inl e) = (before, subst (λ z. port_fits ports before z ≡ true) e (not_no _ (f (q.name, not (port_fits ports before q)) (inl refl))))
fits_of ports (q ∷ ps) before f p (inr h) = fits_of ports ps (q ∷ before) (λ u k. f u (inr k)) p h

in_five : (p : PortDecl) (w : Name) (ports : List Declaration) (x : Name) (before : List PortDecl) → (is_input p.direction && nat_le p.width 64 && has_all_five ports x && agrees before w p.width) ≡ true → has_all_five ports x ≡ true
in_five p w ports x before h = (both_true _ (has_all_five ports x) (both_true _ (agrees before w p.width) h).0).1

module _ (ms : List ModuleTree) (tops : first_violation (v6_uses ms) ≡ None) (m : ModuleTree) (in_ms : Has ms m) where
  pub use_right : (u : NameUse) → Has (module_tops ms m) u → u.1 ≡ false
  use_right u h = right (v6_uses ms) tops u (has_flat (module_tops ms) ms m u in_ms h)

  -- a clock goes to clocks alone
  pub clock_joined : (kn i : Name) (connections : List Connection) → Has m.items (Instance kn i connections) → (l : Connection) → Has connections l → is_clk l.net ≡ false → is_clk l.port ≡ false
  unfolding module_tops clock_connection
  clock_joined kn i connections has l h e =
      no_clock (is_clk l.port) (is_clk l.net) e
      (use_right (clock_connection l) (inr (has_right _ (flat_map clock_connections m.items) (clock_connection l) (has_flat clock_connections m.items (Instance kn i connections) (clock_connection l) has (has_map clock_connection connections l h))))) where
        no_clock : (p n : Bool) → n ≡ false → (p && not n) ≡ false → p ≡ false
        no_clock false n e h = refl
        no_clock true true e h = cc
        no_clock true false e h = cc

  abbrev ports : List Declaration
  ports = map port_declared m.ports

  pub port_right : is_top ms m.name ≡ true → (p : PortDecl) → Has m.ports p → (b : List PortDecl) × (port_fits ports b p ≡ true)
  unfolding module_tops
  port_right top p h = fits_of ports m.ports [] (λ u k. use_right u (inr (has_left _ (flat_map clock_connections m.items) u (subst (λ b. Has (cond b (top_ports ports [] m.ports) []) u) (sym top) k)))) p h

  -- the five ports of a memory that the top reads
  pub all_five : is_top ms m.name ≡ true → (p : PortDecl) → Has m.ports p → (x : Name) → rdata_of p.name ≡ Some x → has_all_five ports x ≡ true
  unfolding port_fits rdata_fits
  all_five top p h x e =
      let f = port_right top p h in
      let u = both_true _ (we_fits ports p) f.1 in
      let v = both_true _ (wdata_fits ports f.0 p) u.0 in
      let w = both_true _ (addr_fits ports p) v.0 in
      let r = both_true _ (rdata_fits ports f.0 p) w.0 in
      in_five p (m_wdata x) ports x f.0 (subst (λ (o : Option Name). option_map_or (λ x. is_input p.direction && nat_le p.width 64 && has_all_five ports x && agrees f.0 (m_wdata x) p.width) o true ≡ true) e r.1)

  pub five_of : (x : Name) → has_all_five ports x ≡ true
      → (has_port ports (m_ack x) ≡ true) × (has_port ports (m_addr x) ≡ true) × (has_port ports (m_wdata x) ≡ true) × (has_port ports (m_we x) ≡ true)
  unfolding has_all_five
  five_of x h =
      let e = both_true _ (has_port ports (m_we x)) h in
      let w = both_true _ (has_port ports (m_wdata x)) e.0 in
      let a = both_true _ (has_port ports (m_addr x)) w.0 in
      let r = both_true (has_port ports (m_ack x)) (has_port ports (m_rdata x)) a.0 in
      (r.0, a.1, w.1, e.1)

  pub five_rdata : (x : Name) → has_all_five ports x ≡ true → has_port ports (m_rdata x) ≡ true
  unfolding has_all_five
  five_rdata x h =
      let e = both_true _ (has_port ports (m_we x)) h in
      let w = both_true _ (has_port ports (m_wdata x)) e.0 in
      let a = both_true _ (has_port ports (m_addr x)) w.0 in
      (both_true (has_port ports (m_ack x)) (has_port ports (m_rdata x)) a.0).1

  asked_read : is_top ms m.name ≡ true → (p : PortDecl) → Has m.ports p → (a : Name) (o : Option Name) → rdata_of p.name ≡ o → Has (read_of o) a → (net_kind_is_read (net_kind_of (declared m) a) ≡ true) × (is_clk a ≡ false)
  asked_read top p h a None e k = absurd k
  asked_read top p h a (Some x) e (inl g) =
      let f = (five_of x (all_five top p h x e)).1 in
      subst (λ z. (net_kind_is_read (net_kind_of (declared m) z) ≡ true) × (is_clk z ≡ false)) g
      (ap (λ (d : Declaration). net_kind_is_read d.net_kind) (port_stands ports (items_declared m.items) (m_addr x) f) ∙ f, memory_clock x)
  asked_read top p h a (Some x) e (inr g) = absurd g

  -- where an input of the top reads a memory, the module declares the net at which it asks
  pub asked_declared : is_top ms m.name ≡ true → (x : Name) → net_kind_of (declared m) x ≡ Input → (a : Name) → Has (address_of x) a → (net_kind_is_read (net_kind_of (declared m) a) ≡ true) × (is_clk a ≡ false)
  asked_declared top x s a h =
      let p = input_port m x s in
      asked_read top p.0 p.1 a (rdata_of p.0.name) refl (subst (λ z. Has (address_of z) a) (sym p.2) h)
