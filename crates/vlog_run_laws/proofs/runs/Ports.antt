-- What the rule on the top's ports says of each of them.
use Rattle.std.proofs.Common.{◌≡◌, Bool, true, false, cond, ◌&&◌, ◌||◌, List, Option, Some, None, inl, refl, sym, ap, subst, ◌∙◌, map}
use Rattle.std.specs.Prelude.{◌==◌, bytes_eq, nat_le, is_some, not}
use Rattle.std.specs.Option.{option_map_or}
use Rattle.std.specs.Cmp.Lexicographic.{bytes_decides}
use Rattle.vlog_tree.specs.declared.tree.PortDecl.{PortDecl}
use Rattle.vlog_tree.specs.declared.table.Declaration.{Declaration}
use Rattle.vlog_tree.specs.declared.table.NetKind.TheVariants.{Input, Output}
use Rattle.vlog_tree.specs.Form.{ModuleTree, is_input}
use Rattle.tapa_base.specs.Lists.{Has}
use Rattle.vlog_tree.specs.Table.{Name, is_clk, declared, port_declared, declaration_name, net_kind_of, net_kind_is_read, first_violation}
use Rattle.vlog_tree.specs.Labels.{rst, done, scalar_of, ack_of, rdata_of, addr_of, wdata_of, we_of, m_rdata, m_wdata}
use Rattle.vlog_tree.specs.V2.{v2_uses}
use Rattle.vlog_tree.specs.V6.{v6_uses, module_tops, port_fits, is_expected, is_memory_port, fixed_fits, scalar_fits, ack_fits, rdata_fits, addr_fits, wdata_fits, we_fits, has_all_five, has_port, is_in, is_out, agrees, is_top, is_whole_top}
use Rattle.tapa_base.proofs.Lists.{of_map}
use Rattle.vlog_run_laws.proofs.runs.Sound.{declared_by}
use Rattle.vlog_run_laws.proofs.runs.Sizes.{declared_net_kind, has_port as port_in}
use Rattle.vlog_run_laws.proofs.runs.TopPorts.{port_right, use_right}
use Rattle.tapa_base.proofs.Tests.{not_no, not_so as no_is, both_true, true_not_false}

pub record PortFits (ports : List Declaration) (before : List PortDecl) (p : PortDecl) : Type 0 where
  pub expected : is_expected p.name ≡ true
  pub fixed : fixed_fits p ≡ true
  pub scalar : scalar_fits p ≡ true
  pub ack : ack_fits ports p ≡ true
  pub rdata : rdata_fits ports before p ≡ true
  pub addr : addr_fits ports p ≡ true
  pub wdata : wdata_fits ports before p ≡ true
  pub we : we_fits ports p ≡ true

pub port_parts : (ports : List Declaration) (before : List PortDecl) (p : PortDecl) → port_fits ports before p ≡ true → PortFits ports before p
unfolding port_fits
port_parts ports before p h =
    let w = both_true _ (we_fits ports p) h in
    let d = both_true _ (wdata_fits ports before p) w.0 in
    let a = both_true _ (addr_fits ports p) d.0 in
    let r = both_true _ (rdata_fits ports before p) a.0 in
    let k = both_true _ (ack_fits ports p) r.0 in
    let s = both_true _ (scalar_fits p) k.0 in
    let f = both_true (is_expected p.name) (fixed_fits p) s.0 in
    record { expected = f.0; fixed = f.1; scalar = s.1; ack = k.1; rdata = r.1; addr = a.1; wdata = d.1; we = w.1 }

pub either_true : (a b : Bool) → a ≡ true → (not a || b) ≡ true → b ≡ true
either_true true b e h = h
either_true false b e h = cc

module _ (ports : List Declaration) (before : List PortDecl) (p : PortDecl) (f : PortFits ports before p) where
  pub scalar_input : (l : Name) → scalar_of p.name ≡ Some l → is_input p.direction ≡ true
  unfolding scalar_fits
  scalar_input l e = of_fits f.scalar where
    of_fits : scalar_fits p ≡ true → is_input p.direction ≡ true
    of_fits h = (both_true (is_input p.direction) (nat_le p.width 64) (either_true (is_some (scalar_of p.name)) _ (ap (λ o. is_some o) e) h)).0

  pub ack_input : (l : Name) → ack_of p.name ≡ Some l → (is_input p.direction ≡ true) × (has_all_five ports l ≡ true)
  unfolding ack_fits
  ack_input l e = of_fits f.ack where
    of_fits : ack_fits ports p ≡ true → (is_input p.direction ≡ true) × (has_all_five ports l ≡ true)
    of_fits h =
        let r = both_true (is_in p 1) (has_all_five ports l) (subst (λ (o : Option Name). option_map_or (λ x. is_in p 1 && has_all_five ports x) o true ≡ true) e h) in
        ((both_true (is_input p.direction) (p.width == 1) r.0).0, r.1)

  pub rdata_input : (l : Name) → rdata_of p.name ≡ Some l → (is_input p.direction ≡ true) × (has_all_five ports l ≡ true)
  unfolding rdata_fits
  rdata_input l e = of_fits f.rdata where
    of_fits : rdata_fits ports before p ≡ true → (is_input p.direction ≡ true) × (has_all_five ports l ≡ true)
    of_fits h =
        let r = both_true _ (agrees before (m_wdata l) p.width) (subst (λ (o : Option Name). option_map_or (λ x. is_input p.direction && nat_le p.width 64 && has_all_five ports x && agrees before (m_wdata x) p.width) o true ≡ true) e h) in
        let s = both_true _ (has_all_five ports l) r.0 in
        ((both_true (is_input p.direction) (nat_le p.width 64) s.0).0, s.1)

  pub reset_input : p.name ≡ rst → is_input p.direction ≡ true
  unfolding fixed_fits
  reset_input e = of_fits f.fixed where
    either : (a b : Bool) → b ≡ true → (a || b) ≡ true
    either true b e = refl
    either false b e = e

    of_fits : fixed_fits p ≡ true → is_input p.direction ≡ true
    of_fits h =
        let r = both_true (not (is_clk p.name || bytes_eq p.name rst) || is_in p 1) _ h in
        (both_true (is_input p.direction) (p.width == 1) (either_true (is_clk p.name || bytes_eq p.name rst) (is_in p 1) (either (is_clk p.name) _ ((bytes_decides p.name rst).1 e)) r.0)).0

  module _ (input : is_input p.direction ≡ true) where
    no_output : (w : Bool) → (not (is_input p.direction) && w) ≡ true → ⊥
    no_output w h = true_not_false (sym input ∙ no_is (is_input p.direction) (both_true (not (is_input p.direction)) w h).0)

    none_of : (g : Name → Bool) (o : Option Name) → ((x : Name) → g x ≡ true → ⊥) → option_map_or g o true ≡ true → is_some o ≡ false
    none_of g None n h = refl
    none_of g (Some x) n h = absurd (n x h)

    no_addr : is_some (addr_of p.name) ≡ false
    unfolding addr_fits
    no_addr = of_fits f.addr where
      of_fits : addr_fits ports p ≡ true → is_some (addr_of p.name) ≡ false
      of_fits h = none_of (λ x. is_out p 64 && has_all_five ports x) (addr_of p.name) (λ x e. no_output (p.width == 64) (both_true (is_out p 64) (has_all_five ports x) e).0) h

    no_wdata : is_some (wdata_of p.name) ≡ false
    unfolding wdata_fits
    no_wdata = of_fits f.wdata where
      of_fits : wdata_fits ports before p ≡ true → is_some (wdata_of p.name) ≡ false
      of_fits h =
          none_of (λ x. not (is_input p.direction) && nat_le p.width 64 && has_all_five ports x && agrees before (m_rdata x) p.width) (wdata_of p.name)
          (λ x e. no_output (nat_le p.width 64) (both_true _ (has_all_five ports x) (both_true _ (agrees before (m_rdata x) p.width) e).0).0) h

    no_we : is_some (we_of p.name) ≡ false
    unfolding we_fits
    no_we = of_fits f.we where
      of_fits : we_fits ports p ≡ true → is_some (we_of p.name) ≡ false
      of_fits h = none_of (λ x. is_out p 1 && has_all_five ports x) (we_of p.name) (λ x e. no_output (p.width == 1) (both_true (is_out p 1) (has_all_five ports x) e).0) h

    no_done : bytes_eq p.name done ≡ false
    unfolding fixed_fits
    no_done = by_test _ refl where
      of_fits : fixed_fits p ≡ true → bytes_eq p.name done ≡ true → ⊥
      of_fits h e = let r = both_true _ (not (bytes_eq p.name done) || is_out p 1) h in no_output (p.width == 1) (either_true (bytes_eq p.name done) (is_out p 1) e r.1)

      by_test : (b : Bool) → bytes_eq p.name done ≡ b → bytes_eq p.name done ≡ false
      by_test true e = absurd (of_fits f.fixed e)
      by_test false e = e

    all_false : (a b c d e g h i j : Bool) → a ≡ false → b ≡ false → c ≡ false → d ≡ false → e ≡ false → g ≡ false → h ≡ false → i ≡ false → j ≡ false → (a || b || c || d || (e || g || h || i || j)) ≡ false
    all_false a b c d e g h i j p q r s t u v w x = rw (p, q, r, s, t, u, v, w, x) refl

    -- an input that is no clock and no reset has a label
    pub input_has_label : is_clk p.name ≡ false → bytes_eq p.name rst ≡ false → scalar_of p.name ≡ None → ack_of p.name ≡ None → rdata_of p.name ≡ None → ⊥
    unfolding is_expected is_memory_port
    input_has_label c r s a d = of_expected f.expected where
      of_expected : is_expected p.name ≡ true → ⊥
      of_expected h =
          true_not_false (sym h ∙ all_false _ _ _ _ _ _ _ _ _ c r no_done (ap (λ o. is_some o) s) (ap (λ o. is_some o) a) (ap (λ o. is_some o) d) no_addr no_wdata no_we)

module _ (ms : List ModuleTree) (names : first_violation (v2_uses ms) ≡ None) (tops : first_violation (v6_uses ms) ≡ None) (m : ModuleTree) (in_ms : Has ms m) (top : is_top ms m.name ≡ true) where
  abbrev ports : List Declaration
  ports = map port_declared m.ports

  pub fits : (p : PortDecl) → Has m.ports p → (b : List PortDecl) × PortFits ports b p
  fits p h = let r = port_right ms tops m in_ms top p h in (r.0, port_parts ports r.0 p r.1)

  pub named_port : (x : Name) → has_port ports x ≡ true → (p : PortDecl) × Has m.ports p × (p.name ≡ x)
  named_port x h =
      let t = of_map declaration_name ports x (declared_by net_kind_is_read ports x refl h) in
      let q = of_map port_declared m.ports t.0 t.1 in
      (q.0, q.1, ap (λ (d : Declaration). d.name) q.2 ∙ t.2)

  pub input_net_kind : (p : PortDecl) → Has m.ports p → is_input p.direction ≡ true → net_kind_of (declared m) p.name ≡ Input
  input_net_kind p h e = declared_net_kind m ms names in_ms (port_declared p) (port_in m ms names in_ms p h) ∙ ap (λ b. cond b Input Output) e

  pub has_reset : has_port ports rst ≡ true
  unfolding module_tops is_whole_top
  has_reset = of_use (use_right ms tops m in_ms (m.name, is_top ms m.name && not (is_whole_top ms ports)) (by_module refl)) where
    by_module : {u : Name × Bool} → u ≡ (m.name, is_top ms m.name && not (is_whole_top ms ports)) → Has (module_tops ms m) u
    by_module e = inl (sym e)

    of_use : (is_top ms m.name && not (is_whole_top ms ports)) ≡ false → has_port ports rst ≡ true
    of_use h =
        let w = not_no (is_whole_top ms ports) (subst (λ b. (b && not (is_whole_top ms ports)) ≡ false) top h) in
        (both_true _ (has_port ports rst) (both_true _ (has_port ports done) w).0).1
