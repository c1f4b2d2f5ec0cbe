-- A memory of the top gives and takes data of one width.
use Rattle.std.proofs.Common.{◌≡◌, ℕ, ◌<◌, Bool, true, false, cond, ◌&&◌, List, [], ◌∷◌, Option, Some, None, length, inl, inr, refl, sym, ap, subst, ◌∙◌, map}
use Rattle.std.specs.Prelude.{◌⊎◌, ◌==◌, bytes_eq, nat_le, codes, not}
use Rattle.std.specs.List.{flat_map}
use Rattle.std.specs.Option.{option_map_or}
use Rattle.std.specs.Cmp.Lexicographic.{bytes_decides}
use Rattle.vlog_tree.specs.declared.tree.PortDecl.{PortDecl}
use Rattle.vlog_tree.specs.declared.table.Declaration.{Declaration}
use Rattle.vlog_tree.specs.Form.{ModuleTree, is_input}
use Rattle.tapa_base.specs.Lists.{Has}
use Rattle.vlog_tree.specs.Table.{Name, NameUse, declared, port_declared, bits_of, first_violation}
use Rattle.vlog_tree.specs.Labels.{m_rdata, m_wdata, rdata_of, wdata_of}
use Rattle.vlog_tree.specs.V2.{v2_uses}
use Rattle.vlog_tree.specs.V6.{v6_uses, module_tops, top_ports, clock_connections, port_fits, rdata_fits, wdata_fits, has_all_five, bits_before, agrees, is_top}
use Rattle.tapa_base.proofs.Lists.{has_left}
use Rattle.vlog_run_laws.proofs.runs.Alone.{same_name}
use Rattle.vlog_run_laws.proofs.runs.Sizes.{declared_bits, has_port}
use Rattle.vlog_tree.proofs.Labelled.{label_of}
use Rattle.vlog_run_laws.proofs.runs.Labelled.{rdata_of_label}
use Rattle.vlog_run_laws.proofs.runs.TopPorts.{use_right, five_of, five_rdata}
use Rattle.vlog_run_laws.proofs.runs.Ports.{port_parts, named_port}
use Rattle.vlog_run_laws.proofs.widths.Bits.{same_of}
use Rattle.tapa_base.proofs.Tests.{not_no, both_true}

pub wdata_of_label : (l : Name) → 0 < length l → wdata_of (m_wdata l) ≡ Some l
unfolding wdata_of m_wdata
wdata_of_label l h = label_of (codes "m_") (codes "_wdata") l h

agree_of : (before : List PortDecl) (x : Name) (bits k : ℕ) → bits_before before x ≡ Some k → agrees before x bits ≡ true → k ≡ bits
agree_of before x bits k e h = same_of k bits (subst (λ o. option_map_or (λ b. b == bits) o true ≡ true) e h)

module _ (ports : List Declaration) (before : List PortDecl) (p : PortDecl) (l : Name) where
  rdata_agrees : rdata_of p.name ≡ Some l → rdata_fits ports before p ≡ true → agrees before (m_wdata l) p.width ≡ true
  unfolding rdata_fits
  rdata_agrees e h = (both_true _ (agrees before (m_wdata l) p.width) (subst (λ (o : Option Name). option_map_or (λ x. is_input p.direction && nat_le p.width 64 && has_all_five ports x && agrees before (m_wdata x) p.width) o true ≡ true) e h)).1

  wdata_agrees : wdata_of p.name ≡ Some l → wdata_fits ports before p ≡ true → agrees before (m_rdata l) p.width ≡ true
  unfolding wdata_fits
  wdata_agrees e h = (both_true _ (agrees before (m_rdata l) p.width) (subst (λ (o : Option Name). option_map_or (λ x. not (is_input p.direction) && nat_le p.width 64 && has_all_five ports x && agrees before (m_rdata x) p.width) o true ≡ true) e h)).1

-- ports whose bits are what a table of widths gives their names
module _ (ports : List Declaration) (width : Name → ℕ) where
  -- a port that fits behind one of this name
  record Later (p : PortDecl) (x : Name) : Type 0 where
    pub before : List PortDecl
    pub fits : port_fits ports before p ≡ true
    pub there : bits_before before x ≡ Some (width x)

  passed : (q : PortDecl) (before : List PortDecl) (x : Name) (b : Bool) → bytes_eq q.name x ≡ b → q.width ≡ width q.name → bits_before before x ≡ Some (width x) → cond b (Some q.width) (bits_before before x) ≡ Some (width x)
  passed q before x true e s h = ap (λ n. Some n) (s ∙ ap width ((bytes_decides q.name x).0 e))
  passed q before x false e s h = h

  later : (ps before : List PortDecl) → ((u : NameUse) → Has (top_ports ports before ps) u → u.1 ≡ false) → ((r : PortDecl) → Has ps r → r.width ≡ width r.name) → (x : Name) → bits_before before x ≡ Some (width x) → (p : PortDecl) → Has ps p → Later p x
  later [] before f s x h p k = absurd k
  later (q ∷ ps) before f s x h p (inl e) = record { before = before; fits = subst (λ z. port_fits ports before z ≡ true) e (not_no _ (f (q.name, not (port_fits ports before q)) (inl refl))); there = h }
  later (q ∷ ps) before f s x h p (inr k) = later ps (q ∷ before) (λ u g. f u (inr g)) (λ r g. s r (inr g)) x (passed q before x (bytes_eq q.name x) refl (s q (inl refl)) h) p k

  first_there : (q p : PortDecl) (before : List PortDecl) → q ≡ p → p.width ≡ width p.name → bits_before (q ∷ before) p.name ≡ Some (width p.name)
  first_there q p before e s = subst (λ (r : PortDecl). bits_before (r ∷ before) p.name ≡ Some (width p.name)) (sym e) (ap (λ b. cond b (Some p.width) (bits_before before p.name)) (same_name p.name) ∙ ap (λ n. Some n) s)

  -- one of two ports stands behind the other, or they are one
  ordered : (ps before : List PortDecl) → ((u : NameUse) → Has (top_ports ports before ps) u → u.1 ≡ false) → ((r : PortDecl) → Has ps r → r.width ≡ width r.name) → (p q : PortDecl) → Has ps p → Has ps q → (p ≡ q) ⊎ Later p q.name ⊎ Later q p.name
  ordered [] before f s p q h k = absurd h
  ordered (r ∷ ps) before f s p q (inl e) (inl g) = inl (sym e ∙ g)
  ordered (r ∷ ps) before f s p q (inl e) (inr k) = inr (inr (later ps (r ∷ before) (λ u g. f u (inr g)) (λ t g. s t (inr g)) p.name (first_there r p before e (s p (inl e))) q k))
  ordered (r ∷ ps) before f s p q (inr h) (inl e) = inr (inl (later ps (r ∷ before) (λ u g. f u (inr g)) (λ t g. s t (inr g)) q.name (first_there r q before e (s q (inl e))) p h))
  ordered (r ∷ ps) before f s p q (inr h) (inr k) = ordered ps (r ∷ before) (λ u g. f u (inr g)) (λ t g. s t (inr g)) p q h k

module _ (ms : List ModuleTree) (names : first_violation (v2_uses ms) ≡ None) (tops : first_violation (v6_uses ms) ≡ None) (m : ModuleTree) (in_ms : Has ms m) (top : is_top ms m.name ≡ true) where
  abbrev ports : List Declaration
  ports = map port_declared m.ports

  pub port_bits : (p : PortDecl) → Has m.ports p → p.width ≡ bits_of (declared m) p.name
  port_bits p h = sym (declared_bits m ms names in_ms (port_declared p) (has_port m ms names in_ms p h))

  ports_right : (u : NameUse) → Has (top_ports ports [] m.ports) u → u.1 ≡ false
  unfolding module_tops
  ports_right u k = use_right ms tops m in_ms u (inr (has_left _ (flat_map clock_connections m.items) u (subst (λ b. Has (cond b (top_ports ports [] m.ports) []) u) (sym top) k)))

  pub data_agree : (l : Name) → 0 < length l → has_all_five ports l ≡ true → bits_of (declared m) (m_wdata l) ≡ bits_of (declared m) (m_rdata l)
  data_agree l some five =
      let p = named_port ms names tops m in_ms top (m_rdata l) (five_rdata ms tops m in_ms l five) in
      let q = named_port ms names tops m in_ms top (m_wdata l) (five_of ms tops m in_ms l five).2 in
      let sp : p.0.width ≡ bits_of (declared m) (m_rdata l) = port_bits p.0 p.1 ∙ ap (λ z. bits_of (declared m) z) p.2 in
      let sq : q.0.width ≡ bits_of (declared m) (m_wdata l) = port_bits q.0 q.1 ∙ ap (λ z. bits_of (declared m) z) q.2 in
      elim (ordered ports (bits_of (declared m)) m.ports [] ports_right port_bits p.0 q.0 p.1 q.1) [
        | inl e ↦ sym sq ∙ ap (λ (r : PortDecl). r.width) (sym e) ∙ sp
        | inr s ↦ (elim s [
          | inl t ↦ (let f = port_parts ports t.before p.0 t.fits in
              agree_of t.before (m_wdata l) p.0.width (bits_of (declared m) (m_wdata l)) (subst (λ z. bits_before t.before z ≡ Some (bits_of (declared m) z)) q.2 t.there)
              (rdata_agrees ports t.before p.0 l (ap rdata_of p.2 ∙ rdata_of_label l some) f.rdata)
              ∙ sp)
          | inr t ↦ (let f = port_parts ports t.before q.0 t.fits in
              sym sq
              ∙ sym (agree_of t.before (m_rdata l) q.0.width (bits_of (declared m) (m_rdata l)) (subst (λ z. bits_before t.before z ≡ Some (bits_of (declared m) z)) p.2 t.there)
              (wdata_agrees ports t.before q.0 l (ap wdata_of q.2 ∙ wdata_of_label l some) f.wdata)))
        ])
      ]
