-- Each port of the top fits its name.
use Rattle.std.proofs.Common.{◌≡◌, ℕ, ◌<◌, Bool, true, false, cond, eqb, ◌&&◌, ◌||◌, List, [], ◌∷◌, length, map, Option, Some, None, inl, inr, refl, sym, ap, subst, ◌∙◌}
use Rattle.std.specs.Prelude.{bytes_eq, is_some, nat_le, not, slice_get}
use Rattle.std.specs.List.{flat_map}
use Rattle.std.specs.Option.{option_map_or}
use Rattle.std.specs.Cmp.Lexicographic.{bytes_decides}
use Rattle.std.proofs.lemmas.Bool.{eq-eqb, le-leb, false_from_ne_true, and_from as yes_and}
use Rattle.tapa_base.specs.Kinds.{bits_of}
use Rattle.tapa_syntax.specs.declared.program.Memory.{Memory}
use Rattle.tapa_syntax.specs.declared.program.Program.{Program}
use Rattle.tapa_syntax.specs.declared.program.Scalar.{Scalar}
use Rattle.vlog_tree.specs.declared.tree.PortDecl.{PortDecl}
use Rattle.vlog_tree.specs.declared.table.Declaration.{Declaration}
use Rattle.vlog_tree.specs.Form.{is_input}
use Rattle.tapa_base.specs.Lists.{Has}
use Rattle.vlog_tree.specs.Labels.{rst, done, scalar, m_ack, m_rdata, m_addr, m_wdata, m_we, scalar_of, ack_of, rdata_of, addr_of, wdata_of, we_of}
use Rattle.vlog_tree.specs.Table.{Name, NameUse, clk, is_clk, port_declared, find_name, net_kind_is_read}
use Rattle.vlog_tree.specs.V6.{has_port, has_all_five, bits_before, agrees, is_in, is_out, is_memory_port, is_expected, fixed_fits, scalar_fits, ack_fits, rdata_fits, addr_fits, wdata_fits, we_fits, port_fits, top_ports}
use Rattle.vlog_module_laws.proofs.Labelled.{labels}
use Rattle.hw_build.specs.Elements.{element_ports}
use Rattle.hw_build.specs.Fits.{AreOnce}
use Rattle.hw_top_laws.specs.joins.Joins.{input_port, output_port, port_names}
use Rattle.hw_top_laws.proofs.joins.Joined.{found_port, input_kind, output_kind}
use Rattle.hw_top_lines.specs.Texts.{memory_ports}
use Rattle.hw_top_laws.proofs.names.Made.{sort, clk_sort, rst_sort, scalar_sort, addr_names, wdata_names, we_names, ack_names, rdata_names, done_sort}
use Rattle.hw_top_laws.proofs.design.OutsideParts.{no_scalar, no_ack, no_rdata, no_addr, no_wdata, no_we}
use Rattle.hw_top_laws.proofs.design.Ports.{whole, IsTopPort, AtClock, AtReset, AtDone, AtScalar, AtMemory, port_is, clock_there, reset_there, done_there, memory_there}
use Rattle.tapa_base.proofs.Tests.{few_bits}
use Rattle.vlog_module_laws.proofs.Forms.{itself as same_name}

-- ---- the ports one after another

pub ports_kept : (ds : List Declaration) (all before ps : List PortDecl) → ((b : List PortDecl) → ((q : PortDecl) → Has b q → Has all q) → (p : PortDecl) → Has all p → port_fits ds b p ≡ true)
    → ((q : PortDecl) → Has before q → Has all q) → ((q : PortDecl) → Has ps q → Has all q) → (u : NameUse) → Has (top_ports ds before ps) u → u.1 ≡ false
ports_kept ds all before [] fits bs rest u h = absurd h
ports_kept ds all before (p ∷ ps) fits bs rest u (inl e) = ap (λ (z : NameUse). z.1) (sym e) ∙ ap not (fits before bs p (rest p (inl refl)))
ports_kept ds all before (p ∷ ps) fits bs rest u (inr h) = ports_kept ds all (p ∷ before) ps fits more (λ q k. rest q (inr k)) u h where
  more : (q : PortDecl) → Has (p ∷ before) q → Has all q
  more q (inl s) = subst (λ z. Has all z) s (rest p (inl refl))
  more q (inr k) = bs q k

agrees_by : (p : PortDecl) (ps : List PortDecl) (x : Name) (w : ℕ) (b : Bool) → bytes_eq p.name x ≡ b → (p.name ≡ x → p.width ≡ w) → agrees ps x w ≡ true
    → option_map_or (λ n. eqb n w) (cond b (Some p.width) (bits_before ps x)) true ≡ true
agrees_by p ps x w true e f r = eq-eqb p.width w (f ((bytes_decides p.name x).0 e))
agrees_by p ps x w false e f r = r

all_agree : (before : List PortDecl) (x : Name) (w : ℕ) → ((q : PortDecl) → Has before q → q.name ≡ x → q.width ≡ w) → agrees before x w ≡ true
all_agree [] x w h = refl
all_agree (p ∷ ps) x w h = agrees_by p ps x w (bytes_eq p.name x) refl (h p (inl refl)) (all_agree ps x w (λ q k. h q (inr k)))

-- ---- what a port's name says of it

abbrev shown : List Declaration → List PortDecl → PortDecl → (is_clock is_reset is_done : Bool) → (s a r d w e : Option Name) → Bool
shown ds before p c t o s a r d w e =
    (c || t || o || is_some s || (is_some a || is_some r || is_some d || is_some w || is_some e))
    && ((not (c || t) || is_in p 1) && (not o || is_out p 1))
    && (not (is_some s) || (is_input p.direction && nat_le p.width 64))
    && option_map_or (λ x. is_in p 1 && has_all_five ds x) a true
    && option_map_or (λ x. is_input p.direction && nat_le p.width 64 && has_all_five ds x && agrees before (m_wdata x) p.width) r true
    && option_map_or (λ x. is_out p 64 && has_all_five ds x) d true
    && option_map_or (λ x. not (is_input p.direction) && nat_le p.width 64 && has_all_five ds x && agrees before (m_rdata x) p.width) w true
    && option_map_or (λ x. is_out p 1 && has_all_five ds x) e true

shown_is : (ds : List Declaration) (before : List PortDecl) (p : PortDecl)
    → port_fits ds before p
    ≡ shown ds before p (is_clk p.name) (bytes_eq p.name rst) (bytes_eq p.name done) (scalar_of p.name) (ack_of p.name) (rdata_of p.name) (addr_of p.name) (wdata_of p.name) (we_of p.name)
unfolding is_memory_port is_expected fixed_fits scalar_fits ack_fits rdata_fits addr_fits wdata_fits we_fits port_fits
shown_is ds before p = refl

-- names of different sorts differ
differ : (x y : Name) (j k : ℕ) → sort x ≡ j → sort y ≡ k → (j ≡ k → ⊥) → bytes_eq x y ≡ false
differ x y j k e f n = false_from_ne_true (bytes_eq x y) (λ s. n (sym e ∙ ap sort ((bytes_decides x y).0 s) ∙ f))

-- a where the sorts are the same, and otherwise b
abbrev own : {A : Type 0} (k j : ℕ) (a b : A) → A
own k j a b = cond (eqb k j) a b

is_own : {A : Type 0} (k j : ℕ) (a b : A) → ((k ≡ j → ⊥) → a ≡ b) → a ≡ own k j a b
is_own k j a b other = by (eqb k j) refl where
  by : (t : Bool) → eqb k j ≡ t → a ≡ cond t a b
  by true e = refl
  by false e = other (λ s. let bad : true ≡ false = sym (eq-eqb k j s) ∙ e in cc)

-- where the name of the port is of sort k, and so has no label of another sort
abbrev shown_by : List Declaration → List PortDecl → PortDecl → ℕ → Bool
shown_by ds before p k =
    shown ds before p (own k 0 (is_clk p.name) false) (own k 1 (bytes_eq p.name rst) false) (own k 17 (bytes_eq p.name done) false) (own k 2 (scalar_of p.name) None) (own k 6 (ack_of p.name) None)
    (own k 7 (rdata_of p.name) None) (own k 3 (addr_of p.name) None) (own k 4 (wdata_of p.name) None) (own k 5 (we_of p.name) None)

fits_by : (ds : List Declaration) (before : List PortDecl) (p : PortDecl) (k : ℕ) → sort p.name ≡ k → port_fits ds before p ≡ shown_by ds before p k
fits_by ds before p k is =
    let x = p.name in
    let not_sort : (j : ℕ) → (k ≡ j → ⊥) → sort x ≡ j → ⊥ = λ j n e. n (sym is ∙ e) in
    let c = is_own k 0 (is_clk x) false (differ x clk k 0 is clk_sort) in
    let t = is_own k 1 (bytes_eq x rst) false (differ x rst k 1 is rst_sort) in
    let o = is_own k 17 (bytes_eq x done) false (differ x done k 17 is done_sort) in
    let s = is_own k 2 (scalar_of x) None (λ n. no_scalar x (not_sort 2 n)) in
    let a = is_own k 6 (ack_of x) None (λ n. no_ack x (not_sort 6 n)) in
    let r = is_own k 7 (rdata_of x) None (λ n. no_rdata x (not_sort 7 n)) in
    let d = is_own k 3 (addr_of x) None (λ n. no_addr x (not_sort 3 n)) in
    let w = is_own k 4 (wdata_of x) None (λ n. no_wdata x (not_sort 4 n)) in
    let e = is_own k 5 (we_of x) None (λ n. no_we x (not_sort 5 n)) in
    let all : shown ds before p (is_clk x) (bytes_eq x rst) (bytes_eq x done) (scalar_of x) (ack_of x) (rdata_of x) (addr_of x) (wdata_of x) (we_of x) ≡ shown_by ds before p k = cc in
    shown_is ds before p ∙ all

-- ---- each port of the top

module _ (program : Program) (added : List ℕ) (once : AreOnce (port_names (whole program added))) (scalar_long : (k : ℕ) (c : Scalar) → slice_get program.scalars.items k ≡ Some c → 0 < length c.name)
    (memory_long : (k : ℕ) (m : Memory) → slice_get program.memories.items k ≡ Some m → 0 < length m.name) where
  abbrev ps : List PortDecl
  ps = whole program added

  abbrev pub ds : List Declaration
  ds = map port_declared ps

  width_is : (q p : PortDecl) → Has ps q → Has ps p → q.name ≡ p.name → q.width ≡ p.width
  width_is q p hq hp e = ap (λ (d : Declaration). d.bits) (sym (found_port ps once q hq) ∙ ap (find_name ds) e ∙ found_port ps once p hp)

  pub has_clock : has_port ds clk ≡ true
  has_clock = ap net_kind_is_read (input_kind ps once 1 clk (clock_there program added))

  pub has_reset : has_port ds rst ≡ true
  has_reset = ap net_kind_is_read (input_kind ps once 1 rst (reset_there program added))

  pub has_done : has_port ds done ≡ true
  has_done = ap net_kind_is_read (output_kind ps once 1 done (done_there program added))

  fitting : (before : List PortDecl) (p q : PortDecl) → q ≡ p → (k : ℕ) → sort q.name ≡ k → shown_by ds before q k ≡ true → port_fits ds before p ≡ true
  fitting before p q s k is h = subst (λ z. port_fits ds before z ≡ true) s (fits_by ds before q k is ∙ h)

  module _ (m : ℕ) (r : Memory) (got : slice_get program.memories.items m ≡ Some r) where
    abbrev w : ℕ
    w = bits_of r.kind

    abbrev long : 0 < length r.name
    long = memory_long m r got

    there : (p : PortDecl) → Has (flat_map element_ports (memory_ports (Some r))) p → Has ps p
    there p h = memory_there program added m r got p h

    five : has_all_five ds r.name ≡ true
    unfolding has_all_five
    five =
        let ea : has_port ds (m_ack r.name) ≡ true = ap net_kind_is_read (input_kind ps once 1 (m_ack r.name) (there _ (inr (inr (inr (inl refl)))))) in
        let eb : has_port ds (m_rdata r.name) ≡ true = ap net_kind_is_read (input_kind ps once w (m_rdata r.name) (there _ (inr (inr (inr (inr (inl refl))))))) in
        let ec : has_port ds (m_addr r.name) ≡ true = ap net_kind_is_read (output_kind ps once 64 (m_addr r.name) (there _ (inl refl))) in
        let ed : has_port ds (m_wdata r.name) ≡ true = ap net_kind_is_read (output_kind ps once w (m_wdata r.name) (there _ (inr (inl refl)))) in
        let ee : has_port ds (m_we r.name) ≡ true = ap net_kind_is_read (output_kind ps once 1 (m_we r.name) (there _ (inr (inr (inl refl))))) in
        rw (ea, eb, ec, ed, ee) refl

    narrow : nat_le w 64 ≡ true
    narrow = le-leb w 64 (few_bits r.kind)

    module _ (before : List PortDecl) (bs : (q : PortDecl) → Has before q → Has ps q) where
      data_fits : (x : Name) (p : PortDecl) → Has ps p → p.name ≡ x → p.width ≡ w → (nat_le w 64 && has_all_five ds r.name && agrees before x w) ≡ true
      data_fits x p h e f =
          yes_and (nat_le w 64 && has_all_five ds r.name) (agrees before x w) (yes_and (nat_le w 64) (has_all_five ds r.name) narrow five)
          (all_agree before x w (λ q k s. width_is q p (bs q k) h (s ∙ sym e) ∙ f))

      memory_fits : (p : PortDecl) → Has (flat_map element_ports (memory_ports (Some r))) p → port_fits ds before p ≡ true
      memory_fits p (inl s) =
          let q = output_port 64 (m_addr r.name) in
          fitting before p q s 3 (addr_names.sorts r.name) (ap (λ z. shown ds before q false false false None None None z None None) (labels.addrs.there r.name long) ∙ ap (λ b. true && true && true && true && true && b && true && true) five)
      memory_fits p (inr (inl s)) =
          let q = output_port w (m_wdata r.name) in
          fitting before p q s 4 (wdata_names.sorts r.name)
          (ap (λ z. shown ds before q false false false None None None None z None) (labels.wdatas.there r.name long)
          ∙ ap (λ b. true && true && true && true && true && true && b && true) (data_fits (m_rdata r.name) (input_port w (m_rdata r.name)) (there _ (inr (inr (inr (inr (inl refl)))))) refl refl))
      memory_fits p (inr (inr (inl s))) =
          let q = output_port 1 (m_we r.name) in
          fitting before p q s 5 (we_names.sorts r.name) (ap (λ z. shown ds before q false false false None None None None None z) (labels.wes.there r.name long) ∙ ap (λ b. true && true && true && true && true && true && true && b) five)
      memory_fits p (inr (inr (inr (inl s)))) =
          let q = input_port 1 (m_ack r.name) in
          fitting before p q s 6 (ack_names.sorts r.name) (ap (λ z. shown ds before q false false false None z None None None None) (labels.acks.there r.name long) ∙ ap (λ b. true && true && true && b && true && true && true && true) five)
      memory_fits p (inr (inr (inr (inr (inl s))))) =
          let q = input_port w (m_rdata r.name) in
          fitting before p q s 7 (rdata_names.sorts r.name)
          (ap (λ z. shown ds before q false false false None None z None None None) (labels.rdatas.there r.name long)
          ∙ ap (λ b. true && true && true && true && b && true && true && true) (data_fits (m_wdata r.name) (output_port w (m_wdata r.name)) (there _ (inr (inl refl))) refl refl))
      memory_fits p (inr (inr (inr (inr (inr n))))) = absurd n

  port_fitting : (before : List PortDecl) → ((q : PortDecl) → Has before q → Has ps q) → (p : PortDecl) → IsTopPort program added p → port_fits ds before p ≡ true
  port_fitting before bs p (AtClock s) =
      let q = input_port 1 clk in
      fitting before p q s 0 clk_sort (ap (λ z. shown ds before q z false false None None None None None None) (same_name clk))
  port_fitting before bs p (AtReset s) =
      let q = input_port 1 rst in
      fitting before p q s 1 rst_sort (ap (λ z. shown ds before q false z false None None None None None None) (same_name rst))
  port_fitting before bs p (AtDone s) =
      let q = output_port 1 done in
      fitting before p q s 17 done_sort (ap (λ z. shown ds before q false false z None None None None None None) (same_name done))
  port_fitting before bs p (AtScalar k c g s) =
      let q = input_port (bits_of c.kind) (scalar c.name) in
      fitting before p q s 2 (scalar_sort c.name)
      (ap (λ z. shown ds before q false false false z None None None None None) (labels.scalars.there c.name (scalar_long k c g))
      ∙ ap (λ b. true && true && b && true && true && true && true && true) (le-leb (bits_of c.kind) 64 (few_bits c.kind)))
  port_fitting before bs p (AtMemory m r g h) = memory_fits m r g before bs p h

  pub top_ports_kept : (u : NameUse) → Has (top_ports ds [] ps) u → u.1 ≡ false
  top_ports_kept u h = ports_kept ds ps [] ps (λ b bs p k. port_fitting b bs p (port_is program added p k)) (λ q k. absurd k) (λ q k. k) u h
