-- What an environment gives the top fits, and so do the cells that its memories are left with.
use Rattle.std.proofs.Common.{◌≡◌, ℕ, zero, suc, ◌^◌, ◌<◌, Bool, true, false, cond, ◌&&◌, ◌||◌, List, [], ◌∷◌, Option, Some, None, length, get_or, All, inl, inr, refl, sym, ap, subst, ◌∙◌, map, arith}
use Rattle.std.specs.Prelude.{◌==◌, bytes_eq, nat_lt, slice_get, slice_set, unwrap_or, not}
use Rattle.std.specs.List.{AllByRecursion}
use Rattle.std.specs.Option.{option_map_or}
use Rattle.std.specs.Cmp.Lexicographic.{bytes_decides}
use Rattle.std.proofs.Math.Pow.{pow_pos}
use Rattle.std.proofs.lemmas.List.Elements.{All-head, All-tail}
use Rattle.tapa_base.specs.declared.shape.Port.{Port}
use Rattle.vlog_tree.specs.declared.tree.PortDecl.{PortDecl}
use Rattle.vlog_tree.specs.declared.table.Declaration.{Declaration}
use Rattle.vlog_tree.specs.declared.table.NetKind.TheVariants.{Input, Output}
use Rattle.vlog_tree.specs.Form.{ModuleTree, is_input}
use Rattle.tapa_base.specs.Lists.{Has}
use Rattle.vlog_tree.specs.Table.{Name, clk, is_clk, declared, port_declared, items_declared, net_kind_of, bits_of, net_kind_is_read, first_violation}
use Rattle.vlog_tree.specs.Labels.{rst, done, scalar, m_ack, m_rdata, m_addr, m_wdata, m_we, scalar_of, ack_of, rdata_of}
use Rattle.vlog_tree.specs.V2.{v2_uses}
use Rattle.vlog_tree.specs.V6.{v6_uses, fixed_fits, ack_fits, has_all_five, is_in, is_out, is_top}
use Rattle.vlog_tree.specs.Cycle.{Cycle}
use Rattle.vlog_tree.specs.Environment.{Environment, FitsShape, widths, shape_of, scalar_label, memory_label, Stands, ready_at, set_cell, cells_at}
use Rattle.vlog_run_laws.specs.Beside.{StandsBeside}
use Rattle.vlog_run_laws.specs.runs.Among.{StandsAmong}
use Rattle.tapa_base.proofs.Lists.{has_flat, of_flat, got_has, has_got}
use Rattle.vlog_run_laws.proofs.runs.Cycles.{port_stands}
use Rattle.vlog_run_laws.proofs.runs.TopPorts.{input_port, five_of}
use Rattle.vlog_run_laws.proofs.runs.Ports.{PortFits, fits, named_port, ack_input, rdata_input, input_has_label}
use Rattle.vlog_run_laws.proofs.runs.Labelled.{scalar_label as label_of_scalar, ack_label, rdata_label, ack_of_label}
use Rattle.vlog_run_laws.specs.widths.Widths.{NumbersFit, CellsFit, OutsideFits}
use Rattle.vlog_run_laws.proofs.widths.Bits.{same_of}
use Rattle.vlog_run_laws.proofs.widths.Agreeing.{port_bits, data_agree}
use Rattle.tapa_base.proofs.Tests.{both_true}

abbrev AllBelow : ℕ → List ℕ → Type 0
AllBelow w vs = AllByRecursion (λ v. v < 2 ^ w) vs

got_below : (w : ℕ) (vs : List ℕ) (i : ℕ) → AllBelow w vs → unwrap_or (slice_get vs i) 0 < 2 ^ w
got_below w [] i a = pow_pos w
got_below w (v ∷ vs) zero a = a.0
got_below w (v ∷ vs) (suc i) a = got_below w vs i a.1

put_below : (w : ℕ) (vs : List ℕ) (i v : ℕ) → AllBelow w vs → v < 2 ^ w → AllBelow w (slice_set vs i v)
put_below w [] i v a h = tt
put_below w (u ∷ vs) zero v a h = (h, a.1)
put_below w (u ∷ vs) (suc i) v a h = (a.0, put_below w vs i v a.1 h)

either_below : (w : ℕ) (b : Bool) (us vs : List ℕ) → AllBelow w us → AllBelow w vs → AllBelow w (cond b us vs)
either_below w true us vs f g = f
either_below w false us vs f g = g

ready_below : (bits : List Bool) (n : ℕ) → ready_at bits n < 2 ^ 1
ready_below bits zero = omega arith
ready_below bits (suc n) = one_of (unwrap_or (slice_get bits n) true) where
  one_of : (b : Bool) → cond b 1 0 < 2 ^ 1
  one_of true = omega arith
  one_of false = omega arith

pub mapped_got : (ls : List Port) (i : ℕ) (l : Port) → slice_get ls i ≡ Some l → slice_get (widths ls) i ≡ Some l.bits
mapped_got [] i l e = cc
mapped_got (k ∷ ls) zero l e = let same : k ≡ l = cc in ap (λ (z : Port). Some z.bits) same
mapped_got (k ∷ ls) (suc i) l e = mapped_got ls i l e

pub listed : (P : ℕ → Type 0) (xs : List ℕ) → All P xs → AllByRecursion P xs
listed P [] a = tt
listed P (x ∷ xs) a = (All-head P x xs a, listed P xs (All-tail P x xs a))

-- what stands around a top gives it: a bit of reset, its scalars, and of each memory a bit and a number of its width where its cells fit
pub record GivesTop (m : ModuleTree) (env : Environment) (run : ℕ → Cycle) : Type 0 where
  pub reset : (n : ℕ) → (run n).net rst < 2 ^ 1
  pub scalars : (n i : ℕ) (l : Port) → slice_get (shape_of m).scalars i ≡ Some l → (run n).net (scalar l.name) ≡ get_or env.scalars i 0
  pub ack : (n i : ℕ) (l : Port) → slice_get (shape_of m).memories i ≡ Some l → (run n).net (m_ack l.name) < 2 ^ 1
  pub rdata : (n i : ℕ) (l : Port) → slice_get (shape_of m).memories i ≡ Some l → CellsFit run n l (get_or env.memories i []) → (run n).net (m_rdata l.name) < 2 ^ l.bits

bit_of : (b : Bool) → cond b 1 0 < 2 ^ 1
bit_of true = omega arith
bit_of false = omega arith

reset_bit : (run : ℕ → Cycle) → (run 0).net rst ≡ 1 → ((n : ℕ) → (run (suc n)).net rst ≡ 0) → (n : ℕ) → (run n).net rst < 2 ^ 1
reset_bit run first later zero = subst (λ v. v < 2 ^ 1) (sym first) (omega arith)
reset_bit run first later (suc n) = subst (λ v. v < 2 ^ 1) (sym (later n)) (omega arith)

-- an environment does, and so do memories that show a cell where they answer and nothing is stored
pub stands_give : (m : ModuleTree) (env : Environment) (run : ℕ → Cycle) → Stands m env run → GivesTop m env run
stands_give m env run s = record {
  reset = reset_bit run s.reset s.runs;
  scalars = λ n i l got. s.scalars n i l got;
  ack = λ n i l got. subst (λ v. v < 2 ^ 1) (sym ((s.memories i l got).ack n)) (ready_below (get_or env.ready i []) n);
  rdata = λ n i l got cells.
      subst (λ v. v < 2 ^ l.bits) (sym ((s.memories i l got).rdata n)) (got_below l.bits (cells_at run l.name (get_or env.memories i []) n) ((run n).net (m_addr l.name)) cells);
}

pub beside_gives : (m : ModuleTree) (env : Environment) (acks : ℕ → ℕ → Bool) (run : ℕ → Cycle) → StandsBeside m env acks run → GivesTop m env run
beside_gives m env acks run s = record {
  reset = reset_bit run s.reset s.runs;
  scalars = λ n i l got. s.scalars n i l got;
  ack = λ n i l got. subst (λ v. v < 2 ^ 1) (sym ((s.memories i l got).ack n)) (bit_of (acks i n));
  rdata = λ n i l got cells. (s.memories i l got).width n;
}

chosen_below : (w : ℕ) (b : Bool) (u v : ℕ) → u < 2 ^ w → v < 2 ^ w → cond b u v < 2 ^ w
chosen_below w true u v f g = f
chosen_below w false u v f g = g

-- and so do those that show given numbers of their width where they do not show a cell
pub among_gives : (m : ModuleTree) (env : Environment) (acks shows : ℕ → ℕ → Bool) (others : ℕ → ℕ → ℕ)
    → ((i n : ℕ) (l : Port) → slice_get (shape_of m).memories i ≡ Some l → others i n < 2 ^ l.bits) → (run : ℕ → Cycle) → StandsAmong m env acks shows others run → GivesTop m env run
among_gives m env acks shows others low run s = record {
  reset = reset_bit run s.reset s.runs;
  scalars = λ n i l got. s.scalars n i l got;
  ack = λ n i l got. subst (λ v. v < 2 ^ 1) (sym (s.ack n i l got)) (bit_of (acks i n));
  rdata = λ n i l got cells.
      let asked : ℕ = (run n).net (m_addr l.name) in
      let now : List ℕ = cells_at run l.name (get_or env.memories i []) n in
      subst (λ v. v < 2 ^ l.bits) (sym (s.rdata n i l got))
      (chosen_below l.bits (shows i n) (unwrap_or (slice_get now asked) 0) (others i n) (got_below l.bits now asked cells) (low i n l got));
}

module _ (ports : List Declaration) (before : List PortDecl) (p : PortDecl) (f : PortFits ports before p) where
  ack_bits : (l : Name) → ack_of p.name ≡ Some l → p.width ≡ 1
  unfolding ack_fits
  ack_bits l e = of_fits f.ack where
    of_fits : ack_fits ports p ≡ true → p.width ≡ 1
    of_fits h =
        let r = both_true (is_in p 1) (has_all_five ports l) (subst (λ (o : Option Name). option_map_or (λ x. is_in p 1 && has_all_five ports x) o true ≡ true) e h) in
        same_of p.width 1 (both_true (is_input p.direction) (p.width == 1) r.0).1

  reset_bits : bytes_eq p.name rst ≡ true → p.width ≡ 1
  unfolding fixed_fits
  reset_bits e = of_fits f.fixed where
    of_test : (a b i : Bool) → b ≡ true → (not (a || b) || i) ≡ true → i ≡ true
    of_test true true i e h = h
    of_test false true i e h = h
    of_test a false i e h = cc

    of_fits : fixed_fits p ≡ true → p.width ≡ 1
    of_fits h =
        let r = both_true (not (is_clk p.name || bytes_eq p.name rst) || is_in p 1) (not (bytes_eq p.name done) || is_out p 1) h in
        same_of p.width 1 (both_true (is_input p.direction) (p.width == 1) (of_test (is_clk p.name) (bytes_eq p.name rst) (is_in p 1) e r.0)).1

wdata_clock : (l : Name) → is_clk (m_wdata l) ≡ false
unfolding m_wdata clk
wdata_clock l = refl

module _ (ms : List ModuleTree) (names : first_violation (v2_uses ms) ≡ None) (tops : first_violation (v6_uses ms) ≡ None) (m : ModuleTree) (in_ms : Has ms m) (top : is_top ms m.name ≡ true)
    (env : Environment) (env_fits : FitsShape env (shape_of m)) (run : ℕ → Cycle) (s : GivesTop m env run) where
  abbrev ports : List Declaration
  ports = map port_declared m.ports

  -- a memory's label, by its ack
  abbrev memory : Name → Port
  memory l = record { name = l; bits = bits_of (declared m) (m_rdata l) }

  memory_there : (p : PortDecl) → Has m.ports p → (l : Name) → ack_of p.name ≡ Some l → Has (shape_of m).memories (memory l)
  memory_there p h l e = has_flat (λ (p : PortDecl). memory_label (declared m) (ack_of p.name)) m.ports p (memory l) h (subst (λ o. Has (memory_label (declared m) o) (memory l)) (sym e) (inl refl))

  memory_port : (l : Port) → Has (shape_of m).memories l → (p : PortDecl) × Has m.ports p × (ack_of p.name ≡ Some l.name) × (l ≡ memory l.name)
  memory_port l h = let t = of_flat (λ (p : PortDecl). memory_label (declared m) (ack_of p.name)) m.ports l h in let r = of_label (ack_of t.0.name) t.2 in (t.0, t.1, r.0, r.1) where
    of_label : (o : Option Name) → Has (memory_label (declared m) o) l → (o ≡ Some l.name) × (l ≡ memory l.name)
    of_label None h = absurd h
    of_label (Some x) (inl e) = let same : x ≡ l.name = ap (λ (k : Port). k.name) e in (ap (λ z. Some z) same, sym e ∙ ap memory same)
    of_label (Some x) (inr h) = absurd h

  module _ (n : ℕ) (p : PortDecl) (h : Has m.ports p) where
    scalar_below : (l : Name) → scalar_of p.name ≡ Some l → (run n).net p.name < 2 ^ p.width
    scalar_below l e =
        let k : Port = record { name = l; bits = p.width } in
        let there : Has (shape_of m).scalars k = has_flat (λ (p : PortDecl). scalar_label p (scalar_of p.name)) m.ports p k h (subst (λ o. Has (scalar_label p o) k) (sym e) (inl refl)) in
        let g = got_has (shape_of m).scalars k there in
        let low : get_or env.scalars g.0 0 < 2 ^ p.width = env_fits.numbers.scalars_fit g.0 p.width (mapped_got (shape_of m).scalars g.0 k g.2) in
        subst (λ z. (run n).net z < 2 ^ p.width) (sym (label_of_scalar p.name l e).0) (subst (λ v. v < 2 ^ p.width) (sym (s.scalars n g.0 k g.2)) low)

    ack_below : (l : Name) → ack_of p.name ≡ Some l → (run n).net p.name < 2 ^ p.width
    ack_below l e =
        let f = fits ms names tops m in_ms top p h in
        let g = got_has (shape_of m).memories (memory l) (memory_there p h l e) in
        subst (λ z. (run n).net z < 2 ^ p.width) (sym (ack_label p.name l e).0) (subst (λ w. (run n).net (m_ack l) < 2 ^ w) (sym (ack_bits ports f.0 p f.1 l e)) (s.ack n g.0 (memory l) g.2))

    rdata_below : OutsideFits m env run n → (l : Name) → rdata_of p.name ≡ Some l → (run n).net p.name < 2 ^ p.width
    rdata_below cells l e =
        let f = fits ms names tops m in_ms top p h in
        let a = rdata_label p.name l e in
        let five = (rdata_input ports f.0 p f.1 l e).1 in
        let q = named_port ms names tops m in_ms top (m_ack l) (five_of ms tops m in_ms l five).0 in
        let g = got_has (shape_of m).memories (memory l) (memory_there q.0 q.1 l (ap ack_of q.2 ∙ ack_of_label l a.1)) in
        let low : (run n).net (m_rdata l) < 2 ^ bits_of (declared m) (m_rdata l) = s.rdata n g.0 (memory l) g.2 (cells g.0 (memory l) g.2) in
        let bits : bits_of (declared m) (m_rdata l) ≡ p.width = ap (λ z. bits_of (declared m) z) (sym a.0) ∙ sym (port_bits ms names tops m in_ms top p h) in
        subst (λ z. (run n).net z < 2 ^ p.width) (sym a.0) (subst (λ w. (run n).net (m_rdata l) < 2 ^ w) bits low)

    reset_below : bytes_eq p.name rst ≡ true → (run n).net p.name < 2 ^ p.width
    reset_below e =
        let f = fits ms names tops m in_ms top p h in
        subst (λ z. (run n).net z < 2 ^ p.width) (sym ((bytes_decides p.name rst).0 e)) (subst (λ w. (run n).net rst < 2 ^ w) (sym (reset_bits ports f.0 p f.1 e)) (s.reset n))

    port_below : OutsideFits m env run n → is_input p.direction ≡ true → is_clk p.name ≡ false → (b : Bool) (so ao ro : Option Name) → bytes_eq p.name rst ≡ b → scalar_of p.name ≡ so → ack_of p.name ≡ ao → rdata_of p.name ≡ ro → (run n).net p.name < 2 ^ p.width
    port_below cells i c true so ao ro r es ea er = reset_below r
    port_below cells i c false (Some l) ao ro r es ea er = scalar_below l es
    port_below cells i c false None (Some l) ro r es ea er = ack_below l ea
    port_below cells i c false None None (Some l) r es ea er = rdata_below cells l er
    port_below cells i c false None None None r es ea er = let f = fits ms names tops m in_ms top p h in absurd (input_has_label ports f.0 p f.1 i c r es ea er)

  -- the top's inputs fit
  pub input_below : (n : ℕ) → OutsideFits m env run n → (x : Name) → net_kind_of (declared m) x ≡ Input → is_clk x ≡ false → (run n).net x < 2 ^ bits_of (declared m) x
  input_below n cells x e c =
      let p = input_port m x e in
      let low : (run n).net p.0.name < 2 ^ p.0.width =
      port_below n p.0 p.1 cells (of_input (is_input p.0.direction) (ap (λ (d : Declaration). d.net_kind) p.3 ∙ e)) (ap is_clk p.2 ∙ c) (bytes_eq p.0.name rst) (scalar_of p.0.name) (ack_of p.0.name) (rdata_of p.0.name) refl refl refl refl in
      subst (λ z. (run n).net z < 2 ^ bits_of (declared m) z) p.2 (subst (λ w. (run n).net p.0.name < 2 ^ w) (port_bits ms names tops m in_ms top p.0 p.1) low) where
        of_input : (b : Bool) → cond b Input Output ≡ Input → b ≡ true
        of_input true h = refl
        of_input false h = cc

  wdata_below : (n : ℕ) → NumbersFit m (run n) → (l : Name) → 0 < length l → has_all_five ports l ≡ true → (run n).net (m_wdata l) < 2 ^ bits_of (declared m) (m_rdata l)
  wdata_below n f l some five =
      let port = (five_of ms tops m in_ms l five).2 in
      let read : net_kind_is_read (net_kind_of (declared m) (m_wdata l)) ≡ true = ap (λ (d : Declaration). net_kind_is_read d.net_kind) (port_stands ports (items_declared m.items) (m_wdata l) port) ∙ port in
      subst (λ w. (run n).net (m_wdata l) < 2 ^ w) (data_agree ms names tops m in_ms top l some five) (f.nets (m_wdata l) read (wdata_clock l))

  stored_below : (n : ℕ) → NumbersFit m (run n) → (l : Port) (first : List ℕ) → Has (shape_of m).memories l → CellsFit run n l first → CellsFit run (suc n) l first
  stored_below n f l first h a =
      let q = memory_port l h in
      let g = fits ms names tops m in_ms top q.0 q.1 in
      let five = (ack_input ports g.0 q.0 g.1 l.name q.2).1 in
      let low : (run n).net (m_wdata l.name) < 2 ^ l.bits = subst (λ (k : Port). (run n).net (m_wdata l.name) < 2 ^ k.bits) (sym q.3) (wdata_below n f l.name (ack_label q.0.name l.name q.2).1 five) in
      either_below l.bits (((run n).net (m_ack l.name) == 1) && ((run n).net (m_we l.name) == 1)) (set_cell (cells_at run l.name first n) ((run n).net (m_addr l.name)) ((run n).net (m_wdata l.name))) (cells_at run l.name first n)
      (either_below l.bits (nat_lt ((run n).net (m_addr l.name)) (length (cells_at run l.name first n))) (slice_set (cells_at run l.name first n) ((run n).net (m_addr l.name)) ((run n).net (m_wdata l.name))) (cells_at run l.name first n)
      (put_below l.bits (cells_at run l.name first n) ((run n).net (m_addr l.name)) ((run n).net (m_wdata l.name)) a low) a)
      a

  -- the cells outside fit in the next cycle
  pub outside_next : (n : ℕ) → NumbersFit m (run n) → OutsideFits m env run n → OutsideFits m env run (suc n)
  outside_next n f cells = λ i l got. stored_below n f l (get_or env.memories i []) (has_got (shape_of m).memories i l got) (cells i l got)
