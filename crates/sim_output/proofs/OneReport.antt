-- A design in an environment has one report.
use Rattle.std.proofs.Common.{◌≡◌, ◌⊎◌, inl, inr, ℕ, zero, suc, ◌<◌, ◌≤◌, ◌&&◌, List, [], ◌∷◌, ◌++◌, map, Option, Some, None, refl, sym, ap, subst, ◌∙◌, arith, ⊎_elim}
use Rattle.std.specs.Prelude.{◌==◌, if◌then◌else◌, slice_index_or, true, false}
use Rattle.std.proofs.lemmas.Bool.{cases_lt, cases_eq}
use Rattle.std.proofs.lemmas.Option.{same_Some}
use Rattle.tapa_base.specs.declared.shape.Port.{Port}
use Rattle.tapa_base.specs.declared.token.Token.{Token}
use Rattle.tapa_base.specs.Lists.{Has}
use Rattle.tapa_base.proofs.Lists.{has_got}
use Rattle.run_data.specs.Report.{stream_line, memory_line, last_line}
use Rattle.vlog_tree.specs.declared.tree.Item.{Item}
use Rattle.vlog_tree.specs.declared.tree.Item.TheVariants.{Wire, Reg, Memory, Assign, Always, Instance}
use Rattle.vlog_tree.specs.Cycle.{Cycle, Path}
use Rattle.vlog_tree.specs.Environment.{Environment, shape_of, streams_of, tokens, token_of, carried, cells_at, set_cell, RaisesDone}
use Rattle.vlog_tree.specs.Form.{ModuleTree}
use Rattle.vlog_tree.specs.Labels.{done, m_ack, m_we, m_addr, m_wdata, s_wr, s_rdy, s_din}
use Rattle.vlog_tree.specs.Refused.{IsDesign}
use Rattle.vlog_tree.specs.Table.{Name, is_clk, declared, net_kind_of, net_kind_is_read}
use Rattle.vlog_design.specs.Designs.{DesignTree, TopOf}
use Rattle.vlog_run_laws.specs.runs.Filled.{IsFilled, HoldsFill, filled}
use Rattle.vlog_run_laws.specs.runs.OneRun.{SameHeld, BeginsWith, IsRunFrom, IsOnly, IsSameRun}
use Rattle.vlog_run_laws.proofs.runs.Filled as fill
use Rattle.vlog_run_laws.proofs.runs.Surround.{one_run_from}
use Rattle.cycle_sim.specs.Sims.{IsDoneAt, last_cycle}
use Rattle.cycle_sim.proofs.TopNets.{done_read, done_clock, ack_net, we_net, addr_net, wdata_net, wr_net, rdy_net, din_net}
use Rattle.sim_output.specs.Reports.{streams_to, memories_at, report_to, last_of, IsSimulated}
use Rattle.sim_output.proofs.Simulating.{first_same}
use Rattle.tapa_base.proofs.Got.{all_at, all_from}

-- ---- what is read off two runs that agree

module _ (a b : ℕ → Cycle) where
  abbrev Agree : Name → Type 0
  Agree x = (n : ℕ) → (a n).net x ≡ (b n).net x

  abbrev with_token : ℕ → ℕ → ℕ → List ℕ → List ℕ
  with_token wr rdy din l = if (wr == 1) && (rdy == 1) then l ++ din ∷ [] else l

  same_carried : (x : Name) → Agree (s_wr x) → Agree (s_rdy x) → Agree (s_din x) → (n : ℕ) → carried a x n ≡ carried b x n
  same_carried x wr rdy din zero = refl
  same_carried x wr rdy din (suc n) =
      let c = a (suc n) in
      let d = b (suc n) in
      ap (λ v. with_token v (c.net (s_rdy x)) (c.net (s_din x)) (carried a x n)) (wr (suc n))
      ∙ ap (λ v. with_token (d.net (s_wr x)) v (c.net (s_din x)) (carried a x n)) (rdy (suc n))
      ∙ ap (λ v. with_token (d.net (s_wr x)) (d.net (s_rdy x)) v (carried a x n)) (din (suc n))
      ∙ ap (with_token (d.net (s_wr x)) (d.net (s_rdy x)) (d.net (s_din x))) (same_carried x wr rdy din n)

  same_tokens : (w : ℕ) (x : Name) → Agree (s_wr x) → Agree (s_rdy x) → Agree (s_din x) → (n : ℕ) → tokens w a x n ≡ tokens w b x n
  same_tokens w x wr rdy din n = ap (map (token_of w)) (same_carried x wr rdy din n)

  abbrev with_store : ℕ → ℕ → ℕ → ℕ → List ℕ → List ℕ
  with_store ack we addr wdata cells = if (ack == 1) && (we == 1) then set_cell cells addr wdata else cells

  same_cells : (x : Name) (first : List ℕ) → Agree (m_ack x) → Agree (m_we x) → Agree (m_addr x) → Agree (m_wdata x) → (n : ℕ) → cells_at a x first n ≡ cells_at b x first n
  same_cells x first ack we addr wdata zero = refl
  same_cells x first ack we addr wdata (suc n) =
      let c = a n in
      let d = b n in
      ap (λ v. with_store v (c.net (m_we x)) (c.net (m_addr x)) (c.net (m_wdata x)) (cells_at a x first n)) (ack n)
      ∙ ap (λ v. with_store (d.net (m_ack x)) v (c.net (m_addr x)) (c.net (m_wdata x)) (cells_at a x first n)) (we n)
      ∙ ap (λ v. with_store (d.net (m_ack x)) (d.net (m_we x)) v (c.net (m_wdata x)) (cells_at a x first n)) (addr n)
      ∙ ap (λ v. with_store (d.net (m_ack x)) (d.net (m_we x)) (d.net (m_addr x)) v (cells_at a x first n)) (wdata n)
      ∙ ap (with_store (d.net (m_ack x)) (d.net (m_we x)) (d.net (m_addr x)) (d.net (m_wdata x))) (same_cells x first ack we addr wdata n)

-- the first cycle in which it is done is one
module _ (a b : ℕ → Cycle) (same : Agree a b done) (limit : ℕ) where
  there : (n : ℕ) → RaisesDone a n → RaisesDone b n
  there n d = (d.0, sym (same n) ∙ d.1)

  back : (n : ℕ) → RaisesDone b n → RaisesDone a n
  back n d = (d.0, same n ∙ d.1)

  pub done_once : (o p : Option ℕ) → IsDoneAt a limit o → IsDoneAt b limit p → o ≡ p
  done_once None None h k = refl
  done_once None (Some m) h k = absurd (h m k.0 (back m k.1))
  done_once (Some n) None h k = absurd (k n h.0 (there n h.1))
  done_once (Some n) (Some m) h k =
      ⊎_elim {C = Some n ≡ Some m}
      (λ (low : n < m). absurd (k.2 n low (there n h.1)))
      (λ (up : m ≤ n). ⊎_elim {C = Some n ≡ Some m}
      (λ (low : m < n). absurd (h.2 m low (back m k.1)))
      (λ (le : n ≤ m). let e : n ≡ m = omega arith in ap (λ z. Some z) e)
      (cases_lt m n))
      (cases_lt n m)

-- ---- two runs from zeros

same_held : (fill : ℕ) (c d e : Cycle) (it : Item) → HoldsFill fill c it → HoldsFill fill d it → SameHeld e c it → SameHeld e d it
same_held fill c d e (Reg w x) h k s = s ∙ h ∙ sym k
same_held fill c d e (Memory w m n) h k s = λ a low. s a low ∙ h a low ∙ sym (k a low)
same_held fill c d e (Wire w x) h k s = tt
same_held fill c d e (Assign x v) h k s = tt
same_held fill c d e (Always b) h k s = tt
same_held fill c d e (Instance m i connections) h k s = tt

begins_so : (ms : List ModuleTree) (top : ModuleTree) (one two : Path → Cycle) (nets : ℕ → Path → Cycle) → IsFilled ms top 0 one → IsFilled ms top 0 two → BeginsWith ms top one nets → BeginsWith ms top two nets
begins_so ms top one two nets h k s path m at =
    all_from (SameHeld (nets 0 path) (two path)) m.items
    (λ it has. same_held 0 (one path) (two path) (nets 0 path) it (all_at (HoldsFill 0 (one path)) m.items it (h path m at) has) (all_at (HoldsFill 0 (two path)) m.items it (k path m at) has)
    (all_at (SameHeld (nets 0 path) (one path)) m.items it (s path m at) has))

module _ (design : DesignTree) (is : IsDesign design.modules design.top) (env : Environment) (top : ModuleTree) (at : TopOf design top) (one two : Path → Cycle) (zeros : IsFilled design.modules top 0 one) (also : IsFilled design.modules top 0 two)
    (a b : ℕ → Path → Cycle) (runs : IsRunFrom design.modules top env one a) (too : IsRunFrom design.modules top env two b) where
  abbrev ms : List ModuleTree
  ms = design.modules

  only : IsOnly ms top (IsRunFrom ms top env one)
  only = one_run_from ms design.top top is at env one (fill.fits ms top 0 one zeros)

  first : IsSameRun ms top a only.run
  first = only.only a runs

  second : IsSameRun ms top b only.run
  second = only.only b (record { runs_in = too.runs_in; begins = begins_so ms top two one b also zeros too.begins })

  abbrev run : (ℕ → Path → Cycle) → ℕ → Cycle
  run nets n = nets n []

  pub agree : (x : Name) → net_kind_is_read (net_kind_of (declared top) x) ≡ true → is_clk x ≡ false → Agree (run a) (run b) x
  agree x read clock n = first.nets n [] top refl x read clock ∙ sym (second.nets n [] top refl x read clock)

  pub same_done : Agree (run a) (run b) done
  same_done = agree done (done_read ms design.top is top at) done_clock

  streams_same : (n : ℕ) → streams_to top (run a) n ≡ streams_to top (run b) n
  streams_same n =
      first_same (λ (l : Port) i. stream_line l.name (tokens l.bits (run a) l.name n)) (λ (l : Port) i. stream_line l.name (tokens l.bits (run b) l.name n)) (streams_of top)
      (λ i l got.
      let has : Has (streams_of top) l = has_got (streams_of top) i l got in
      let wr = wr_net ms design.top is top at l has in
      let rdy = rdy_net ms design.top is top at l has in
      let din = din_net ms design.top is top at l has in
      ap (λ (ts : List Token). stream_line l.name ts)
      (same_tokens (run a) (run b) l.bits l.name (agree (s_wr l.name) wr.0 wr.1) (agree (s_rdy l.name) rdy.0 rdy.1) (agree (s_din l.name) din.0 din.1) n))

  memories_same : (n : ℕ) → memories_at top env (run a) n ≡ memories_at top env (run b) n
  memories_same n =
      first_same (λ (l : Port) i. memory_line l.name (cells_at (run a) l.name (slice_index_or env.memories i []) n)) (λ (l : Port) i. memory_line l.name (cells_at (run b) l.name (slice_index_or env.memories i []) n)) (shape_of top).memories
      (λ i l got.
      let has : Has (shape_of top).memories l = has_got (shape_of top).memories i l got in
      let ack = ack_net ms design.top is top at l has in
      let we = we_net ms design.top is top at l has in
      let addr = addr_net ms design.top is top at l has in
      let wdata = wdata_net ms design.top is top at l has in
      ap (λ (cells : List ℕ). memory_line l.name cells)
      (same_cells (run a) (run b) l.name (slice_index_or env.memories i []) (agree (m_ack l.name) ack.0 ack.1) (agree (m_we l.name) we.0 we.1) (agree (m_addr l.name) addr.0 addr.1) (agree (m_wdata l.name) wdata.0 wdata.1) n))

  same_report : (n : ℕ) (last : _) → report_to top env (run a) n last ≡ report_to top env (run b) n last
  same_report n last =
      ap (λ (l : List ℕ). (l ++ memories_at top env (run a) n) ++ last_line last) (streams_same n)
      ∙ ap (λ (l : List ℕ). (streams_to top (run b) n ++ l) ++ last_line last) (memories_same n)

-- a design that runs in an environment up to a limit is done in one way, with one report
pub one_report : (design : DesignTree) → IsDesign design.modules design.top → (env : Environment) (limit : ℕ) (o p : Option ℕ) (r q : List ℕ)
    → IsSimulated design env limit o r → IsSimulated design env limit p q → (o ≡ p) × (r ≡ q)
one_report design is env limit o p r q h k =
    let top : h.top ≡ k.top = same_Some h.top k.top (sym h.is_top ∙ k.is_top) in
    let zeros : IsFilled design.modules h.top 0 k.contents = subst (λ (m : ModuleTree). IsFilled design.modules m 0 k.contents) (sym top) k.zeros in
    let run : IsRunFrom design.modules h.top env k.contents k.nets = subst (λ (m : ModuleTree). IsRunFrom design.modules m env k.contents k.nets) (sym top) k.run in
    let at = done_once (λ n. h.nets n []) (λ n. k.nets n []) (same_done design is env h.top h.is_top h.contents k.contents h.zeros zeros h.nets k.nets h.run run) limit o p h.done k.done in (
      at,
      h.shown
          ∙ same_report design is env h.top h.is_top h.contents k.contents h.zeros zeros h.nets k.nets h.run run (last_cycle limit o) (last_of limit o)
          ∙ ap (λ (m : ModuleTree). report_to m env (λ n. k.nets n []) (last_cycle limit o) (last_of limit o)) top
          ∙ ap (λ (z : Option ℕ). report_to k.top env (λ n. k.nets n []) (last_cycle limit z) (last_of limit z)) at
          ∙ sym k.shown,
    )

-- ---- there is a report

next_done : (run : ℕ → Cycle) (n : ℕ) → (o : Option ℕ) → IsDoneAt run n o → ((run (suc n)).net done ≡ 1) ⊎ ((run (suc n)).net done ≡ 1 → ⊥) → (p : Option ℕ) × IsDoneAt run (suc n) p
next_done run n (Some m) h d = (Some m, (let low : m ≤ n = h.0 in omega arith, h.1, h.2))
next_done run n None h (inl is) = (Some (suc n), (omega arith, (omega arith, is), λ m low d. h m (omega arith) d))
next_done run n None h (inr not) =
    (None, λ m le d. ⊎_elim {C = ⊥} (λ (low : m < suc n). h m (omega arith) d) (λ (up : suc n ≤ m). let e : m ≡ suc n = omega arith in not (subst (λ z. (run z).net done ≡ 1) e d.1)) (cases_lt m (suc n)))

pub some_done : (run : ℕ → Cycle) (limit : ℕ) → (o : Option ℕ) × IsDoneAt run limit o
some_done run zero = (None, λ n le d. (let low : 1 ≤ n = d.0 in omega arith))
some_done run (suc n) = let t = some_done run n in next_done run n t.0 t.1 (cases_eq ((run (suc n)).net done) 1)

pub some_report : (design : DesignTree) → IsDesign design.modules design.top → (env : Environment) (limit : ℕ) → (o : Option ℕ) × (r : List ℕ) × IsSimulated design env limit o r
some_report design is env limit =
    let top = is.one_top.0 in
    let at = is.one_top.1 in
    let contents : Path → Cycle = filled design.modules top 0 in
    let zeros : IsFilled design.modules top 0 contents = fill.is_filled design.modules top 0 is.sound (has_got design.modules design.top top at) in
    let only = one_run_from design.modules design.top top is at env contents (fill.fits design.modules top 0 contents zeros) in
    let run : ℕ → Cycle = λ n. only.run n [] in
    let d = some_done run limit in (
      d.0,
      report_to top env run (last_cycle limit d.0) (last_of limit d.0),
      record { top = top; is_top = at; contents = contents; zeros = zeros; nets = only.run; run = only.is; done = d.1; shown = refl },
    )
