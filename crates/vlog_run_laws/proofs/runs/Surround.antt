-- A design has one run from each power-up beside memories whose acks, and what they show of the cell that is asked for, are given, and
-- so it has one in each environment.
use Rattle.std.proofs.Common.{◌≡◌, ℕ, zero, suc, arith, ◌<◌, Bool, true, false, cond, ◌&&◌, List, [], ◌∷◌, Option, Some, None, length, get_or, inl, inr, refl, sym, ap, subst, ◌∙◌, map}
use Rattle.std.specs.Prelude.{◌⊎◌, ◌==◌, bytes_eq, if◌then◌else◌, slice_get, unwrap_or, count_by}
use Rattle.std.specs.List.{filter}
use Rattle.std.specs.Option.{option_map_or}
use Rattle.std.specs.Cmp.Lexicographic.{bytes_decides}
use Rattle.std.proofs.Math.Path.{fun_ext}
use Rattle.std.proofs.lemmas.Bool.Decides.{nat_tests}
use Rattle.std.proofs.lemmas.List.Sums.{sum_by-append}
use Rattle.tapa_base.specs.declared.shape.Port.{Port}
use Rattle.vlog_tree.specs.declared.tree.PortDecl.{PortDecl}
use Rattle.vlog_tree.specs.declared.table.Declaration.{Declaration}
use Rattle.vlog_tree.specs.declared.table.NetKind.TheVariants.{Input, Output}
use Rattle.vlog_tree.specs.Form.{ModuleTree, is_input}
use Rattle.vlog_tree.specs.Grounded.{IsGrounded}
use Rattle.tapa_base.specs.Lists.{Has}
use Rattle.vlog_tree.specs.Cycle.{Cycle, Path, Runs}
use Rattle.vlog_tree.specs.Table.{Name, bits_of, clk, is_clk, declared, port_declared, items_declared, net_kind_of, net_kind_is_read, net_kind_is_input, first_violation, one_if}
use Rattle.vlog_tree.specs.Labels.{rst, scalar, m_ack, m_rdata, m_addr, m_wdata, m_we, scalar_of, ack_of, rdata_of, read_of}
use Rattle.vlog_tree.specs.V2.{v2_uses}
use Rattle.vlog_tree.specs.V6.{v6_uses, is_top, has_all_five, has_port}
use Rattle.vlog_tree.specs.Environment.{Environment, shape_of, scalar_label, memory_label, ready_at, set_cell, cells_at}
use Rattle.vlog_tree.specs.Flattened.{FlatNet, parts}
use Rattle.vlog_tree.specs.Refused.{IsDesign}
use Rattle.tapa_base.proofs.Lists.{has_flat, of_flat, has_map, has_left, has_got}
use Rattle.vlog_run_laws.specs.runs.OneRun.{FitsPowerUp, BeginsWith, IsRunFrom, IsOnly}
use Rattle.vlog_run_laws.proofs.runs.Alone.{same_name, declared_once, below_two}
use Rattle.vlog_run_laws.proofs.runs.Drivers.{count_map}
use Rattle.vlog_run_laws.proofs.runs.Equations.{first_number}
use Rattle.vlog_run_laws.proofs.runs.Cycles.{port_stands}
use Rattle.vlog_run_laws.proofs.runs.TopPorts.{five_of, five_rdata, memory_clock, input_port}
use Rattle.vlog_run_laws.proofs.runs.Ports.{fits, named_port, input_net_kind, has_reset, scalar_input, ack_input, rdata_input, reset_input, input_has_label}
use Rattle.vlog_run_laws.proofs.runs.Labelled.{ack_is_no_scalar, rdata_is_no_scalar, rdata_is_no_ack, scalar_is_no_reset, ack_is_no_reset, rdata_is_no_reset, scalar_label as label_of_scalar, ack_label, rdata_label, ack_of_label, rdata_of_label}
use Rattle.vlog_run_laws.proofs.runs.Lookups.{place, lookup, AreDistinct, place_got, got_place, ArePortsDistinct, ports_distinct, labels_distinct}
use Rattle.vlog_run_laws.proofs.runs.Settled.{design_settles, top_tree, IsTopTree}
use Rattle.vlog_run_laws.proofs.runs.Run.{World, worlds, asked_at, run, runs, begins, inputs}
use Rattle.vlog_run_laws.proofs.runs.Same.{IsRunIn, IsDecided, same_from}

-- the number of the cycle, and the cells of the memories outside
pub record Outside : Type 0 where
  pub cycle : ℕ
  pub cells : Name → List ℕ

-- the cell at an address, or 0 past the end
abbrev pub cell_at : List ℕ → ℕ → ℕ
cell_at cells asked = unwrap_or (slice_get cells asked) 0

-- the top's inputs: reset in cycle 0 alone, the scalars of an environment, and beside memories that begin with its cells their acks, by
-- number and cycle, and what they show, by number, cycle and the cell that is asked for
pub record StandsAround (top : ModuleTree) (env : Environment) (acks : ℕ → ℕ → ℕ) (shows : ℕ → ℕ → ℕ → ℕ) (run : ℕ → Cycle) : Type 0 where
  pub reset : (run 0).net rst ≡ 1
  pub runs : (n : ℕ) → (run (suc n)).net rst ≡ 0
  pub scalars : (n i : ℕ) (l : Port) → slice_get (shape_of top).scalars i ≡ Some l → (run n).net (scalar l.name) ≡ get_or env.scalars i 0
  pub ack : (n i : ℕ) (l : Port) → slice_get (shape_of top).memories i ≡ Some l → (run n).net (m_ack l.name) ≡ acks i n
  pub rdata : (n i : ℕ) (l : Port) → slice_get (shape_of top).memories i ≡ Some l
      → (run n).net (m_rdata l.name) ≡ shows i n (cell_at (cells_at run l.name (get_or env.memories i []) n) ((run n).net (m_addr l.name)))

-- such a run of a design from these contents
pub record IsRunAround (ms : List ModuleTree) (top : ModuleTree) (env : Environment) (acks : ℕ → ℕ → ℕ) (shows : ℕ → ℕ → ℕ → ℕ) (contents : Path → Cycle) (nets : ℕ → Path → Cycle) : Type 0 where
  pub runs : Runs ms top nets
  pub stands : StandsAround top env acks shows (λ n. nets n [])
  pub begins : BeginsWith ms top contents nets

abbrev stored : Cycle → Name → List ℕ → List ℕ
stored c l cells = if (c.net (m_ack l) == 1) && (c.net (m_we l) == 1) then set_cell cells (c.net (m_addr l)) (c.net (m_wdata l)) else cells

pub later : (n : ℕ) → (suc n == 0) ≡ false
later n = grind (arith, nat_tests)

later_reset : (n : ℕ) → one_if (suc n == 0) ≡ 0
later_reset n = ap (λ b. one_if b) (later n)

pub clock_of_ack : (l : Name) → is_clk (m_ack l) ≡ false
unfolding m_ack clk
clock_of_ack l = refl

pub clock_of_we : (l : Name) → is_clk (m_we l) ≡ false
unfolding m_we clk
clock_of_we l = refl

pub clock_of_wdata : (l : Name) → is_clk (m_wdata l) ≡ false
unfolding m_wdata clk
clock_of_wdata l = refl

pub stored_same : (a a' w w' p p' d d' : ℕ) (cells : List ℕ) → a ≡ a' → w ≡ w' → p ≡ p' → d ≡ d'
    → cond ((a == 1) && (w == 1)) (set_cell cells p d) cells ≡ cond ((a' == 1) && (w' == 1)) (set_cell cells p' d') cells
stored_same a a' w w' p p' d d' cells e f g h = rw (e, f, g, h) refl

module _ (ms : List ModuleTree) (m : ModuleTree) (names : first_violation (v2_uses ms) ≡ None) (tops : first_violation (v6_uses ms) ≡ None) (in_ms : Has ms m) (top : is_top ms m.name ≡ true)
    (env : Environment) (acks : ℕ → ℕ → ℕ) (shows : ℕ → ℕ → ℕ → ℕ) where
  abbrev ports : List Declaration
  ports = map port_declared m.ports

  abbrev scalars : List Port
  scalars = (shape_of m).scalars

  abbrev memories : List Port
  memories = (shape_of m).memories

  abbrev give_data : Outside → Option Name → ℕ → ℕ
  give_data w o asked = option_map_or (λ l. shows (place memories l) w.cycle (cell_at (w.cells l) asked)) o 0

  abbrev give_memory : Outside → Option Name → Option Name → ℕ → ℕ
  give_memory w ao ro asked = option_map_or (λ l. acks (place memories l) w.cycle) ao (give_data w ro asked)

  abbrev give_label : Outside → Name → ℕ → ℕ
  give_label w x asked = option_map_or (λ l. lookup 0 scalars env.scalars l) (scalar_of x) (give_memory w (ack_of x) (rdata_of x) asked)

  -- reset in cycle 0, the scalars, and what the memories answer
  abbrev give_input : Outside → Name → ℕ → ℕ
  give_input w x asked = if bytes_eq x rst then (if w.cycle == 0 then 1 else 0) else give_label w x asked

  abbrev pub around : World Outside
  around = record {
    first = record { cycle = 0; cells = lookup [] memories env.memories };
    next = λ w c. record { cycle = suc w.cycle; cells = λ l. if has_all_five ports l then stored c l (w.cells l) else w.cells l };
    give = give_input;
  }

  cycle_is : (nets : ℕ → Path → Cycle) (n : ℕ) → (worlds Outside around nets n).cycle ≡ n
  cycle_is nets zero = refl
  cycle_is nets (suc n) = ap suc (cycle_is nets n)

  abbrev run_of : (ℕ → Path → Cycle) → ℕ → Cycle
  run_of nets n = nets n []

  cells_are : (nets : ℕ → Path → Cycle) (l : Name) → has_all_five ports l ≡ true → (n : ℕ) → (worlds Outside around nets n).cells l ≡ cells_at (run_of nets) l (lookup [] memories env.memories l) n
  cells_are nets l e zero = refl
  cells_are nets l e (suc n) =
      ap (λ b. cond b (stored (nets n []) l ((worlds Outside around nets n).cells l)) ((worlds Outside around nets n).cells l)) e
      ∙ ap (λ cells. stored (nets n []) l cells) (cells_are nets l e n)

  port_net : (c d : Cycle) → ((x : Name) → net_kind_is_read (net_kind_of (declared m) x) ≡ true → is_clk x ≡ false → c.net x ≡ d.net x) → (x : Name) → has_port ports x ≡ true → is_clk x ≡ false → c.net x ≡ d.net x
  port_net c d f x h n = f x (ap (λ (k : Declaration). net_kind_is_read k.net_kind) (port_stands ports (items_declared m.items) x h) ∙ h) n

  cells_decided : (w : Outside) (c d : Cycle) → ((x : Name) → net_kind_is_read (net_kind_of (declared m) x) ≡ true → is_clk x ≡ false → c.net x ≡ d.net x) → (l : Name) (b : Bool) → has_all_five ports l ≡ b
      → cond b (stored c l (w.cells l)) (w.cells l) ≡ cond b (stored d l (w.cells l)) (w.cells l)
  cells_decided w c d f l true e =
      let five = five_of ms tops m in_ms l e in
      stored_same (c.net (m_ack l)) (d.net (m_ack l)) (c.net (m_we l)) (d.net (m_we l)) (c.net (m_addr l)) (d.net (m_addr l)) (c.net (m_wdata l)) (d.net (m_wdata l)) (w.cells l)
      (port_net c d f (m_ack l) five.0 (clock_of_ack l)) (port_net c d f (m_we l) five.3 (clock_of_we l)) (port_net c d f (m_addr l) five.1 (memory_clock l)) (port_net c d f (m_wdata l) five.2 (clock_of_wdata l))
  cells_decided w c d f l false e = refl

  decided : IsDecided m Outside around
  decided w c d f = ap (λ cells. record { cycle = suc w.cycle; cells = cells }) (fun_ext (λ l. cells_decided w c d f l (has_all_five ports l) refl))

  scalar_of_label : (p : PortDecl) (o : Option Name) (l : Port) → Has (scalar_label p o) l → o ≡ Some l.name
  scalar_of_label p None l h = absurd h
  scalar_of_label p (Some x) l (inl e) = ap (λ (k : Port). Some k.name) e
  scalar_of_label p (Some x) l (inr h) = absurd h

  memory_of_label : (ds : List Declaration) (o : Option Name) (l : Port) → Has (memory_label ds o) l → o ≡ Some l.name
  memory_of_label ds None l h = absurd h
  memory_of_label ds (Some x) l (inl e) = ap (λ (k : Port). Some k.name) e
  memory_of_label ds (Some x) l (inr h) = absurd h

  scalar_port : (l : Port) → Has scalars l → (p : PortDecl) × Has m.ports p × (scalar_of p.name ≡ Some l.name)
  scalar_port l h = let t = of_flat (λ (p : PortDecl). scalar_label p (scalar_of p.name)) m.ports l h in (t.0, t.1, scalar_of_label t.0 (scalar_of t.0.name) l t.2)

  memory_port : (l : Port) → Has memories l → (p : PortDecl) × Has m.ports p × (ack_of p.name ≡ Some l.name)
  memory_port l h = let t = of_flat (λ (p : PortDecl). memory_label (declared m) (ack_of p.name)) m.ports l h in (t.0, t.1, memory_of_label (declared m) (ack_of t.0.name) l t.2)

  scalar_there : (p : PortDecl) → Has m.ports p → (x : Name) → scalar_of p.name ≡ Some x → (l : Port) × Has scalars l × (l.name ≡ x)
  scalar_there p h x e = (
    record { name = x; bits = p.width },
    has_flat (λ (p : PortDecl). scalar_label p (scalar_of p.name)) m.ports p _ h (subst (λ o. Has (scalar_label p o) (record { name = x; bits = p.width })) (sym e) (inl refl)),
    refl,
  )

  memory_there : (p : PortDecl) → Has m.ports p → (x : Name) → ack_of p.name ≡ Some x → (l : Port) × Has memories l × (l.name ≡ x)
  memory_there p h x e = (
    record { name = x; bits = bits_of (declared m) (m_rdata x) },
    has_flat (λ (p : PortDecl). memory_label (declared m) (ack_of p.name)) m.ports p _ h (subst (λ o. Has (memory_label (declared m) o) (record { name = x; bits = bits_of (declared m) (m_rdata x) })) (sym e) (inl refl)),
    refl,
  )

  distinct : ArePortsDistinct m.ports
  distinct = ports_distinct m.ports (λ p h.
      let low : count_by (λ (d : Declaration). bytes_eq d.name p.name) (declared m) < 2 = below_two _ (declared_once ms names m in_ms (port_declared p) (has_left ports (items_declared m.items) (port_declared p) (has_map port_declared m.ports p h))) in
      let split : count_by (λ (d : Declaration). bytes_eq d.name p.name) (declared m) ≡ _ = sum_by-append (λ (d : Declaration). one_if (bytes_eq d.name p.name)) ports (items_declared m.items) in
      let same : count_by (λ (d : Declaration). bytes_eq d.name p.name) ports ≡ count_by (λ (q : PortDecl). bytes_eq q.name p.name) m.ports = count_map (λ (d : Declaration). bytes_eq d.name p.name) port_declared m.ports in
      omega arith)

  scalar_single : (p : PortDecl) (o : Option Name) → (scalar_label p o ≡ []) ⊎ ((l : Port) × (scalar_label p o ≡ l ∷ []))
  scalar_single p None = inl refl
  scalar_single p (Some x) = inr (record { name = x; bits = p.width }, refl)

  memory_single : (ds : List Declaration) (o : Option Name) → (memory_label ds o ≡ []) ⊎ ((l : Port) × (memory_label ds o ≡ l ∷ []))
  memory_single ds None = inl refl
  memory_single ds (Some x) = inr (record { name = x; bits = bits_of ds (m_rdata x) }, refl)

  scalars_distinct : AreDistinct scalars
  scalars_distinct =
      labels_distinct (λ (p : PortDecl). scalar_label p (scalar_of p.name)) scalar (λ p. scalar_single p (scalar_of p.name))
      (λ p l h. sym (label_of_scalar p.name l.name (scalar_of_label p (scalar_of p.name) l h)).0) m.ports distinct

  memories_distinct : AreDistinct memories
  memories_distinct =
      labels_distinct (λ (p : PortDecl). memory_label (declared m) (ack_of p.name)) m_ack (λ p. memory_single (declared m) (ack_of p.name))
      (λ p l h. sym (ack_label p.name l.name (memory_of_label (declared m) (ack_of p.name) l h)).0) m.ports distinct

  -- what is given to each kind of input
  give_reset : (w : Outside) (asked : ℕ) → give_input w rst asked ≡ cond (w.cycle == 0) 1 0
  give_reset w asked = ap (λ b. cond b (cond (w.cycle == 0) 1 0) (give_label w rst asked)) (same_name rst)

  give_scalar : (w : Outside) (l : Name) (asked : ℕ) → scalar_of (scalar l) ≡ Some l → give_input w (scalar l) asked ≡ lookup 0 scalars env.scalars l
  give_scalar w l asked e =
      ap (λ b. cond b (cond (w.cycle == 0) 1 0) (give_label w (scalar l) asked)) (scalar_is_no_reset l)
      ∙ ap (λ o. option_map_or (λ l. lookup 0 scalars env.scalars l) o (give_memory w (ack_of (scalar l)) (rdata_of (scalar l)) asked)) e

  give_ack : (w : Outside) (l : Name) (asked : ℕ) → 0 < length l → give_input w (m_ack l) asked ≡ acks (place memories l) w.cycle
  give_ack w l asked some =
      ap (λ b. cond b (cond (w.cycle == 0) 1 0) (give_label w (m_ack l) asked)) (ack_is_no_reset l)
      ∙ ap (λ o. option_map_or (λ l. lookup 0 scalars env.scalars l) o (give_memory w (ack_of (m_ack l)) (rdata_of (m_ack l)) asked)) (ack_is_no_scalar l)
      ∙ ap (λ o. give_memory w o (rdata_of (m_ack l)) asked) (ack_of_label l some)

  give_rdata : (w : Outside) (l : Name) (asked : ℕ) → 0 < length l → give_input w (m_rdata l) asked ≡ shows (place memories l) w.cycle (cell_at (w.cells l) asked)
  give_rdata w l asked some =
      ap (λ b. cond b (cond (w.cycle == 0) 1 0) (give_label w (m_rdata l) asked)) (rdata_is_no_reset l)
      ∙ ap (λ o. option_map_or (λ l. lookup 0 scalars env.scalars l) o (give_memory w (ack_of (m_rdata l)) (rdata_of (m_rdata l)) asked)) (rdata_is_no_scalar l)
      ∙ ap (λ o. give_memory w o (rdata_of (m_rdata l)) asked) (rdata_is_no_ack l)
      ∙ ap (λ o. give_data w o asked) (rdata_of_label l some)

  asked_is : (nets : Path → Cycle) (l : Name) → 0 < length l → net_kind_of (declared m) (m_rdata l) ≡ Input → has_all_five ports l ≡ true → asked_at m nets (m_rdata l) ≡ (nets []).net (m_addr l)
  asked_is nets l some input five =
      let there = port_stands ports (items_declared m.items) (m_rdata l) (five_rdata ms tops m in_ms l five) in
      let in_port : net_kind_is_input (net_kind_of ports (m_rdata l)) ≡ true = ap (λ (d : Declaration). net_kind_is_input d.net_kind) (sym there) ∙ ap net_kind_is_input input in
      ap (λ b. number_of nets (cond b (filter (has_port ports) (read_of (rdata_of (m_rdata l)))) [])) in_port
      ∙ ap (λ o. number_of nets (filter (has_port ports) (read_of o))) (rdata_of_label l some)
      ∙ ap (λ b. number_of nets (cond b (m_addr l ∷ []) [])) (five_of ms tops m in_ms l five).1 where
        number_of : (Path → Cycle) → List Name → ℕ
        number_of nets names = first_number (λ k. (nets k.0).net k.1) (map (λ (y : Name). ([], y)) names)

  module _ (nets : ℕ → Path → Cycle) where
    abbrev world : ℕ → Outside
    world n = worlds Outside around nets n

    -- around a run whose inputs are given they stand
    module _ (given : (n : ℕ) (x : Name) → net_kind_of (declared m) x ≡ Input → (nets n []).net x ≡ give_input (world n) x (asked_at m (nets n) x)) where
      port_given : (n : ℕ) (p : PortDecl) → Has m.ports p → is_input p.direction ≡ true → (x : Name) → p.name ≡ x → (nets n []).net x ≡ give_input (world n) x (asked_at m (nets n) x)
      port_given n p h i x e = given n x (subst (λ z. net_kind_of (declared m) z ≡ Input) e (input_net_kind ms names tops m in_ms top p h i))

      reset_given : (n : ℕ) → (nets n []).net rst ≡ cond (n == 0) 1 0
      reset_given n =
          let q = named_port ms names tops m in_ms top rst (has_reset ms names tops m in_ms top) in
          let f = fits ms names tops m in_ms top q.0 q.1 in
          port_given n q.0 q.1 (reset_input ports f.0 q.0 f.1 q.2) rst q.2 ∙ give_reset (world n) (asked_at m (nets n) rst) ∙ ap (λ k. cond (k == 0) 1 0) (cycle_is nets n)

      scalar_given : (n : ℕ) (l : Port) → Has scalars l → (nets n []).net (scalar l.name) ≡ lookup 0 scalars env.scalars l.name
      scalar_given n l h =
          let q = scalar_port l h in
          let f = fits ms names tops m in_ms top q.0 q.1 in
          let r = label_of_scalar q.0.name l.name q.2 in
          port_given n q.0 q.1 (scalar_input ports f.0 q.0 f.1 l.name q.2) (scalar l.name) r.0 ∙ give_scalar (world n) l.name (asked_at m (nets n) (scalar l.name)) r.1

      -- what memory l shows in cycle n, were it the one of this number
      abbrev shown : ℕ → Port → ℕ → ℕ
      shown n l i = shows i n (cell_at (cells_at (run_of nets) l.name (get_or env.memories i []) n) ((nets n []).net (m_addr l.name)))

      ack_given : (n : ℕ) (l : Port) → Has memories l → (nets n []).net (m_ack l.name) ≡ acks (place memories l.name) n
      ack_given n l h =
          let q = memory_port l h in
          let f = fits ms names tops m in_ms top q.0 q.1 in
          let a = ack_label q.0.name l.name q.2 in
          let i = ack_input ports f.0 q.0 f.1 l.name q.2 in
          port_given n q.0 q.1 i.0 (m_ack l.name) a.0 ∙ give_ack (world n) l.name (asked_at m (nets n) (m_ack l.name)) a.1
          ∙ ap (λ k. acks (place memories l.name) k) (cycle_is nets n)

      rdata_given : (n : ℕ) (l : Port) → Has memories l → (nets n []).net (m_rdata l.name) ≡ shown n l (place memories l.name)
      rdata_given n l h =
          let q = memory_port l h in
          let f = fits ms names tops m in_ms top q.0 q.1 in
          let a = ack_label q.0.name l.name q.2 in
          let i = ack_input ports f.0 q.0 f.1 l.name q.2 in
          let d = named_port ms names tops m in_ms top (m_rdata l.name) (five_rdata ms tops m in_ms l.name i.1) in
          let g = fits ms names tops m in_ms top d.0 d.1 in
          let j = rdata_input ports g.0 d.0 g.1 l.name (ap rdata_of d.2 ∙ rdata_of_label l.name a.1) in
          let p = place memories l.name in
          port_given n d.0 d.1 j.0 (m_rdata l.name) d.2 ∙ give_rdata (world n) l.name (asked_at m (nets n) (m_rdata l.name)) a.1
          ∙ ap (λ k. shows p (world n).cycle (cell_at ((world n).cells l.name) k))
          (asked_is (nets n) l.name a.1 (subst (λ z. net_kind_of (declared m) z ≡ Input) d.2 (input_net_kind ms names tops m in_ms top d.0 d.1 j.0)) i.1)
          ∙ ap (λ cells. shows p (world n).cycle (cell_at cells ((nets n []).net (m_addr l.name)))) (cells_are nets l.name i.1 n)
          ∙ ap (λ k. shows p k (cell_at (cells_at (run_of nets) l.name (get_or env.memories p []) n) ((nets n []).net (m_addr l.name)))) (cycle_is nets n)

      pub stands : StandsAround m env acks shows (run_of nets)
      stands = record {
        reset = reset_given 0;
        runs = λ n. reset_given (suc n) ∙ later_reset n;
        scalars = λ n i l e. scalar_given n l (has_got scalars i l e) ∙ ap (λ j. get_or env.scalars j 0) (place_got scalars scalars_distinct i l e);
        ack = λ n i l e. ack_given n l (has_got memories i l e) ∙ ap (λ j. acks j n) (place_got memories memories_distinct i l e);
        rdata = λ n i l e. rdata_given n l (has_got memories i l e) ∙ ap (shown n l) (place_got memories memories_distinct i l e);
      }

    -- a run around which they stand has the inputs that are given
    module _ (s : StandsAround m env acks shows (run_of nets)) where
      scalar_at : (n : ℕ) (x : Name) (k : Port) → Has scalars k → k.name ≡ x → (nets n []).net (scalar x) ≡ lookup 0 scalars env.scalars x
      scalar_at n x k h e = let g = got_place scalars x k h e in ap (λ z. (nets n []).net (scalar z)) (sym g.2) ∙ s.scalars n (place scalars x) g.0 g.1

      ack_at : (n : ℕ) (x : Name) (k : Port) → Has memories k → k.name ≡ x → (nets n []).net (m_ack x) ≡ acks (place memories x) n
      ack_at n x k h e = let g = got_place memories x k h e in ap (λ z. (nets n []).net (m_ack z)) (sym g.2) ∙ s.ack n (place memories x) g.0 g.1

      rdata_at : (n : ℕ) (x : Name) (k : Port) → Has memories k → k.name ≡ x
          → (nets n []).net (m_rdata x) ≡ shows (place memories x) n (cell_at (cells_at (run_of nets) x (lookup [] memories env.memories x) n) ((nets n []).net (m_addr x)))
      rdata_at n x k h e =
          let g = got_place memories x k h e in
          subst (λ z. (nets n []).net (m_rdata z) ≡ shows (place memories x) n (cell_at (cells_at (run_of nets) z (lookup [] memories env.memories x) n) ((nets n []).net (m_addr z)))) g.2
          (s.rdata n (place memories x) g.0 g.1)

      reset_is : (n : ℕ) → (nets n []).net rst ≡ cond (n == 0) 1 0
      reset_is zero = s.reset
      reset_is (suc n) = s.runs n ∙ sym (later_reset n)

      label_is : (n : ℕ) (p : PortDecl) → Has m.ports p → is_input p.direction ≡ true → is_clk p.name ≡ false → bytes_eq p.name rst ≡ false → (so ao ro : Option Name) → scalar_of p.name ≡ so → ack_of p.name ≡ ao → rdata_of p.name ≡ ro
          → (nets n []).net p.name ≡ option_map_or (λ l. lookup 0 scalars env.scalars l) so (give_memory (world n) ao ro (asked_at m (nets n) p.name))
      label_is n p h i nc nr (Some l) ao ro es ea er =
          let t = scalar_there p h l es in
          let r = label_of_scalar p.name l es in
          ap (λ z. (nets n []).net z) r.0 ∙ scalar_at n l t.0 t.1 t.2
      label_is n p h i nc nr None (Some l) ro es ea er =
          let t = memory_there p h l ea in
          let a = ack_label p.name l ea in
          ap (λ z. (nets n []).net z) a.0 ∙ ack_at n l t.0 t.1 t.2 ∙ ap (λ k. acks (place memories l) k) (sym (cycle_is nets n))
      label_is n p h i nc nr None None (Some l) es ea er =
          let f = fits ms names tops m in_ms top p h in
          let j = rdata_input ports f.0 p f.1 l er in
          let a = rdata_label p.name l er in
          let q = named_port ms names tops m in_ms top (m_ack l) (five_of ms tops m in_ms l j.1).0 in
          let t = memory_there q.0 q.1 l (ap ack_of q.2 ∙ ack_of_label l a.1) in
          let v = place memories l in
          ap (λ z. (nets n []).net z) a.0 ∙ rdata_at n l t.0 t.1 t.2
          ∙ ap (λ k. shows v k (cell_at (cells_at (run_of nets) l (get_or env.memories v []) n) ((nets n []).net (m_addr l)))) (sym (cycle_is nets n))
          ∙ ap (λ cells. shows v (world n).cycle (cell_at cells ((nets n []).net (m_addr l)))) (sym (cells_are nets l j.1 n))
          ∙ ap (λ k. shows v (world n).cycle (cell_at ((world n).cells l) k))
          (sym (ap (λ z. asked_at m (nets n) z) a.0 ∙ asked_is (nets n) l a.1 (subst (λ z. net_kind_of (declared m) z ≡ Input) a.0 (input_net_kind ms names tops m in_ms top p h i)) j.1))
      label_is n p h i nc nr None None None es ea er = let f = fits ms names tops m in_ms top p h in absurd (input_has_label ports f.0 p f.1 i nc nr es ea er)

      by_reset : (n : ℕ) (p : PortDecl) → Has m.ports p → is_input p.direction ≡ true → is_clk p.name ≡ false → (b : Bool) → bytes_eq p.name rst ≡ b
          → (nets n []).net p.name ≡ cond b (cond ((world n).cycle == 0) 1 0) (give_label (world n) p.name (asked_at m (nets n) p.name))
      by_reset n p h i nc true e = ap (λ z. (nets n []).net z) ((bytes_decides p.name rst).0 e) ∙ reset_is n ∙ ap (λ k. cond (k == 0) 1 0) (sym (cycle_is nets n))
      by_reset n p h i nc false e = label_is n p h i nc e (scalar_of p.name) (ack_of p.name) (rdata_of p.name) refl refl refl

      pub inputs_stand : (n : ℕ) (x : Name) → net_kind_of (declared m) x ≡ Input → is_clk x ≡ false → (nets n []).net x ≡ give_input (world n) x (asked_at m (nets n) x)
      inputs_stand n x e nc =
          let p = input_port m x e in
          subst (λ z. (nets n []).net z ≡ give_input (world n) z (asked_at m (nets n) z)) p.2
          (by_reset n p.0 p.1 (of_input (is_input p.0.direction) (ap (λ (d : Declaration). d.net_kind) p.3 ∙ e)) (ap is_clk p.2 ∙ nc) (bytes_eq p.0.name rst) refl) where
            of_input : (b : Bool) → cond b Input Output ≡ Input → b ≡ true
            of_input true h = refl
            of_input false h = cc

module _ (ms : List ModuleTree) (place : ℕ) (m : ModuleTree) (d : IsDesign ms place) (at : slice_get ms place ≡ Some m)
    (env : Environment) (acks : ℕ → ℕ → ℕ) (shows : ℕ → ℕ → ℕ → ℕ) (contents : Path → Cycle) (fits_power_up : FitsPowerUp ms m contents) where
  settled : (n : FlatNet) → IsGrounded (parts ms m true) n
  settled = design_settles ms place d m at

  tree : IsTopTree ms m
  tree = top_tree ms place d m at

  abbrev outside_world : World Outside
  outside_world = around ms m d.sound.names d.outside tree.has tree.is_top env acks shows

  the_run : ℕ → Path → Cycle
  the_run = run ms m d.sound.names d.sound.drivers tree.has settled Outside outside_world contents

  is_run : IsRunAround ms m env acks shows contents the_run
  unfolding the_run
  is_run = record {
    runs = runs ms m d.sound.names d.sound.drivers tree.has settled Outside outside_world contents fits_power_up;
    stands = stands ms m d.sound.names d.outside tree.has tree.is_top env acks shows the_run (inputs ms m d.sound.names d.sound.drivers tree.has settled Outside outside_world contents);
    begins = begins ms m d.sound.names d.sound.drivers tree.has settled Outside outside_world contents;
  }

  in_world : (nets : ℕ → Path → Cycle) → IsRunAround ms m env acks shows contents nets → IsRunIn ms m Outside outside_world nets
  in_world nets r = record { runs = r.runs; inputs = inputs_stand ms m d.sound.names d.outside tree.has tree.is_top env acks shows nets r.stands }

  pub one_run_around : IsOnly ms m (IsRunAround ms m env acks shows contents)
  one_run_around = record {
    run = the_run;
    is = is_run;
    only = λ other r.
        same_from ms m d.sound.names d.sound.drivers d.outside tree.has tree.is_top settled Outside outside_world
        (decided ms m d.sound.names d.outside tree.has tree.is_top env acks shows) the_run other
        (in_world the_run is_run) (in_world other r) contents is_run.begins r.begins;
  }

-- where one run has a property, and another property says the same, one run has that
pub only_of : (ms : List ModuleTree) (m : ModuleTree) (P Q : (ℕ → Path → Cycle) → Type 0)
    → ((nets : ℕ → Path → Cycle) → P nets → Q nets) → ((nets : ℕ → Path → Cycle) → Q nets → P nets) → IsOnly ms m P → IsOnly ms m Q
only_of ms m P Q there back o = record { run = o.run; is = there o.run o.is; only = λ other q. o.only other (back other q) }

module _ (ms : List ModuleTree) (m : ModuleTree) (env : Environment) (contents : Path → Cycle) where
  -- the memories of an environment show the cell in every cycle
  abbrev env_acks : ℕ → ℕ → ℕ
  env_acks i n = ready_at (get_or env.ready i []) n

  abbrev AroundEnv : (ℕ → Path → Cycle) → Type 0
  AroundEnv nets = IsRunAround ms m env env_acks (λ i n cell. cell) contents nets

  env_there : (nets : ℕ → Path → Cycle) → AroundEnv nets → IsRunFrom ms m env contents nets
  env_there nets r = record {
    runs_in = record {
      runs = r.runs;
      stands = record {
        reset = r.stands.reset;
        runs = r.stands.runs;
        scalars = r.stands.scalars;
        memories = λ i l got. record { ack = λ n. r.stands.ack n i l got; rdata = λ n. r.stands.rdata n i l got };
      };
    };
    begins = r.begins;
  }

  env_back : (nets : ℕ → Path → Cycle) → IsRunFrom ms m env contents nets → AroundEnv nets
  env_back nets r = record {
    runs = r.runs_in.runs;
    stands = record {
      reset = r.runs_in.stands.reset;
      runs = r.runs_in.stands.runs;
      scalars = r.runs_in.stands.scalars;
      ack = λ n i l got. (r.runs_in.stands.memories i l got).ack n;
      rdata = λ n i l got. (r.runs_in.stands.memories i l got).rdata n;
    };
    begins = r.begins;
  }

pub one_run_from : (ms : List ModuleTree) (place : ℕ) (m : ModuleTree) → IsDesign ms place → slice_get ms place ≡ Some m → (env : Environment) (contents : Path → Cycle)
    → FitsPowerUp ms m contents → IsOnly ms m (IsRunFrom ms m env contents)
one_run_from ms place m d at env contents power_up =
    only_of ms m (AroundEnv ms m env contents) (IsRunFrom ms m env contents) (env_there ms m env contents) (env_back ms m env contents)
    (one_run_around ms place m d at env (env_acks ms m env contents) (λ i n cell. cell) contents power_up)
