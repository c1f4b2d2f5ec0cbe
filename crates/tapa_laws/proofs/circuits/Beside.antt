-- Two runs of a design, beside memories that answer alike in the cycles below some number, have the same outputs up to that cycle, if no
-- output rests on an input.
use Rattle.std.proofs.Common.{◌≡◌, ℕ, zero, suc, ◌<◌, ◌≤◌, Bool, true, false, cond, ◌&&◌, List, [], Some, None, refl, sym, ap, subst, ◌∙◌, map}
use Rattle.std.specs.Prelude.{◌==◌, bytes_eq, if◌then◌else◌, slice_get}
use Rattle.std.specs.Option.{option_map_or}
use Rattle.std.proofs.Math.Path.{fun_ext}
use Rattle.vlog_tree.specs.declared.table.Declaration.{Declaration}
use Rattle.vlog_tree.specs.declared.table.NetKind.{NetKind}
use Rattle.vlog_tree.specs.declared.table.NetKind.TheVariants.{Unknown, Input, Output, WireNet, Register, MemoryArray, ChildInstance}
use Rattle.vlog_tree.specs.Form.{ModuleTree}
use Rattle.vlog_tree.specs.Grounded.{IsGrounded}
use Rattle.tapa_base.specs.Lists.{Has}
use Rattle.vlog_tree.specs.Cycle.{Cycle, Path}
use Rattle.vlog_tree.specs.Table.{Name, clk, is_clk, declared, port_declared, items_declared, net_kind_of, net_kind_is_read, first_violation}
use Rattle.vlog_tree.specs.Labels.{rst, m_ack, m_addr, m_wdata, m_we, scalar_of, ack_of, rdata_of}
use Rattle.vlog_tree.specs.V2.{v2_uses}
use Rattle.vlog_tree.specs.V6.{v6_uses, is_top, has_all_five, has_port}
use Rattle.vlog_tree.specs.Environment.{Environment, shape_of, set_cell}
use Rattle.vlog_tree.specs.Flattened.{FlatNet, parts}
use Rattle.vlog_tree.specs.Refused.{IsDesign}
use Rattle.vlog_run_laws.specs.runs.Among.{IsRunAmong}
use Rattle.vlog_run_laws.proofs.runs.Cycles.{port_stands}
use Rattle.vlog_run_laws.proofs.runs.TopPorts.{five_of, memory_clock}
use Rattle.vlog_run_laws.proofs.runs.Lookups.{place, lookup}
use Rattle.vlog_run_laws.proofs.runs.Settled.{design_settles, top_tree, IsTopTree}
use Rattle.vlog_run_laws.proofs.runs.Run.{World, worlds, asked_at}
use Rattle.vlog_run_laws.proofs.runs.Same.{IsDecided}
use Rattle.vlog_run_laws.proofs.runs.Surround.{Outside, cell_at, StandsAround, around, inputs_stand, clock_of_ack, clock_of_wdata, clock_of_we, stored_same}
use Rattle.hw_build.specs.Order.{RestsOnNoInput}
use Rattle.tapa_laws.specs.circuits.Reactive.{net_kind_is_output, outputs_of_top}
use Rattle.tapa_laws.proofs.circuits.Unmoved.{output_same}
use Rattle.tapa_laws.proofs.circuits.Prefix.{IsRunBelow, allowed, held_below}

module _ (ms : List ModuleTree) (m : ModuleTree) (names : first_violation (v2_uses ms) ≡ None) (tops : first_violation (v6_uses ms) ≡ None) (in_ms : Has ms m)
    (top : is_top ms m.name ≡ true) (env : Environment) where
  abbrev world_of : (ℕ → ℕ → ℕ) → (ℕ → ℕ → ℕ → ℕ) → World Outside
  world_of acks shows = around ms m names tops in_ms top env acks shows

  -- ---- what is around the top in the next cycle is decided by the numbers of its nets

  module _ (acks : ℕ → ℕ → ℕ) (shows : ℕ → ℕ → ℕ → ℕ) where
    abbrev ports : List Declaration
    ports = map port_declared m.ports

    abbrev SameNets : Cycle → Cycle → Type 0
    SameNets c d = (x : Name) → net_kind_is_read (net_kind_of (declared m) x) ≡ true → is_clk x ≡ false → c.net x ≡ d.net x

    port_net : (c d : Cycle) → SameNets c d → (x : Name) → has_port ports x ≡ true → is_clk x ≡ false → c.net x ≡ d.net x
    port_net c d f x h n = f x (ap (λ (k : Declaration). net_kind_is_read k.net_kind) (port_stands ports (items_declared m.items) x h) ∙ h) n

    abbrev stored : Cycle → Name → List ℕ → List ℕ
    stored c l cells = if (c.net (m_ack l) == 1) && (c.net (m_we l) == 1) then set_cell cells (c.net (m_addr l)) (c.net (m_wdata l)) else cells

    cells_decided : (w : Outside) (c d : Cycle) → SameNets c d → (l : Name) (b : Bool) → has_all_five ports l ≡ b
        → cond b (stored c l (w.cells l)) (w.cells l) ≡ cond b (stored d l (w.cells l)) (w.cells l)
    cells_decided w c d f l true e =
        let five = five_of ms tops m in_ms l e in
        stored_same (c.net (m_ack l)) (d.net (m_ack l)) (c.net (m_we l)) (d.net (m_we l)) (c.net (m_addr l)) (d.net (m_addr l)) (c.net (m_wdata l)) (d.net (m_wdata l)) (w.cells l)
        (port_net c d f (m_ack l) five.0 (clock_of_ack l)) (port_net c d f (m_we l) five.3 (clock_of_we l))
        (port_net c d f (m_addr l) five.1 (memory_clock l)) (port_net c d f (m_wdata l) five.2 (clock_of_wdata l))
    cells_decided w c d f l false e = refl

    decided : IsDecided m Outside (world_of acks shows)
    decided w c d f = ap (λ cells. record { cycle = suc w.cycle; cells = cells }) (fun_ext (λ l. cells_decided w c d f l (has_all_five ports l) refl))

    cycle_is : (nets : ℕ → Path → Cycle) (n : ℕ) → (worlds Outside (world_of acks shows) nets n).cycle ≡ n
    cycle_is nets zero = refl
    cycle_is nets (suc n) = ap suc (cycle_is nets n)

  -- ---- memories that answer alike in the cycles below k give the same there

  module _ (acks acks' : ℕ → ℕ → ℕ) (shows shows' : ℕ → ℕ → ℕ → ℕ) (k : ℕ) (same_acks : (i n : ℕ) → n < k → acks i n ≡ acks' i n) (same_shows : (i n c : ℕ) → n < k → shows i n c ≡ shows' i n c) where
    abbrev one : World Outside
    one = world_of acks shows

    abbrev two : World Outside
    two = world_of acks' shows'

    worlds_same : (nets : ℕ → Path → Cycle) (n : ℕ) → worlds Outside one nets n ≡ worlds Outside two nets n
    worlds_same nets zero = refl
    worlds_same nets (suc n) = ap (λ w. one.next w (nets n [])) (worlds_same nets n)

    module _ (w : Outside) (low : w.cycle < k) (x : Name) (asked : ℕ) where
      abbrev given : (Name → ℕ) → (Name → ℕ) → ℕ
      given a d =
          if bytes_eq x rst then (if w.cycle == 0 then 1 else 0)
          else option_map_or (λ l. lookup 0 (shape_of m).scalars env.scalars l) (scalar_of x) (option_map_or a (ack_of x) (option_map_or d (rdata_of x) 0))

      abbrev ack_by : (ℕ → ℕ → ℕ) → Name → ℕ
      ack_by acks l = acks (place (shape_of m).memories l) w.cycle

      abbrev data_by : (ℕ → ℕ → ℕ → ℕ) → Name → ℕ
      data_by shows l = shows (place (shape_of m).memories l) w.cycle (cell_at (w.cells l) asked)

      give_same : one.give w x asked ≡ two.give w x asked
      give_same =
          ap (λ a. given a (data_by shows)) (fun_ext {f = ack_by acks} {g = ack_by acks'} (λ l. same_acks (place (shape_of m).memories l) w.cycle low))
          ∙ ap (λ d. given (ack_by acks') d) (fun_ext {f = data_by shows} {g = data_by shows'} (λ l. same_shows (place (shape_of m).memories l) w.cycle (cell_at (w.cells l) asked) low))

    first_below : (nets : ℕ → Path → Cycle) → StandsAround m env acks shows (λ n. nets n []) → (n : ℕ) (x : Name) → net_kind_of (declared m) x ≡ Input → is_clk x ≡ false
        → (nets n []).net x ≡ one.give (worlds Outside one nets n) x (asked_at m (nets n) x)
    first_below nets s n x e c = inputs_stand ms m names tops in_ms top env acks shows nets s n x e c

    second_below : (nets : ℕ → Path → Cycle) → StandsAround m env acks' shows' (λ n. nets n []) → (n : ℕ) → n < k → (x : Name) → net_kind_of (declared m) x ≡ Input → is_clk x ≡ false
        → (nets n []).net x ≡ one.give (worlds Outside one nets n) x (asked_at m (nets n) x)
    second_below nets s n low x e c =
        let w = worlds Outside two nets n in
        inputs_stand ms m names tops in_ms top env acks' shows' nets s n x e c
        ∙ sym (give_same w (subst (λ j. j < k) (sym (cycle_is acks' shows' nets n)) low) x (asked_at m (nets n) x))
        ∙ ap (λ w. one.give w x (asked_at m (nets n) x)) (sym (worlds_same nets n))

is_output : (s : NetKind) → net_kind_is_output s ≡ true → s ≡ Output
is_output Unknown h = cc
is_output Input h = cc
is_output Output h = refl
is_output WireNet h = cc
is_output Register h = cc
is_output MemoryArray h = cc
is_output ChildInstance h = cc

module _ (ms : List ModuleTree) (place : ℕ) (m : ModuleTree) (d : IsDesign ms place) (at : slice_get ms place ≡ Some m) (rests : RestsOnNoInput ms (is_top ms) m)
    (env : Environment) (contents : Path → Cycle) where
  settled : (n : FlatNet) → IsGrounded (parts ms m true) n
  settled = design_settles ms place d m at

  tree : IsTopTree ms m
  tree = top_tree ms place d m at

  module _ (answers answers' shown shown' : ℕ → ℕ → Bool) (others others' : ℕ → ℕ → ℕ) (k : ℕ)
      (same_answers : (i n : ℕ) → n < k → answers i n ≡ answers' i n) (same_shown : (i n : ℕ) → n < k → shown i n ≡ shown' i n) (same_others : (i n : ℕ) → n < k → others i n ≡ others' i n)
      (a b : ℕ → Path → Cycle) (ra : IsRunAmong ms m env answers shown others contents a) (rb : IsRunAmong ms m env answers' shown' others' contents b) where
    abbrev acks : (ℕ → ℕ → Bool) → ℕ → ℕ → ℕ
    acks t i n = if t i n then 1 else 0

    abbrev shows : (ℕ → ℕ → Bool) → (ℕ → ℕ → ℕ) → ℕ → ℕ → ℕ → ℕ
    shows t o i n cell = if t i n then cell else o i n

    abbrev the_world : World Outside
    the_world = around ms m d.sound.names d.outside tree.has tree.is_top env (acks answers) (shows shown others)

    same_acks : (i n : ℕ) → n < k → acks answers i n ≡ acks answers' i n
    same_acks i n low = ap (λ t. cond t 1 0) (same_answers i n low)

    same_shows : (i n c : ℕ) → n < k → shows shown others i n c ≡ shows shown' others' i n c
    same_shows i n c low = ap (λ t. cond t c (others i n)) (same_shown i n low) ∙ ap (λ o. cond (shown' i n) c o) (same_others i n low)

    stands_around : (t s : ℕ → ℕ → Bool) (o : ℕ → ℕ → ℕ) (nets : ℕ → Path → Cycle) → IsRunAmong ms m env t s o contents nets → StandsAround m env (acks t) (shows s o) (λ n. nets n [])
    stands_around t s o nets r = record { reset = r.stands.reset; runs = r.stands.runs; scalars = r.stands.scalars; ack = r.stands.ack; rdata = r.stands.rdata }

    below_a : IsRunBelow ms m Outside the_world k a
    below_a = record {
      runs = ra.runs;
      inputs = λ n low x e c.
          first_below ms m d.sound.names d.outside tree.has tree.is_top env (acks answers) (acks answers') (shows shown others) (shows shown' others') k same_acks same_shows
          a (stands_around answers shown others a ra) n x e c;
    }

    below_b : IsRunBelow ms m Outside the_world k b
    below_b = record {
      runs = rb.runs;
      inputs = λ n low x e c.
          second_below ms m d.sound.names d.outside tree.has tree.is_top env (acks answers) (acks answers') (shows shown others) (shows shown' others') k same_acks same_shows
          b (stands_around answers' shown' others' b rb) n low x e c;
    }

    net_same : (n : ℕ) → n ≤ k → (x : Name) → net_kind_of (map port_declared m.ports) x ≡ Output → (a n []).net x ≡ (b n []).net x
    net_same n low x output =
        output_same ms m d.sound.names d.sound.drivers d.outside tree.has tree.is_top x output rests settled (a n) (b n) (allowed ms m a ra.runs n) (allowed ms m b rb.runs n)
        (held_below ms m d.sound.names d.sound.drivers d.outside tree.has tree.is_top settled Outside the_world
        (decided ms m d.sound.names d.outside tree.has tree.is_top env (acks answers) (shows shown others))
        k a b below_a below_b contents ra.begins rb.begins n low)

    by_kind : (n : ℕ) → n ≤ k → (x : Name) (t : Bool) → net_kind_is_output (net_kind_of (map port_declared m.ports) x) ≡ t → cond t ((a n []).net x) 0 ≡ cond t ((b n []).net x) 0
    by_kind n low x true e = net_same n low x (is_output _ e)
    by_kind n low x false e = refl

    pub outputs_same : (n : ℕ) → n ≤ k → (x : Name) → outputs_of_top m (λ n. a n []) n x ≡ outputs_of_top m (λ n. b n []) n x
    outputs_same n low x = by_kind n low x (net_kind_is_output (net_kind_of (map port_declared m.ports) x)) refl
