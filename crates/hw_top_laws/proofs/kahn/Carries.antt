-- What a program's circuit carries in a run.
use Rattle.std.proofs.Common.{◌≡◌, ℕ, zero, suc, ◌<◌, Bool, true, false, ◌&&◌, List, [], ◌∷◌, ◌++◌, length, Option, Some, refl, sym, ap, subst, ◌∙◌, arith, not, None, ⊎_elim}
use Rattle.std.specs.Prelude.{◌↔◌, ◌==◌, if◌then◌else◌, option_map, slice_get, slice_index, slice_index_or, unwrap_or}
use Rattle.std.proofs.lemmas.Bool.{eq-eqb, eqb-true, lt-ltb, cases_eq, ne_eqb}
use Rattle.std.proofs.lemmas.List.{get_or-map}
use Rattle.std.proofs.lemmas.Option.{slice_get_within, slice_get-get_or, get_or_from_slice_get}
use Rattle.tapa_base.specs.declared.token.Token.{Token}
use Rattle.tapa_syntax.specs.WellFormed.{IsWellFormed}
use Rattle.tapa_syntax.specs.declared.program.Instance.{Instance}
use Rattle.tapa_syntax.specs.declared.program.Leaf.{Leaf}
use Rattle.tapa_syntax.specs.declared.program.Memory.{Memory}
use Rattle.tapa_syntax.specs.declared.program.Program.{Program}
use Rattle.tapa_syntax.specs.declared.program.Stream.{Stream}
use Rattle.vlog_tree.specs.Cycle.{Cycle, Path}
use Rattle.vlog_tree.specs.Environment.{Environment, FitsShape, RaisesDone, shape_of, cells_at, carried as carried_bits, token_of}
use Rattle.vlog_run_laws.specs.Beside.{RunsBeside, answers_in}
use Rattle.vlog_run_laws.proofs.widths.Beside.{runs_beside}
use Rattle.vlog_tree.specs.Form.{ModuleTree}
use Rattle.vlog_tree.specs.Labels.{done, s_din, s_wr, s_rdy, m_addr, m_wdata, m_we}
use Rattle.kahn_model.specs.Cells.{cells_at as cells_of, memory_at, owner_of}
use Rattle.kahn_model.specs.Counts.{written, next}
use Rattle.kahn_model.specs.Network.{Network}
use Rattle.kahn_model.specs.Outcome.{HaveJoinedEnded}
use Rattle.kahn_model.specs.ProgramNetwork.{is_detached as is_left}
use Rattle.kahn_model.specs.Start.{kinds_in, leaf_state, instance_state, first_state, network_of}
use Rattle.kahn_model.specs.Timed.{Clock, count_at}
use Rattle.task_fsm.specs.declared.machine.Fsm.{Fsm}
use Rattle.hw_lines.specs.declared.nets.Net.TheVariants.{Ended, Addr, Wdata, We}
use Rattle.hw_lines.specs.Machine.{put_in, step_in}
use Rattle.hw_lines.specs.Runs.{number_at, bit_at, history_at, part_at, stores_to, by_act, AsksAs}
use Rattle.hw_lines.specs.Signals.{Streams, History, Part}
use Rattle.hw_network_laws.specs.network.Clocked.{IsClocked}
use Rattle.hw_network_laws.specs.network.Channel.{carried}
use Rattle.hw_network_laws.specs.network.Joined.{AreJoinedOver, DoneIsOfJoined}
use Rattle.hw_network_laws.proofs.network.Ports.{is_instance}
use Rattle.hw_network_laws.proofs.network.Cells.{hold_cells, is_the_memory, not_the_memory}
use Rattle.hw_network_laws.proofs.network.Joined.{done_is_of_joined}
use Rattle.hw_network_laws.proofs.network.Together.{in_step}
use Rattle.hw_top_lines.specs.Designs.{AreShort}
use Rattle.hw_top_lines.specs.Names.{task_instance}
use Rattle.hw_top_lines.specs.Texts.{token_bits, top_tree, is_detached, memory_name}
use Rattle.hw_top_laws.specs.runs.Designs.{IsCircuit}
use Rattle.hw_top_laws.specs.runs.Parts.{bit_of, token_in, streams_seen, memory_before, rows_of, instance_run, instance_rows}
use Rattle.circuit_meaning.specs.Carries.{carried_by}
use Rattle.circuit_meaning.specs.Clock.{network, answer_of, bound_answers}
use Rattle.hw_top_laws.specs.kahn.Carries.{CircuitsCarryStreams, CircuitsCarryBeside}
use Rattle.circuit_meaning.specs.Asked.{request_at, ShowsRequest, act_of_tick, Nothing, Load, Store, request_by, request_of}
use Rattle.hw_top_laws.proofs.kahn.Done.{told, only, end_is, end_low}
use Rattle.hw_top_laws.proofs.kahn.Networks.{parts, histories, design, are_machines, label_is, in_clock}
use Rattle.hw_network_laws.proofs.modules.Channels.{push}
use Rattle.tapa_base.proofs.Got.{some_at as item_at}
use Rattle.vlog_tree.specs.Table.{Name, one_if}
use Rattle.kahn_model.specs.declared.tick.Action.TheVariants.{Load as LoadAct, Store as StoreAct}
use Rattle.task_fsm.specs.Run.{StateStep, Performs}
use Rattle.hw_lines.specs.Nets.{name}
use Rattle.hw_lines.specs.Shape.{Shape}
use Rattle.hw_network_laws.specs.modules.Designs.{AreMachines, HasMachine}
use Rattle.hw_network_laws.specs.modules.Tasks.{shape_for}
use Rattle.hw_network_laws.specs.network.Asked.{act_of_step}
use Rattle.hw_network_laws.proofs.network.Asked.{machines_stand_at_next}
use Rattle.hw_top_laws.proofs.runs.Joined.{place_at, cell_at, store_at}

-- what ports with these numbers show, where positions are bound so and position k is the one that is bound to memory m
module _ (c : Cycle) (x : Name) (bound : ℕ → Option ℕ) (m k : ℕ) (here : bound k ≡ Some m) (once : (q : ℕ) → bound q ≡ Some m → q ≡ k) (run : ℕ → Cycle) (n : ℕ)
    (addr : number_at run (Addr k) n ≡ c.net (m_addr x)) (wdata : number_at run (Wdata k) n ≡ c.net (m_wdata x)) (we : number_at run (We k) n ≡ c.net (m_we x)) where
  load : (q a : ℕ) → number_at run (We k) n ≡ 0 → (q ≡ k → number_at run (Addr k) n ≡ a) → ShowsRequest c x (request_by bound m (Some (LoadAct q a)))
  load q a off asks =
      ⊎_elim {C = ShowsRequest c x (request_by bound m (Some (LoadAct q a)))}
      (λ (e : q ≡ k).
      subst (λ (b : Bool). ShowsRequest c x (if b then Load a else Nothing)) (sym (is_the_memory (bound q) m (ap bound e ∙ here))) (sym we ∙ off, sym addr ∙ asks e))
      (λ (d : q ≡ k → ⊥).
      subst (λ (b : Bool). ShowsRequest c x (if b then Load a else Nothing)) (sym (not_the_memory (bound q) m (λ e. d (once q e)))) (sym we ∙ off))
      (cases_eq q k)

  store : (q a v : ℕ) → number_at run (We k) n ≡ one_if (q == k) → (q ≡ k → (number_at run (Addr k) n ≡ a) × (number_at run (Wdata k) n ≡ v)) → ShowsRequest c x (request_by bound m (Some (StoreAct q a v)))
  store q a v is asks =
      ⊎_elim {C = ShowsRequest c x (request_by bound m (Some (StoreAct q a v)))}
      (λ (e : q ≡ k).
      let two = asks e in
      subst (λ (b : Bool). ShowsRequest c x (if b then Store a v else Nothing)) (sym (is_the_memory (bound q) m (ap bound e ∙ here)))
      (sym we ∙ is ∙ ap one_if (eq-eqb q k e), sym addr ∙ two.0, sym wdata ∙ two.1))
      (λ (d : q ≡ k → ⊥).
      subst (λ (b : Bool). ShowsRequest c x (if b then Store a v else Nothing)) (sym (not_the_memory (bound q) m (λ e. d (once q e)))) (sym we ∙ is ∙ ap one_if (ne_eqb q k d)))
      (cases_eq q k)

  shows : (f : ℕ → ℕ) (t : StateStep) (ended : Bool) → number_at run (We k) n ≡ one_if (not ended && by_act (stores_to k) t) → AsksAs run n k t
      → ShowsRequest c x (request_by bound m (if ended then None else act_of_step f t))
  shows f t true is asks = sym we ∙ is
  shows f (Performs (LoadAct q a) pc σ) false is asks = load q a is asks
  shows f (Performs (StoreAct q a v) pc σ) false is asks = store q a v is asks
  shows f _ false is asks = sym we ∙ is

module _ (program : Program) (w : IsWellFormed program) (added : List ℕ) (short : AreShort added) (machines : ℕ → Option Fsm) (all : List ModuleTree) (place : ℕ) (c : IsCircuit program added machines all place) (env : Environment)
    (env_fits : FitsShape env (shape_of (top_tree program added))) (acks : ℕ → ℕ → Bool) (nets : ℕ → Path → Cycle) (r : RunsBeside all (top_tree program added) env acks nets) (seen : ℕ → ℕ → ℕ → Bool)
    (same : (i : ℕ) (x : Instance) (leaf : Leaf) → slice_get program.instances.items i ≡ Some x → slice_get program.bodies.items x.body ≡ Some leaf → (n m : ℕ) → m < length leaf.memories.items → acks (slice_index x.memories.items m) n ≡ seen i m n) where
  abbrev T : Streams
  T = streams_seen program nets

  abbrev net : Network
  net = network program env

  abbrev clock : Clock
  clock = record { latency = slice_index added; answers = seen }

  abbrev top : ℕ → Cycle
  top n = nets n []

  abbrev h : ℕ → History
  h = histories program w added short machines all place c env env_fits acks nets r

  abbrev p : ℕ → Part
  p = parts program w added short machines all place c env env_fits acks nets r

  machines_are : AreMachines program machines (instance_run program nets) (instance_rows program env nets) p h
  machines_are = are_machines program w added short machines all place c env env_fits acks nets r

  clocked : IsClocked net clock p T h
  clocked = in_clock program w added short machines all place c env env_fits acks nets r seen same

  size_is : net.size ≡ length program.instances.items
  unfolding network_of
  size_is = refl

  -- ---- the tokens on the wires are those of the streams

  module _ (s : ℕ) (q : Stream) (at : slice_get program.streams.items s ≡ Some q) where
    abbrev f : ℕ → Token
    f = token_of (token_bits q.kind)

    put_is : (n : ℕ) → put_in T s n ≡ (if ((top n).net (s_wr q.label) == 1) && ((top n).net (s_rdy q.label) == 1) then f ((top n).net (s_din q.label)) ∷ [] else [])
    put_is n = ap (λ o. if bit_of o s_wr (top n) && bit_of o s_rdy (top n) then token_in o s_din (top n) ∷ [] else []) at

    pub seen_is : (n : ℕ) → carried T s (suc n) ≡ carried_by nets q n
    seen_is zero = refl
    seen_is (suc n) =
        ap (λ b. carried T s (suc n) ++ (if b then put_in T s (suc n) else [])) (lt-ltb 0 (suc n) (omega arith))
        ∙ ap (λ l. l ++ put_in T s (suc n)) (seen_is n)
        ∙ ap (λ l. carried_by nets q n ++ l) (put_is (suc n))
        ∙ push f (((top (suc n)).net (s_wr q.label) == 1) && ((top (suc n)).net (s_rdy q.label) == 1)) (carried_bits top q.label n) ((top (suc n)).net (s_din q.label))

  -- ---- the end of each instance

  module _ (i : ℕ) (x : Instance) (leaf : Leaf) (at : slice_get program.instances.items i ≡ Some x) (body : slice_get program.bodies.items x.body ≡ Some leaf) where
    over_is : (n : ℕ) → (h i).ended n ≡ (number_at (λ k. nets k (task_instance x.label ∷ [])) Ended n == 1)
    over_is n =
        ap (λ (z : History). z.ended n) (machines_are.history i x leaf (c.tasks i x leaf at body).machine at body (c.tasks i x leaf at body).is)
        ∙ ap (λ l. bit_at (λ k. nets k (task_instance l ∷ [])) Ended n) (label_is program w added short machines all place c env env_fits acks nets r i x at)

    left_is : is_detached (slice_get program.instances.items i) ≡ net.detached i
    unfolding network_of
    left_is = ap is_detached at ∙ sym (ap is_left at)

  done_over : (n : ℕ) → (top n).net done ≡ 1 → AreJoinedOver net h n
  done_over n is i low joined =
      let z = size_is in
      let l : i < length program.instances.items = omega (arith, low, z) in
      let x = item_at program.instances.items i l in
      let leaf = w.instances i x.0 x.1 in
      let one = only program w added short machines all place c env env_fits acks nets r n is i l (left_is i x.0 leaf.0 x.1 leaf.1.body ∙ joined) (end_low program w added short machines all place c env env_fits acks nets r i x.0 leaf.0 x.1 leaf.1.body n) in
      over_is i x.0 leaf.0 x.1 leaf.1.body n
      ∙ eq-eqb (number_at (λ k. nets k (task_instance x.0.label ∷ [])) Ended n) 1 (sym (end_is program w added short machines all place c env env_fits acks nets r i x.0 leaf.0 x.1 leaf.1.body n) ∙ one)

  over_done : (n : ℕ) → AreJoinedOver net h n → (top n).net done ≡ 1
  over_done n over =
      told program w added short machines all place c env env_fits acks nets r n
      (λ i l left.
      let z = size_is in
      let x = item_at program.instances.items i l in
      let leaf = w.instances i x.0 x.1 in
      let ended = over i (omega (arith, l, z)) (sym (left_is i x.0 leaf.0 x.1 leaf.1.body) ∙ left) in
      end_is program w added short machines all place c env env_fits acks nets r i x.0 leaf.0 x.1 leaf.1.body n
      ∙ eqb-true (number_at (λ k. nets k (task_instance x.0.label ∷ [])) Ended n) 1 (sym (over_is i x.0 leaf.0 x.1 leaf.1.body n) ∙ ended))

  -- ---- memories

  module _ (m : ℕ) (o : Memory) (at : slice_get program.memories.items m ≡ Some o) (x : Instance) (leaf : Leaf) (owner : slice_get program.instances.items o.owner ≡ Some x) (body : slice_get program.bodies.items x.body ≡ Some leaf) (k : ℕ) (bound : slice_get x.memories.items k ≡ Some m) where
    abbrev i : ℕ
    i = o.owner

    -- the machine of the owner
    H : HasMachine program env.scalars env.memories x leaf (machines i) (instance_run program nets i) (instance_rows program env nets i) T
    H = (design program w added short machines all place c env env_fits acks nets r).tasks i x leaf owner body

    abbrev S : Shape
    S = shape_for leaf H.machine

    abbrev run : ℕ → Cycle
    run = instance_run program nets i

    abbrev rows : ℕ → List (List ℕ)
    rows = instance_rows program env nets i

    low_at : (q : ℕ) (y : ℕ) → slice_get x.memories.items q ≡ Some y → q < length leaf.memories.items
    low_at q y got =
        let l = slice_get_within x.memories.items q y got in
        let e = (is_instance program w i x leaf owner body).memories_len in
        omega (arith, l, e)

    inside : i < net.size
    inside =
        let l = slice_get_within program.instances.items i x owner in
        let e = size_is in
        omega (arith, l, e)

    history_is : h i ≡ history_at S run rows
    history_is = machines_are.history i x leaf H.machine owner body H.is

    abbrev positions : ℕ → Option ℕ
    positions = memory_at (slice_get program.instances.items i)

    at_position : (q : ℕ) → positions q ≡ slice_get x.memories.items q
    at_position q = ap (λ (y : Option Instance). memory_at y q) owner

    abbrev step : ℕ → StateStep
    step n = step_in (part_at S run rows) (history_at S run rows) (suc n)

    -- the act of the next tick is that of the machine's step
    act_is : (n : ℕ) → act_of_tick (next net (count_at net clock (suc n)) i) ≡ (if bit_at run Ended (suc n) then None else act_of_step (p i).bound (step n))
    act_is n =
        machines_stand_at_next net clock p T h clocked n i inside
        ∙ ap (λ (z : History). if z.ended (suc n) then None else act_of_step (p i).bound (step_in (p i) z (suc n))) history_is
        ∙ ap (λ (z : Part). if bit_at run Ended (suc n) then None else act_of_step (p i).bound (step_in z (history_at S run rows) (suc n)))
        (machines_are.part i x leaf H.machine owner body H.is)

    -- ---- the ports of the task are those of the circuit

    name_is : memory_name program m ≡ o.name
    name_is = ap (λ z. unwrap_or (option_map (λ (y : Memory). y.name) z) []) at

    title : memory_name program (slice_index x.memories.items k) ≡ o.name
    title = ap (memory_name program) (get_or_from_slice_get x.memories.items k m 0 bound) ∙ name_is

    module _ (n : ℕ) where
      at_task : (port : Name) → (run n).net port ≡ (nets n (task_instance x.label ∷ [])).net port
      at_task port = ap (λ l. (nets n (task_instance l ∷ [])).net port) (label_is program w added short machines all place c env env_fits acks nets r i x owner)

      addr_at : number_at run (Addr k) n ≡ (top n).net (m_addr o.name)
      addr_at = at_task (name (Addr k)) ∙ place_at program added all nets r.runs i x leaf owner body k (low_at k m bound) n ∙ ap (λ y. (top n).net (m_addr y)) title

      wdata_at : number_at run (Wdata k) n ≡ (top n).net (m_wdata o.name)
      wdata_at = at_task (name (Wdata k)) ∙ cell_at program added all nets r.runs i x leaf owner body k (low_at k m bound) n ∙ ap (λ y. (top n).net (m_wdata y)) title

      we_at : number_at run (We k) n ≡ (top n).net (m_we o.name)
      we_at = at_task (name (We k)) ∙ store_at program added all nets r.runs i x leaf owner body k (low_at k m bound) n ∙ ap (λ y. (top n).net (m_we y)) title

    asked : (n : ℕ) → ShowsRequest (top (suc n)) o.name (request_of program net (count_at net clock (suc n)) m i)
    asked n =
        subst (λ z. ShowsRequest (top (suc n)) o.name (request_by positions m z)) (sym (act_is n))
        (shows (top (suc n)) o.name positions m k (at_position k ∙ bound) (λ q e. (w.instances i x owner).1.memories_once q k m (sym (at_position q) ∙ e) bound) run (suc n) (addr_at (suc n)) (wdata_at (suc n)) (we_at (suc n))
        (p i).bound (step n) (bit_at run Ended (suc n)) (H.runs.runs.stores n k (low_at k m bound)) (H.runs.runs.asks n k (low_at k m bound)))

    first_cells : (p i).first.cells ≡ (first_state program env.scalars env.memories i).cells
    first_cells =
        ap (λ (z : Part). z.first.cells) (machines_are.part i x leaf H.machine owner body H.is) ∙ H.runs.begins.cells_stand
        ∙ sym (ap (λ z. (instance_state program env.scalars env.memories z).cells) owner ∙ ap (λ z. (leaf_state (kinds_in program) env.scalars env.memories x z).cells) body)

    row_is : (n : ℕ) → slice_index_or ((h i).holds n).cells k [] ≡ cells_at top o.name (slice_index_or env.memories m []) n
    row_is n =
        ap (λ (z : History). slice_index_or (z.holds n).cells k []) history_is
        ∙ ap (λ z. slice_index_or (rows_of program env nets z n) k []) owner
        ∙ get_or-map (λ y. memory_before program env nets y n) x.memories.items k 0 [] (slice_get_within x.memories.items k m bound)
        ∙ ap (λ y. memory_before program env nets y n) (get_or_from_slice_get x.memories.items k m 0 bound)
        ∙ ap (λ y. cells_at top y (slice_index_or env.memories m []) n) name_is

    cells_are : (n : ℕ) → cells_at top o.name (slice_index_or env.memories m []) (suc n) ≡ cells_of program env.scalars env.memories (count_at net clock (suc n)) m
    cells_are n =
        sym (row_is (suc n)) ∙ hold_cells program w env.scalars env.memories clock p T h clocked m k o x at owner bound first_cells n

  pub memory_holds : (m n : ℕ) (o : Memory) → slice_get program.memories.items m ≡ Some o → cells_at top o.name (slice_index_or env.memories m []) (suc n) ≡ cells_of program env.scalars env.memories (count_at net clock (suc n)) m
  memory_holds m n o at =
      let own = w.memories m o at in
      let leaf = w.instances o.owner own.instance own.is in
      cells_are m o at own.instance leaf.0 own.is leaf.1.body own.position own.bound n

  -- ---- all of it

  D : DoneIsOfJoined net clock T h
  D = done_is_of_joined net clock p T h clocked

  pub streams_are : (s n : ℕ) (q : Stream) → slice_get program.streams.items s ≡ Some q → carried_by nets q n ≡ written net (count_at net clock (suc n)) s
  streams_are s n q at = sym (seen_is s q at n) ∙ (in_step net clock p T h clocked n).0.put s

  pub done_is : (n : ℕ) → RaisesDone top (suc n) ↔ HaveJoinedEnded net (count_at net clock (suc n))
  done_is n = (λ d. D.told (suc n) d.0 (done_over (suc n) d.1), λ ended. (omega arith, over_done (suc n) (D.only (suc n) (omega arith) ended)))

  pub asks : (m n : ℕ) (o : Memory) → slice_get program.memories.items m ≡ Some o → ShowsRequest (top (suc n)) o.name (request_at program net (count_at net clock (suc n)) m)
  asks m n o at =
      let own = w.memories m o at in
      let leaf = w.instances o.owner own.instance own.is in
      subst (λ j. ShowsRequest (top (suc n)) o.name (request_of program net (count_at net clock (suc n)) m j)) (sym (ap owner_of at)) (asked m o at own.instance leaf.0 own.is leaf.1.body own.position own.bound n)

-- ---- beside memories that show a cell where they answer, and so in an environment

module _ (program : Program) (w : IsWellFormed program) (acks : ℕ → ℕ → Bool) where
  seen_so : (i : ℕ) (x : Instance) (leaf : Leaf) → slice_get program.instances.items i ≡ Some x → slice_get program.bodies.items x.body ≡ Some leaf → (n m : ℕ) → m < length leaf.memories.items
      → acks (slice_index x.memories.items m) n ≡ bound_answers acks (slice_get program.instances.items i) m n
  seen_so i x leaf at body n m l =
      let is = is_instance program w i x leaf at body in
      let e = is.memories_len in
      sym (ap (λ o. bound_answers acks o m n) at ∙ ap (λ o. answer_of acks o n) (slice_get-get_or x.memories.items m 0 (omega (arith, l, e))))

pub circuits_carry_beside : CircuitsCarryBeside
circuits_carry_beside program w added short machines all place c env env_fits acks nets b =
    let seen : ℕ → ℕ → ℕ → Bool = λ i. bound_answers acks (slice_get program.instances.items i) in
    let same = seen_so program w acks in
    record {
      streams = streams_are program w added short machines all place c env env_fits acks nets b seen same;
      memories = memory_holds program w added short machines all place c env env_fits acks nets b seen same;
      done = done_is program w added short machines all place c env env_fits acks nets b seen same;
      asks = asks program w added short machines all place c env env_fits acks nets b seen same;
    }

pub circuits_carry_streams : CircuitsCarryStreams
circuits_carry_streams program w added short machines all place c env env_fits nets r =
    circuits_carry_beside program w added short machines all place c env env_fits (answers_in env) nets (runs_beside all place (top_tree program added) c.design c.is_top env env_fits nets r)
