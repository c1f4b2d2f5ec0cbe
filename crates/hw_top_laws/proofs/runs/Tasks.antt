-- The module of an instance in a run of the circuit: what stands around it, and that it runs the instance's machine.
use Rattle.std.proofs.Common.{◌≡◌, ℕ, zero, suc, ◌^◌, ◌<◌, Bool, true, false, ◌&&◌, List, [], ◌∷◌, length, Option, Some, sym, ap, subst, ◌∙◌, arith}
use Rattle.std.specs.Prelude.{◌==◌, if◌then◌else◌, codes, option_map, slice_get, slice_index, slice_index_or, unwrap_or}
use Rattle.std.proofs.lemmas.Option.{slice_get-get_or, get_or_from_slice_get, slice_get_within}
use Rattle.tapa_base.specs.declared.kind.Kind.{Kind}
use Rattle.tapa_base.specs.declared.kind.Kind.TheVariants.{U64}
use Rattle.tapa_base.specs.Kinds.{values_of}
use Rattle.tapa_syntax.specs.LeafKinds.{writes_of}
use Rattle.tapa_syntax.specs.WellFormed.{IsWellFormed, IsInstance, IsBoundTo}
use Rattle.tapa_syntax.specs.declared.program.Bound.{Bound}
use Rattle.tapa_syntax.specs.declared.program.End.{End}
use Rattle.tapa_syntax.specs.declared.program.Instance.{Instance}
use Rattle.tapa_syntax.specs.declared.program.Leaf.{Leaf}
use Rattle.tapa_syntax.specs.declared.program.Program.{Program}
use Rattle.tapa_syntax.specs.declared.program.Stream.{Stream}
use Rattle.kahn_model.specs.Prefix.{IsPrefixOf}
use Rattle.kahn_model.specs.ProgramNetwork.{stream_at}
use Rattle.kahn_model.specs.Start.{bound_value, kinds_in}
use Rattle.vlog_tree.specs.Cycle.{Cycle, Path, module_at}
use Rattle.vlog_tree.specs.Environment.{Environment, FitsShape, shape_of, token_of}
use Rattle.vlog_run_laws.specs.Beside.{RunsBeside}
use Rattle.vlog_tree.specs.Form.{ModuleTree}
use Rattle.vlog_tree.specs.Labels.{s_din, s_wr, s_rdy}
use Rattle.vlog_tree.specs.Table.{Name}
use Rattle.hw_network_laws.proofs.network.Ports.{is_instance}
use Rattle.hw_network_laws.specs.network.Ports.{AreWired}
use Rattle.vlog_run_laws.specs.widths.Widths.{OutsideFits}
use Rattle.task_fsm.specs.declared.machine.Fsm.{Fsm}
use Rattle.hw_lines.specs.declared.nets.Net.TheVariants.{Scalar}
use Rattle.hw_lines.specs.Runs.{number_at, streams_at, RunsTask, StandsAround}
use Rattle.hw_lines.specs.Shape.{Shape, register_kind, stream_kind}
use Rattle.hw_lines.specs.Signals.{Streams}
use Rattle.hw_lines.specs.Texts.{task_tree}
use Rattle.hw_network_laws.specs.modules.Designs.{RunsInstance}
use Rattle.hw_network_laws.specs.modules.Tasks.{shape_for}
use Rattle.hw_channel_laws.specs.signals.Contract.{MeetsContract as OwesContract}
use Rattle.hw_channel_laws.specs.modules.Ports.{channel_ports}
use Rattle.hw_channel_laws.proofs.modules.Whole.{acts}
use Rattle.hw_top_lines.specs.Bounds.{parameter_kind}
use Rattle.hw_top_lines.specs.Designs.{AreShort}
use Rattle.hw_top_lines.specs.Names.{s_has, s_dout, s_take, task_instance, channel_instance}
use Rattle.hw_top_lines.specs.Texts.{token_bits, top_tree, stream_label}
use Rattle.hw_top_laws.specs.runs.Designs.{StandsForTask, IsCircuit}
use Rattle.hw_top_laws.specs.runs.Parts.{bit_of, token_in, streams_seen, rows_of}
use Rattle.hw_top_laws.proofs.runs.Joined.{reset_at, scalar_at, ready_at, write_at, put_at, there_at, token_at, take_at, channel_reset, channel_wr, channel_take, channel_rdy, channel_has, channel_dout}
use Rattle.hw_top_laws.proofs.runs.Values.{some_of, bound_fits, parameter_is}
use Rattle.hw_top_laws.proofs.runs.Rows.{rows_length, ack_low, answer_is, cells_low, rows_go, rows_begin}
use Rattle.hw_top_laws.proofs.runs.Fitting.{IsPlaced, task_placed, channel_placed, fits, write_low, take_low, rdy_low, has_low, dout_low}
use Rattle.tapa_base.proofs.Got.{some_at as item_at}

-- a kind at the front of a list stays there
kind_kept : (xs ys : List Kind) (x : ℕ) → IsPrefixOf xs ys → x < length xs → slice_index_or ys x U64 ≡ slice_index_or xs x U64
kind_kept [] ys x p l = absurd (omega (arith, l))
kind_kept (k ∷ xs) [] x p l = absurd p
kind_kept (k ∷ xs) (j ∷ ys) zero p l = sym p.0
kind_kept (k ∷ xs) (j ∷ ys) (suc x) p l = kind_kept xs ys x p.1 (omega (arith, l))

module _ (program : Program) (w : IsWellFormed program) (added : List ℕ) (short : AreShort added) (machines : ℕ → Option Fsm) (all : List ModuleTree) (place : ℕ) (c : IsCircuit program added machines all place) (env : Environment)
    (env_fits : FitsShape env (shape_of (top_tree program added))) (acks : ℕ → ℕ → Bool) (nets : ℕ → Path → Cycle) (r : RunsBeside all (top_tree program added) env acks nets) where
  abbrev root : ModuleTree
  root = top_tree program added

  abbrev T : Streams
  T = streams_seen program nets

  -- ---- streams

  label_is : (s : ℕ) (q : Stream) → slice_get program.streams.items s ≡ Some q → stream_label program s ≡ q.label
  label_is s q e = ap (λ o. unwrap_or (option_map (λ (z : Stream). z.label) o) []) e

  pub placed : (s : ℕ) (q : Stream) → slice_get program.streams.items s ≡ Some q → IsPlaced (token_bits q.kind) q.depth (slice_index added s) all root (channel_instance q.label ∷ [])
  placed s q e =
      let depth = w.streams s q e in
      let some = depth.some_depth in
      let within = depth.within in
      let late = short s in
      let k = c.channels s q e in
      channel_placed program added all place c.design c.is_top s q e (omega (arith, some)) (omega (arith, within, late)) k.modules k.are k.found

  has_bit : (s : ℕ) (q : Stream) → slice_get program.streams.items s ≡ Some q → (n : ℕ) → (nets n []).net (s_has q.label) < 2
  has_bit s q e n = subst (λ z. z < 2) (channel_has program added all nets r.runs s q e n) (has_low program added all place c.design c.is_top env env_fits acks nets r s q (placed s q e) n)

  rdy_bit : (s : ℕ) (q : Stream) → slice_get program.streams.items s ≡ Some q → (n : ℕ) → (nets n []).net (s_rdy q.label) < 2
  rdy_bit s q e n = subst (λ z. z < 2) (channel_rdy program added all nets r.runs s q e n) (rdy_low program added all place c.design c.is_top env env_fits acks nets r s q (placed s q e) n)

  dout_bits : (s : ℕ) (q : Stream) → slice_get program.streams.items s ≡ Some q → (n : ℕ) → (nets n []).net (s_dout q.label) < 2 ^ token_bits q.kind
  dout_bits s q e n = subst (λ z. z < 2 ^ token_bits q.kind) (channel_dout program added all nets r.runs s q e n) (dout_low program added all place c.design c.is_top env env_fits acks nets r s q (placed s q e) n)

  -- ---- one instance

  module _ (i : ℕ) (x : Instance) (leaf : Leaf) (at : slice_get program.instances.items i ≡ Some x) (body : slice_get program.bodies.items x.body ≡ Some leaf) where
    abbrev machine : Fsm
    machine = (c.tasks i x leaf at body).machine

    abbrev path : Path
    path = task_instance x.label ∷ []

    abbrev run : ℕ → Cycle
    run n = nets n path

    abbrev rows : ℕ → List (List ℕ)
    rows n = rows_of program env nets (Some x) n

    abbrev S : Shape
    S = shape_for leaf machine

    is : IsInstance program i x leaf
    is = is_instance program w i x leaf at body

    abbrev task : StandsForTask leaf (machines i) all
    task = c.tasks i x leaf at body

    pub task_at : module_at all root path ≡ Some (task_tree machine leaf.memories.items leaf.streams.items)
    task_at = task_placed program added all place c.design c.is_top i x leaf (task_tree machine leaf.memories.items leaf.streams.items) at body task.named

    -- the stream at a position
    record Bound_to (p : ℕ) : Type 0 where
      stream : Stream
      there : slice_get program.streams.items (stream_at x p) ≡ Some stream
      kind : stream_kind S p ≡ stream.kind
      label : stream_label program (stream_at x p) ≡ stream.label

    bound_to : (b : Bool) (p : ℕ) → writes_of leaf.streams.items p ≡ Some b → Bound_to p
    bound_to b p h =
        let e = some_of (λ (z : End). z.writes) (slice_get leaf.streams.items p) b h in
        let l = slice_get_within leaf.streams.items p e.0 e.1 in
        let k = is.streams_len in
        let s = is.streams p (stream_at x p) e.0 (slice_get-get_or x.streams.items p 0 (omega (arith, l, k))) e.1 in
        record {
          stream = s.stream;
          there = s.is;
          kind = ap (λ o. unwrap_or (option_map (λ (z : End). z.kind) o) U64) e.1 ∙ sym s.kind;
          label = label_is (stream_at x p) s.stream s.is;
        }

    -- a bit and a token at a port, by what is seen of the stream
    bit_seen : (p : ℕ) (t : Bound_to p) (net : Name → Name) (n : ℕ) → ((nets n []).net (net (stream_label program (stream_at x p))) == 1) ≡ bit_of (slice_get program.streams.items (stream_at x p)) net (nets n [])
    bit_seen p t net n = ap (λ z. (nets n []).net (net z) == 1) t.label ∙ sym (ap (λ o. bit_of o net (nets n [])) t.there)

    token_seen : (p : ℕ) (t : Bound_to p) (net : Name → Name) (n : ℕ) → token_of (token_bits (stream_kind S p)) ((nets n []).net (net (stream_label program (stream_at x p)))) ≡ token_in (slice_get program.streams.items (stream_at x p)) net (nets n [])
    token_seen p t net n =
        ap (λ k. token_of (token_bits k) ((nets n []).net (net (stream_label program (stream_at x p))))) t.kind
        ∙ ap (λ z. token_of (token_bits t.stream.kind) ((nets n []).net (net z))) t.label
        ∙ sym (ap (λ o. token_in o net (nets n [])) t.there)

    pub wired : AreWired program x leaf (streams_at S run) T
    wired = record {
      has = λ p n h. ap (λ z. z == 1) (there_at program added all nets r.runs i x leaf at body p h n) ∙ bit_seen p (bound_to false p h) s_has n;
      dout = λ p n h. ap (λ z. token_of (token_bits (stream_kind S p)) z) (token_at program added all nets r.runs i x leaf at body p h n) ∙ token_seen p (bound_to false p h) s_dout n;
      take = λ p n h. sym (ap (λ z. z == 1) (take_at program added all nets r.runs i x leaf at body p h n) ∙ bit_seen p (bound_to false p h) s_take n);
      rdy = λ p n h. ap (λ z. z == 1) (ready_at program added all nets r.runs i x leaf at body p h n) ∙ bit_seen p (bound_to true p h) s_rdy n;
      wr = λ p n h. sym (ap (λ z. z == 1) (write_at program added all nets r.runs i x leaf at body p h n) ∙ bit_seen p (bound_to true p h) s_wr n);
      din = λ p n h. sym (ap (λ z. token_of (token_bits (stream_kind S p)) z) (put_at program added all nets r.runs i x leaf at body p h n) ∙ token_seen p (bound_to true p h) s_din n);
      still = λ s n e. (
        ap (λ o. bit_of o s_take (nets (suc n) [])) e,
        ap (λ o. if bit_of o s_wr (nets (suc n) []) && T.rdy s (suc n) then T.din s (suc n) ∷ [] else []) e,
      );
    }

    -- ---- scalars

    record Given (p : ℕ) : Type 0 where
      bound : Bound
      there : slice_get x.scalars.items p ≡ Some bound
      of_kind : IsBoundTo program (parameter_kind leaf p) bound

    given : (p : ℕ) → p < length leaf.scalars.items → Given p
    given p l =
        let k = is.scalars_len in
        let b = item_at x.scalars.items p (omega (arith, l, k)) in
        record {
          bound = b.0;
          there = b.1;
          of_kind = is.scalars p (slice_index leaf.scalars.items p) b.0 b.1 (slice_get-get_or leaf.scalars.items p 0 l);
        }

    value_is : (p : ℕ) → p < length leaf.scalars.items → (b : Bound) → slice_get x.scalars.items p ≡ Some b → IsBoundTo program (parameter_kind leaf p) b → (n : ℕ) → number_at run (Scalar p) n ≡ bound_value (kinds_in program) env.scalars b
    value_is p l b e h n =
        scalar_at program added all nets r.runs i x leaf at body n p l
        ∙ parameter_is program added all nets r.runs env acks r.stands c.scalars env_fits i x leaf at body p b l e h n

    scalars_low : (n p y : ℕ) → slice_get S.scalars p ≡ Some y → number_at run (Scalar p) n < values_of (register_kind S y)
    scalars_low n p y e =
        let e2 : slice_get leaf.scalars.items p ≡ Some y = ap (λ l. slice_get l p) (sym task.lowered.scalars) ∙ e in
        let l = slice_get_within leaf.scalars.items p y e2 in
        let g = given p l in
        let inside = (w.leaves x.body leaf body).scalars_in p y e2 in
        let same : parameter_kind leaf p ≡ register_kind S y =
        ap (λ z. slice_index_or leaf.vars.items z U64) (get_or_from_slice_get leaf.scalars.items p y 0 e2) ∙ sym (kind_kept leaf.vars.items machine.regs.items y task.lowered.regs inside) in
        subst (λ k. number_at run (Scalar p) n < values_of k) same
        (subst (λ z. z < values_of (parameter_kind leaf p)) (sym (value_is p l g.bound g.there g.of_kind n))
        (bound_fits program added all nets r.runs env acks r.stands c.scalars env_fits (parameter_kind leaf p) g.bound g.of_kind))

    -- ---- what stands around it

    pub outside_fits : (n : ℕ) → OutsideFits root env (λ k. nets k []) n
    outside_fits n = (fits program added all place c.design c.is_top env env_fits acks nets r).outside n

    around : StandsAround S run rows
    around = record {
      reset = reset_at program added all nets r.runs i x leaf at body 0 ∙ r.stands.reset;
      runs = λ n. reset_at program added all nets r.runs i x leaf at body (suc n) ∙ r.stands.runs n;
      scalars = scalars_low;
      has = λ n p h.
          let t = bound_to false p h in
          subst (λ z. z < 2) (sym (there_at program added all nets r.runs i x leaf at body p h n ∙ ap (λ z. (nets n []).net (s_has z)) t.label)) (has_bit (stream_at x p) t.stream t.there n);
      dout = λ n p h.
          let t = bound_to false p h in
          subst (λ z. z < 2 ^ token_bits (stream_kind S p)) (sym (token_at program added all nets r.runs i x leaf at body p h n ∙ ap (λ z. (nets n []).net (s_dout z)) t.label))
          (subst (λ k. (nets n []).net (s_dout t.stream.label) < 2 ^ token_bits k) (sym t.kind) (dout_bits (stream_at x p) t.stream t.there n));
      rdy = λ n p h.
          let t = bound_to true p h in
          subst (λ z. z < 2) (sym (ready_at program added all nets r.runs i x leaf at body p h n ∙ ap (λ z. (nets n []).net (s_rdy z)) t.label)) (rdy_bit (stream_at x p) t.stream t.there n);
      ack = λ n m l. ack_low program w added all nets r.runs env acks r.stands c.memories outside_fits i x leaf at body machine n m l;
      memories = rows_length program w added all nets r.runs env acks r.stands c.memories outside_fits i x leaf at body machine 0;
      rdata = λ n m l ok still. answer_is program w added all nets r.runs env acks r.stands c.memories outside_fits i x leaf at body machine n m l ok still;
      fit = λ n m j. cells_low program w added all nets r.runs env acks r.stands c.memories outside_fits i x leaf at body machine n m j;
      goes = λ n. rows_go program w added all nets r.runs env acks r.stands c.memories outside_fits i x leaf at body machine n;
    }

    pub runs_task : RunsTask S (writes_of leaf.streams.items) run rows
    runs_task = task.acts all root nets r.runs path task_at rows around

    pub runs_instance : RunsInstance program env.scalars env.memories x leaf machine run rows T
    runs_instance = record {
      lowered = task.lowered;
      runs = runs_task;
      begins = record {
        scalars_stand = λ p b e.
            let k = is.scalars_len in
            let l = slice_get_within x.scalars.items p b e in
            let low : p < length leaf.scalars.items = omega (arith, l, k) in
            value_is p low b e (is.scalars p (slice_index leaf.scalars.items p) b e (slice_get-get_or leaf.scalars.items p 0 low)) 0;
        cells_stand = rows_begin program w added all nets r.runs env acks r.stands c.memories outside_fits i x leaf at body machine;
      };
      wired = wired;
    }

  -- ---- channels

  module _ (s : ℕ) (q : Stream) (at : slice_get program.streams.items s ≡ Some q) where
    abbrev channel : Path
    channel = channel_instance q.label ∷ []

    -- the nets at the two ends are driven by tasks
    write_bit : (n : ℕ) → (nets n channel).net (codes "wr") < 2
    write_bit n =
        let j = (w.streams s q at).written in
        let here : stream_at j.instance j.position ≡ s = get_or_from_slice_get j.instance.streams.items j.position s 0 j.stream in
        subst (λ z. z < 2)
        (write_at program added all nets r.runs q.producer j.instance j.leaf j.is j.leaf_is j.position j.writes n
        ∙ ap (λ z. (nets n []).net (s_wr z)) (ap (stream_label program) here ∙ label_is s q at) ∙ sym (channel_wr program added all nets r.runs s q at n))
        (write_low program added all place c.design c.is_top env env_fits acks nets r j.leaf (c.tasks q.producer j.instance j.leaf j.is j.leaf_is).machine (task_instance j.instance.label ∷ []) (task_at q.producer j.instance j.leaf j.is j.leaf_is) j.position j.writes n)

    take_bit : (n : ℕ) → (nets n channel).net (codes "take") < 2
    take_bit n =
        let j = (w.streams s q at).read in
        let here : stream_at j.instance j.position ≡ s = get_or_from_slice_get j.instance.streams.items j.position s 0 j.stream in
        subst (λ z. z < 2)
        (take_at program added all nets r.runs q.consumer j.instance j.leaf j.is j.leaf_is j.position j.writes n
        ∙ ap (λ z. (nets n []).net (s_take z)) (ap (stream_label program) here ∙ label_is s q at) ∙ sym (channel_take program added all nets r.runs s q at n))
        (take_low program added all place c.design c.is_top env env_fits acks nets r j.leaf (c.tasks q.consumer j.instance j.leaf j.is j.leaf_is).machine (task_instance j.instance.label ∷ []) (task_at q.consumer j.instance j.leaf j.is j.leaf_is) j.position j.writes n)

    pub owes : OwesContract q.depth (slice_index added s) (channel_ports (λ n. nets n channel))
    owes =
        let p = placed s q at in
        let depth = w.streams s q at in
        let some = depth.some_depth in
        let within = depth.within in
        let late = short s in
        acts (token_bits q.kind) q.depth (slice_index added s) (p.first ∷ p.rest) (omega (arith, some)) (omega (arith, within, late)) p.are all root nets r.runs p.found channel p.at
        (record { first = channel_reset program added all nets r.runs s q at 0 ∙ r.stands.reset; later = λ n. channel_reset program added all nets r.runs s q at (suc n) ∙ r.stands.runs n })
        write_bit take_bit
