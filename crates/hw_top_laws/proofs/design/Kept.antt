-- The top's instances keep the order: of a task only what takes a token rests on inputs, and its wire stands behind all nets
-- that a task reads; of a channel nothing does.
use Rattle.std.proofs.Common.{◌≡◌, ℕ, ◌<◌, ◌≤◌, Bool, true, false, cond, List, ◌++◌, length, map, Some, inl, inr, refl, sym, ap, subst, ◌∙◌, arith, append_assoc}
use Rattle.std.specs.Prelude.{slice_get, slice_index}
use Rattle.tapa_syntax.specs.declared.program.Instance.{Instance}
use Rattle.tapa_syntax.specs.declared.program.Leaf.{Leaf}
use Rattle.tapa_syntax.specs.declared.program.Program.{Program}
use Rattle.tapa_syntax.specs.declared.program.Stream.{Stream}
use Rattle.task_fsm.specs.declared.machine.Fsm.{Fsm}
use Rattle.vlog_tree.specs.declared.tree.Connection.{Connection}
use Rattle.vlog_tree.specs.declared.tree.PortDecl.{PortDecl}
use Rattle.vlog_tree.specs.declared.table.Declaration.{Declaration}
use Rattle.vlog_tree.specs.declared.table.NetKind.TheVariants.{Input as InputNet, Output as OutputNet, WireNet}
use Rattle.vlog_tree.specs.Form.{ModuleTree}
use Rattle.tapa_base.specs.Lists.{Has}
use Rattle.vlog_tree.specs.Loops.{Rests}
use Rattle.vlog_tree.specs.Table.{Name, module_named, port_declared, net_kind_of, times_in}
use Rattle.tapa_base.proofs.Lists.{has_left, has_right}
use Rattle.vlog_module_laws.proofs.Larger.{each_right, right_has_instances, named_has, rests_fewer}
use Rattle.hw_build.specs.Elements.{Element, InstanceWire, Instance as InstanceElement}
use Rattle.hw_build.specs.Fitting.{first_table, have_fitting_names}
use Rattle.hw_build.specs.Order.{StandsBefore}
use Rattle.hw_build.proofs.Tables.{times}
use Rattle.hw_build.specs.Fits.{AreOnce}
use Rattle.hw_build.specs.Scope.{each}
use Rattle.hw_build.proofs.Parts.{has_each}
use Rattle.hw_build.proofs.ListTables.{table}
use Rattle.hw_channel_lines.specs.Names.{channel_name}
use Rattle.hw_channel_lines.specs.Texts.{connected_to}
use Rattle.hw_channel_laws.proofs.modules.Clear.{no_way_in}
use Rattle.hw_channel_laws.proofs.modules.Fits.{clear}
use Rattle.hw_lines.specs.declared.nets.Net.TheVariants.{Taken}
use Rattle.hw_lines.specs.Nets.{name}
use Rattle.hw_lines.specs.Texts.{is_written, task_name}
use Rattle.hw_top_laws.specs.joins.Joins.{port_names, joined_ports}
use Rattle.hw_top_laws.proofs.joins.Joined.{output_kind}
use Rattle.hw_top_lines.specs.Channels.{channel_modules}
use Rattle.hw_top_lines.specs.Legal.{IsReady}
use Rattle.hw_top_lines.specs.Names.{s_take}
use Rattle.hw_top_lines.specs.Texts.{ports, doneness, take_wire, token_bits, stream_label, written_connections, read_connections, scalar_connections, stream_connections, memory_connections, task_connections, instances, top_elements}
use Rattle.hw_top_laws.specs.modules.Lower.{lower_modules, KeepPromises}
use Rattle.hw_top_laws.proofs.modules.Channels.{sizes, channel_are}
use Rattle.hw_top_laws.proofs.modules.Lower.{channel_within, lower_ports}
use Rattle.hw_top_laws.proofs.modules.Tasks.{title}
use Rattle.hw_top_laws.proofs.form.Channels.{outer}
use Rattle.hw_top_laws.proofs.form.Standing.{front, streams, bounds, ends as ends_of, takes}
use Rattle.hw_top_laws.proofs.form.Tasks.{IsPart, part_at, used, child, all_ports, ports_are, named, same, stream_at, IsOrdered, AtClock, AtInput, AtOutput, end_right}
use Rattle.hw_top_laws.proofs.form.Whole.{tops_are_fitting}
use Rattle.hw_top_laws.specs.design.Order.{AreBelow, TopsKeepOrder}
use Rattle.hw_top_laws.proofs.design.OrderParts.{IsOfTop, OfTask, OfChannel, of_top}
use Rattle.hw_top_laws.proofs.design.Places.{split_order, net_known, clock_known, same_connection}
use Rattle.tapa_base.proofs.Got.{got_low as some_index}

pub same_module : (a b : ModuleTree) → Some a ≡ Some b → a ≡ b
same_module a b e = cc

-- an input is joined to a net of the front
front_known : (program : Program) (ps : List PortDecl) → AreOnce (port_names ps) → (l : Connection) → net_kind_of (map port_declared ps) l.port ≡ InputNet → IsOrdered program ps l
    → 1 ≤ times (table (front program)) l.net
front_known program ps once l e (AtClock p f h) = subst (λ y. 1 ≤ times (table (front program)) y) (sym f) (clock_known (front program))
front_known program ps once l e (AtInput w h n) = net_known (front program) l.net w n
front_known program ps once l e (AtOutput w h o) = let no : OutputNet ≡ InputNet = sym (output_kind ps once w l.port h) ∙ e in absurd cc

module _ (program : Program) (added : List ℕ) where
  -- what stands behind the front
  abbrev pub back : List Element
  back = takes program ++ (doneness program ++ instances program added)

  pub top_is : top_elements program added ≡ front program ++ back
  top_is =
      let others = streams program ++ bounds program ++ ends_of program in
      ap (λ (l : List Element). l ++ doneness program ++ instances program added) (sym (append_assoc (ports program) others (takes program)))
      ∙ append_assoc (front program ++ takes program) (doneness program) (instances program added) ∙ append_assoc (front program) (takes program) (doneness program ++ instances program added)

  pub take_behind : (s : ℕ) (r : Stream) → slice_get program.streams.items s ≡ Some r → Has back (InstanceWire 1 (s_take r.label))
  take_behind s r g =
      let e = InstanceWire 1 (s_take r.label) in
      has_left (takes program) (doneness program ++ instances program added) e
      (has_each (λ s. take_wire (slice_get program.streams.items s)) (length program.streams.items) s e (some_index program.streams.items s r g) (subst (λ o. Has (take_wire o) e) (sym g) (inl refl)))

module _ (program : Program) (machines : List Fsm) (added : List ℕ) (ready : IsReady program machines added) (kept : KeepPromises program machines) (is_top : Name → Bool)
    (below : AreBelow is_top (lower_modules program machines added)) where
  abbrev lower : List ModuleTree
  lower = lower_modules program machines added

  fits : have_fitting_names lower first_table (front program ++ back program added) ≡ true
  fits = subst (λ (l : List Element). have_fitting_names lower first_table l ≡ true) (top_is program added) (tops_are_fitting program machines added ready kept).names

  module _ (i : ℕ) (x : Instance) (leaf : Leaf) (part : IsPart program machines added ready kept i x leaf) where
    abbrev k : ModuleTree
    k = child program machines added ready kept i x leaf part

    abbrev ps : List PortDecl
    ps = all_ports program machines added ready kept i x leaf part

    abbrev ends : List Connection
    ends = task_connections program i x leaf

    in_lower : Has lower k
    in_lower = named_has lower (task_name leaf.name) k (named program machines added ready kept i x leaf part)

    no_top : is_top (task_name part.machine.name) ≡ false
    no_top = ap is_top (sym (title leaf part.machine)) ∙ below k in_lower

    ports_once : AreOnce (port_names ps)
    ports_once = subst (λ (l : List PortDecl). AreOnce (port_names l)) (ports_are program machines added ready kept i x leaf part) (lower_ports program machines added ready kept k in_lower)

    joined_once : (y : Name) → times_in (joined_ports ends) y ≤ 1
    joined_once y =
        let e = same program machines added ready kept i x leaf part y in
        let o = ports_once y in
        omega (arith, e, o)

    -- what takes a token of a stream is joined to that stream's wire
    take_end : (s : ℕ) → s < length leaf.streams.items → is_written (slice_get leaf.streams.items s) ≡ false → Has ends (connected_to (name (Taken s)) (s_take (stream_label program (slice_index x.streams.items s))))
    take_end s l e =
        let t = stream_label program (slice_index x.streams.items s) in
        let c = connected_to (name (Taken s)) (s_take t) in
        let scalars = each (scalar_connections i x) (length leaf.scalars.items) in
        let streams = each (stream_connections program x leaf) (length leaf.streams.items) in
        let memories = each (memory_connections program x) (length leaf.memories.items) in
        let here : Has (stream_connections program x leaf s) c = subst (λ b. Has (cond b (written_connections s t) (read_connections s t)) c) (sym e) (inr (inr (inl refl))) in
        inr (inr (inr (has_left (scalars ++ streams) memories c (has_right scalars streams c (has_each (stream_connections program x leaf) (length leaf.streams.items) s c l here)))))

    taken_net : (s : ℕ) → s < length leaf.streams.items → is_written (slice_get leaf.streams.items s) ≡ false → (out : Connection) → Has ends out → out.port ≡ name (Taken s)
        → out.net ≡ s_take (stream_label program (slice_index x.streams.items s))
    taken_net s l e out h p =
        let c = connected_to (name (Taken s)) (s_take (stream_label program (slice_index x.streams.items s))) in
        ap (λ (z : Connection). z.net) (same_connection ends out c h (take_end s l e) p (joined_once out.port))

    -- what rests on an input drives the wire that says that a token is taken
    pub takes_a_token : (out : Connection) (y : Name) → Has ends out → net_kind_of (map port_declared k.ports) out.port ≡ OutputNet → net_kind_of (map port_declared k.ports) y ≡ InputNet
        → Rests lower is_top k out.port y → (l : Name) × (out.net ≡ s_take l)
    takes_a_token out y ho o n r =
        let promise = kept x.body leaf part.machine part.got_leaf part.got_machine (used program machines added ready kept i x leaf part) in
        let t = promise.rests lower is_top no_top out.port y o n r in
        (stream_label program (slice_index x.streams.items t.0), taken_net t.0 t.1 t.2 out ho t.3)

    task_order : (out into : Connection) → Has ends out → Has ends into → net_kind_of (map port_declared k.ports) out.port ≡ OutputNet → net_kind_of (map port_declared k.ports) into.port ≡ InputNet
        → Rests lower is_top k out.port into.port → StandsBefore (top_elements program added) into.net out.net
    task_order out into ho hi o n r =
        let promise = kept x.body leaf part.machine part.got_leaf part.got_machine (used program machines added ready kept i x leaf part) in
        let t = promise.rests lower is_top no_top out.port into.port o n r in
        let at = stream_at program machines added ready kept i x leaf part t.0 t.1 in
        let net : out.net ≡ s_take at.at.stream.label = taken_net t.0 t.1 t.2 out ho t.3 ∙ ap s_take at.label in
        let input : net_kind_of (map port_declared ps) into.port ≡ InputNet =
        subst (λ (l : List PortDecl). net_kind_of (map port_declared l) into.port ≡ InputNet) (ports_are program machines added ready kept i x leaf part) n in
        let known : 1 ≤ times (table (front program)) into.net = front_known program ps ports_once into input (end_right program machines added ready kept i x leaf part into hi) in
        let d : Declaration = record { name = s_take at.at.stream.label; net_kind = WireNet; bits = 1; cells = 0 } in
        let before : StandsBefore (front program ++ back program added) into.net (s_take at.at.stream.label) =
        split_order lower (front program) (back program added) fits into.net known (InstanceWire 1 (s_take at.at.stream.label)) d (take_behind program added at.number at.at.stream at.at.is) refl in
        subst (λ (z : Name). StandsBefore (top_elements program added) into.net z) (sym net) (subst (λ (l : List Element). StandsBefore l into.net (s_take at.at.stream.label)) (sym (top_is program added)) before)

  module _ (s : ℕ) (r : Stream) (got : slice_get program.streams.items s ≡ Some r) where
    pub channel_clear : (k : ModuleTree) → module_named lower (channel_name (token_bits r.kind) r.depth (slice_index added s)) ≡ Some k → (x y : Name)
        → net_kind_of (map port_declared k.ports) x ≡ OutputNet → net_kind_of (map port_declared k.ports) y ≡ InputNet → Rests lower is_top k x y → ⊥
    channel_clear k named x y o n rests =
        let z = sizes program ready.well_formed added ready.short s r got in
        let most = z.most in
        let deep = z.deep in
        let short = z.late in
        let bits = token_bits r.kind in
        let late = slice_index added s in
        let ms = channel_modules bits r.depth late in
        let are = channel_are bits r.depth late in
        let sound = (clear bits r.depth late ms are z.least z.most z.some (omega (arith, deep, short))).sound in
        let m = outer program machines added ready kept s r got in
        let same : k ≡ m.module_is = same_module k m.module_is (sym named ∙ m.named) in
        let here : Has ms k = subst (λ (q : ModuleTree). Has ms q) (sym same) m.there in
        no_way_in bits r.depth late ms are (omega (arith, most)) (omega (arith, short)) k here is_top x y o n
        (rests_fewer ms lower is_top is_top (channel_within program machines added ready kept s r got) (λ q h. right_has_instances ms q (each_right ms sound q h)) (λ q h. refl) rests here)

  kept_by : (kn i : Name) (ls : List Connection) (k : ModuleTree) (out into : Connection) → IsOfTop program added (InstanceElement kn i ls) → module_named lower kn ≡ Some k → Has ls out → Has ls into
      → net_kind_of (map port_declared k.ports) out.port ≡ OutputNet → net_kind_of (map port_declared k.ports) into.port ≡ InputNet → Rests lower is_top k out.port into.port → StandsBefore (top_elements program added) into.net out.net
  kept_by kn i ls k out into (OfTask j x leaf g gl e) n ho hi o p r =
      let part = part_at program machines added ready kept j x leaf g gl in
      let ek : task_name leaf.name ≡ kn = cc e in
      let el : task_connections program j x leaf ≡ ls = cc e in
      let c = child program machines added ready kept j x leaf part in
      let is : k ≡ c = same_module k c (sym n ∙ ap (module_named lower) (sym ek) ∙ named program machines added ready kept j x leaf part) in
      task_order j x leaf part out into (subst (λ (l : List Connection). Has l out) (sym el) ho) (subst (λ (l : List Connection). Has l into) (sym el) hi)
      (subst (λ (q : ModuleTree). net_kind_of (map port_declared q.ports) out.port ≡ OutputNet) is o) (subst (λ (q : ModuleTree). net_kind_of (map port_declared q.ports) into.port ≡ InputNet) is p)
      (subst (λ (q : ModuleTree). Rests lower is_top q out.port into.port) is r)
  kept_by kn i ls k out into (OfChannel s q g e) n ho hi o p r =
      let ek : channel_name (token_bits q.kind) q.depth (slice_index added s) ≡ kn = cc e in
      absurd (channel_clear s q g k (ap (module_named lower) ek ∙ n) out.port into.port o p r)

pub order : TopsKeepOrder
order program machines added ready kept is_top below kn i ls k out into has named ho hi o n r = kept_by program machines added ready kept is_top below kn i ls k out into (of_top program added kn i ls has) named ho hi o n r
