-- An instance of a leaf task is joined to the nets that stand before it.
use Rattle.std.proofs.Common.{◌≡◌, ℕ, zero, suc, ◌+◌, ◌<◌, Bool, true, false, cond, eqb, ◌||◌, List, [], ◌∷◌, ◌++◌, length, Some, inl, inr, refl, sym, ap, subst, ◌∙◌, arith, ⊎_elim}
use Rattle.std.specs.Prelude.{bytes_eq, codes, option_map, unwrap_or, slice_get, slice_index, slice_index_or}
use Rattle.std.specs.List.{list_any, AllByRecursion}
use Rattle.std.proofs.lemmas.Bool.{eq-eqb}
use Rattle.std.proofs.lemmas.List.{map-append}
use Rattle.std.proofs.lemmas.Option.{get_or_from_slice_get}
use Rattle.tapa_base.specs.declared.kind.Kind.{Kind}
use Rattle.tapa_base.specs.declared.kind.Kind.TheVariants.{U64}
use Rattle.tapa_base.specs.Kinds.{bits_of}
use Rattle.tapa_syntax.specs.declared.program.End.{End}
use Rattle.tapa_syntax.specs.declared.program.Instance.{Instance}
use Rattle.tapa_syntax.specs.declared.program.Leaf.{Leaf}
use Rattle.tapa_syntax.specs.declared.program.Memory.{Memory}
use Rattle.tapa_syntax.specs.declared.program.Program.{Program}
use Rattle.tapa_syntax.specs.declared.program.Stream.{Stream}
use Rattle.tapa_syntax.specs.WellFormed.{IsLeaf, IsInstance, IsStreamAt, IsMemoryAt}
use Rattle.task_fsm.specs.declared.machine.Fsm.{Fsm}
use Rattle.task_fsm.specs.Lowered.{IsLowered}
use Rattle.vlog_tree.specs.declared.tree.Connection.{Connection}
use Rattle.vlog_tree.specs.declared.tree.PortDecl.{PortDecl}
use Rattle.vlog_tree.specs.Form.{ModuleTree}
use Rattle.tapa_base.specs.Lists.{Has}
use Rattle.vlog_tree.specs.Labels.{rst, m_ack, m_rdata, m_addr, m_wdata, m_we, s_din, s_wr, s_rdy}
use Rattle.vlog_tree.specs.Table.{Name, clk, module_named, times_in}
use Rattle.tapa_base.proofs.Lists.{has_left, has_right, has_split, has_got as got_there}
use Rattle.hw_build.specs.Elements.{empty}
use Rattle.hw_build.proofs.Tables.{count_append}
use Rattle.hw_build.specs.Scope.{each, IsNet}
use Rattle.hw_build.specs.Fits.{IsAmong}
use Rattle.hw_build.proofs.Parts.{has_each, of_each}
use Rattle.hw_channel_lines.specs.Texts.{clocks, connected_to}
use Rattle.hw_lines.specs.declared.nets.Net.TheVariants.{Done, Scalar as ScalarPort, Has as HasPort, Dout, Taken, Din, Wr, Rdy, Ack, Rdata, Addr, Wdata, We}
use Rattle.hw_lines.specs.Nets.{name}
use Rattle.hw_lines.specs.Shape.{Shape, shape_of, stream_kind, register_kind, memory_kind}
use Rattle.hw_lines.specs.Texts.{is_written, task_name}
use Rattle.hw_task_laws.specs.names.Ports.{inward, outward, scalar_input, stream_in, stream_out, memory_in, memory_out, task_inputs, task_outputs}
use Rattle.hw_task_laws.proofs.fit.Scopes.{left_among, net_in, both_among}
use Rattle.hw_top_laws.specs.joins.Joins.{IsOpen, input_port, output_port, port_names, joined_ports, IsJoin, ToClock, ToInput, FromOutput, IsJoined}
use Rattle.hw_top_lines.specs.Names.{s_has, s_dout, ended_net}
use Rattle.hw_top_lines.specs.Bounds.{parameter_kind, bound_by, parameters}
use Rattle.hw_top_lines.specs.Designs.{is_used}
use Rattle.hw_top_lines.specs.Legal.{IsReady}
use Rattle.hw_top_lines.specs.Texts.{ports, token_bits, stream_label, memory_name, scalar_connections, written_connections, read_connections, stream_connections, named_connections, memory_connections, task_connections}
use Rattle.hw_top_laws.specs.modules.Lower.{lower_modules, task_module, KeepPromises}
use Rattle.hw_top_laws.proofs.modules.Lower.{tasks_found}
use Rattle.hw_top_laws.proofs.form.Standing.{standing, front, scalars, streams, bounds, ends as ends_of, scalars_among, front_among, parameters_front, link_open, link_front, take_open, outlet_open, answer_net, ended_open}
use Rattle.hw_top_laws.proofs.form.Bounds.{parameter_net}
use Rattle.tapa_base.proofs.Got.{got_low as some_index, some_at as got_some, all_from}
use Rattle.kahn_model.proofs.Order.{prefix_get as prefix_at}

any_of : {A : Type 0} (p : A → Bool) (xs : List A) (x : A) → Has xs x → p x ≡ true → list_any p xs ≡ true
any_of p [] x h e = absurd h
any_of p (y ∷ ys) x (inl s) e = ap (λ b. b || list_any p ys) (ap p s ∙ e)
any_of p (y ∷ ys) x (inr h) e = right (p y) (list_any p ys) (any_of p ys x h e) where
  right : (a b : Bool) → b ≡ true → (a || b) ≡ true
  right true b e = refl
  right false b e = e

-- ---- how often names stand in connections and ports

abbrev pub joined : List Connection → Name → ℕ
joined ls x = times_in (joined_ports ls) x

abbrev pub ported : List PortDecl → Name → ℕ
ported ps x = times_in (port_names ps) x

joined_append : (xs ys : List Connection) (x : Name) → joined (xs ++ ys) x ≡ joined xs x + joined ys x
joined_append xs ys x = ap (λ l. times_in l x) (map-append (λ (l : Connection). l.port) xs ys) ∙ count_append (λ y. bytes_eq y x) (joined_ports xs) (joined_ports ys)

ported_append : (xs ys : List PortDecl) (x : Name) → ported (xs ++ ys) x ≡ ported xs x + ported ys x
ported_append xs ys x = ap (λ l. times_in l x) (map-append (λ (p : PortDecl). p.name) xs ys) ∙ count_append (λ y. bytes_eq y x) (port_names xs) (port_names ys)

each_same : (f : ℕ → List Connection) (g : ℕ → List PortDecl) (n : ℕ) (x : Name) → ((k : ℕ) → joined (f k) x ≡ ported (g k) x) → joined (each f n) x ≡ ported (each g n) x
each_same f g zero x h = refl
each_same f g (suc n) x h =
    let a = joined_append (each f n) (f n) x in
    let b = ported_append (each g n) (g n) x in
    let r = each_same f g n x h in
    let e = h n in
    omega (arith, a, b, r, e)

each_two : (f : ℕ → List Connection) (g k : ℕ → List PortDecl) (n : ℕ) (x : Name) → ((p : ℕ) → joined (f p) x ≡ ported (g p) x + ported (k p) x) → joined (each f n) x ≡ ported (each g n) x + ported (each k n) x
each_two f g k zero x h = refl
each_two f g k (suc n) x h =
    let a = joined_append (each f n) (f n) x in
    let b = ported_append (each g n) (g n) x in
    let c = ported_append (each k n) (k n) x in
    let r = each_two f g k n x h in
    let e = h n in
    omega (arith, a, b, c, r, e)

first_same : (title : Name) (x : Name) → joined (clocks []) x ≡ ported (empty title).ports x
unfolding clk rst
first_same title x = refl

stream_same : (p : ℕ) (l : Name) (v : ℕ) (x : Name) (b : Bool) → joined (cond b (written_connections p l) (read_connections p l)) x
    ≡ ported (cond b (inward 1 (Rdy p) ∷ []) (inward 1 (HasPort p) ∷ inward v (Dout p) ∷ [])) x + ported (cond b (outward 1 (Wr p) ∷ outward v (Din p) ∷ []) (outward 1 (Taken p) ∷ [])) x
stream_same p l v x true = count_append (λ y. bytes_eq y x) (name (Rdy p) ∷ []) (name (Wr p) ∷ name (Din p) ∷ [])
stream_same p l v x false = count_append (λ y. bytes_eq y x) (name (HasPort p) ∷ name (Dout p) ∷ []) (name (Taken p) ∷ [])

-- ---- connections in order

-- a connection whose input is joined to a net before the wires that say what is taken
pub data IsOrdered (program : Program) (ps : List PortDecl) (l : Connection) : Type 0 where
  AtClock : l.port ≡ clk → l.net ≡ clk → Has ps (input_port 1 l.port) → IsOrdered program ps l
  AtInput : (w : ℕ) → Has ps (input_port w l.port) → IsNet (front program) l.net w → IsOrdered program ps l
  AtOutput : (w : ℕ) → Has ps (output_port w l.port) → IsOpen (standing program) l.net w → IsOrdered program ps l

to_join : (program : Program) (ps : List PortDecl) (l : Connection) → IsOrdered program ps l → IsJoin (standing program) ps l
to_join program ps l (AtClock e f h) = ToClock e f h
to_join program ps l (AtInput w h n) = ToInput w h (net_in (front program) (standing program) (front_among program) l.net w n)
to_join program ps l (AtOutput w h o) = FromOutput w h o

module _ (program : Program) (machines : List Fsm) (added : List ℕ) (ready : IsReady program machines added) (kept : KeepPromises program machines) where
  -- an instance and its leaf task have the task's machine
  pub record IsPart (i : ℕ) (x : Instance) (leaf : Leaf) : Type 0 where
    pub machine : Fsm
    pub got : slice_get program.instances.items i ≡ Some x
    pub got_leaf : slice_get program.bodies.items x.body ≡ Some leaf
    pub got_machine : slice_get machines x.body ≡ Some machine
    pub fits : IsInstance program i x leaf

  same_leaf : (a b : Leaf) → Some a ≡ Some b → a ≡ b
  same_leaf a b e = cc

  pub part_at : (i : ℕ) (x : Instance) (leaf : Leaf) → slice_get program.instances.items i ≡ Some x → slice_get program.bodies.items x.body ≡ Some leaf → IsPart i x leaf
  part_at i x leaf g e =
      let r = ready.well_formed.instances i x g in
      let same : r.0 ≡ leaf = same_leaf r.0 leaf (sym r.1.body ∙ e) in
      let many = ready.lowered.as_many in
      let low = some_index program.bodies.items x.body leaf e in
      let m = got_some machines x.body (omega (arith, many, low)) in
      record { machine = m.0; got = g; got_leaf = e; got_machine = m.1; fits = subst (λ (z : Leaf). IsInstance program i x z) same r.1 }

  module _ (i : ℕ) (x : Instance) (leaf : Leaf) (part : IsPart i x leaf) where
    open part use {machine, got as got_x, got_leaf, got_machine, fits as ok}

    abbrev pub S : Shape
    S = shape_of machine leaf.memories.items leaf.streams.items

    pub used : is_used program x.body ≡ true
    used = any_of (λ (z : Instance). eqb z.body x.body) program.instances.items x (got_there program.instances.items i x got_x) (eq-eqb x.body x.body refl)

    abbrev pub lowered : IsLowered leaf machine
    lowered = ready.lowered.each x.body leaf machine got_leaf got_machine

    abbrev pub child : ModuleTree
    child = task_module leaf machine

    abbrev pub all_ports : List PortDecl
    all_ports = (empty (task_name machine.name)).ports ++ (task_inputs S ++ task_outputs S)

    pub ports_are : child.ports ≡ all_ports
    ports_are = (kept x.body leaf machine got_leaf got_machine used).ports

    pub named : module_named (lower_modules program machines added) (task_name leaf.name) ≡ Some child
    named = tasks_found program machines added ready kept x.body leaf machine got_leaf got_machine used

    abbrev ends : List Connection
    ends = task_connections program i x leaf

    -- ---- each port is joined once

    scalars_long : length S.scalars ≡ length leaf.scalars.items
    scalars_long = ap (λ (l : List ℕ). length l) lowered.scalars

    pub same : (y : Name) → joined ends y ≡ ported all_ports y
    same y =
        let scalars = each (scalar_connections i x) (length leaf.scalars.items) in
        let streams = each (stream_connections program x leaf) (length leaf.streams.items) in
        let memories = each (memory_connections program x) (length leaf.memories.items) in
        let done = connected_to (name Done) (ended_net i) ∷ [] in
        let first = clocks done in
        let a1 : joined ends y ≡ joined (first ++ scalars ++ streams) y + joined memories y = joined_append (first ++ scalars ++ streams) memories y in
        let a2 = joined_append (first ++ scalars) streams y in
        let a3 = joined_append first scalars y in
        let a4 : joined first y ≡ joined (clocks []) y + joined done y = joined_append (clocks []) done y in
        let s_in = each (scalar_input S) (length S.scalars) in
        let t_in = each (stream_in S) (length S.streams) in
        let m_in = each (memory_in S) (length S.memories) in
        let t_out = each (stream_out S) (length S.streams) in
        let m_out = each (memory_out S) (length S.memories) in
        let b1 : ported all_ports y ≡ ported (empty (task_name machine.name)).ports y + ported (task_inputs S ++ task_outputs S) y = ported_append (empty (task_name machine.name)).ports (task_inputs S ++ task_outputs S) y in
        let b2 = ported_append (task_inputs S) (task_outputs S) y in
        let b3 = ported_append (s_in ++ t_in) m_in y in
        let b4 = ported_append s_in t_in y in
        let b5 = ported_append ((outward 1 Done ∷ []) ++ t_out) m_out y in
        let b6 = ported_append (outward 1 Done ∷ []) t_out y in
        let c1 = first_same (task_name machine.name) y in
        let c2 : joined done y ≡ ported (outward 1 Done ∷ []) y = refl in
        let c3 : joined scalars y ≡ ported s_in y =
        each_same (scalar_connections i x) (scalar_input S) (length leaf.scalars.items) y (λ p. refl) ∙ ap (λ n. ported (each (scalar_input S) n) y) (sym scalars_long) in
        let c4 : joined streams y ≡ ported t_in y + ported t_out y =
        each_two (stream_connections program x leaf) (stream_in S) (stream_out S) (length leaf.streams.items) y
        (λ p. stream_same p (stream_label program (slice_index x.streams.items p)) (bits_of (stream_kind S p) + 1) y (is_written (slice_get leaf.streams.items p))) in
        let c5 : joined memories y ≡ ported m_in y + ported m_out y =
        each_two (memory_connections program x) (memory_in S) (memory_out S) (length leaf.memories.items) y
        (λ p. count_append (λ z. bytes_eq z y) (name (Ack p) ∷ name (Rdata p) ∷ []) (name (Addr p) ∷ name (Wdata p) ∷ name (We p) ∷ [])) in
        omega (arith, a1, a2, a3, a4, b1, b2, b3, b4, b5, b6, c1, c2, c3, c4, c5)

    -- ---- ports

    input_there : (p : PortDecl) → Has (task_inputs S) p → Has all_ports p
    input_there p h = has_right (empty (task_name machine.name)).ports (task_inputs S ++ task_outputs S) p (has_left (task_inputs S) (task_outputs S) p h)

    output_there : (p : PortDecl) → Has (task_outputs S) p → Has all_ports p
    output_there p h = has_right (empty (task_name machine.name)).ports (task_inputs S ++ task_outputs S) p (has_right (task_inputs S) (task_outputs S) p h)

    abbrev s_ports : List PortDecl
    s_ports = each (scalar_input S) (length S.scalars)

    abbrev t_ports : List PortDecl
    t_ports = each (stream_in S) (length S.streams)

    abbrev m_ports : List PortDecl
    m_ports = each (memory_in S) (length S.memories)

    pub scalar_port : (p : ℕ) → p < length leaf.scalars.items → Has all_ports (inward (bits_of (register_kind S (slice_index S.scalars p))) (ScalarPort p))
    scalar_port p l =
        let e = scalars_long in
        let q = inward (bits_of (register_kind S (slice_index S.scalars p))) (ScalarPort p) in
        input_there q (has_left (s_ports ++ t_ports) m_ports q (has_left s_ports t_ports q (has_each (scalar_input S) (length S.scalars) p q (omega (arith, e, l)) (inl refl))))

    stream_in_there : (p : ℕ) → p < length leaf.streams.items → (q : PortDecl) → Has (stream_in S p) q → Has all_ports q
    stream_in_there p l q h = input_there q (has_left (s_ports ++ t_ports) m_ports q (has_right s_ports t_ports q (has_each (stream_in S) (length S.streams) p q l h)))

    stream_out_there : (p : ℕ) → p < length leaf.streams.items → (q : PortDecl) → Has (stream_out S p) q → Has all_ports q
    stream_out_there p l q h =
        output_there q (inr (has_left (each (stream_out S) (length S.streams)) (each (memory_out S) (length S.memories)) q (has_each (stream_out S) (length S.streams) p q l h)))

    pub memory_in_there : (p : ℕ) → p < length leaf.memories.items → (q : PortDecl) → Has (memory_in S p) q → Has all_ports q
    memory_in_there p l q h = input_there q (has_right (s_ports ++ t_ports) m_ports q (has_each (memory_in S) (length S.memories) p q l h))

    pub memory_out_there : (p : ℕ) → p < length leaf.memories.items → (q : PortDecl) → Has (memory_out S p) q → Has all_ports q
    memory_out_there p l q h =
        output_there q (inr (has_right (each (stream_out S) (length S.streams)) (each (memory_out S) (length S.memories)) q (has_each (memory_out S) (length S.memories) p q l h)))

    pub done_port : Has all_ports (outward 1 Done)
    done_port = output_there (outward 1 Done) (inl refl)

    -- the ports of a stream, by its direction
    abbrev IsWay : ℕ → Bool → Type 0
    IsWay p b = is_written (slice_get leaf.streams.items p) ≡ b

    abbrev in_by : ℕ → Bool → List PortDecl
    in_by p b = cond b (inward 1 (Rdy p) ∷ []) (inward 1 (HasPort p) ∷ inward (bits_of (stream_kind S p) + 1) (Dout p) ∷ [])

    abbrev out_by : ℕ → Bool → List PortDecl
    out_by p b = cond b (outward 1 (Wr p) ∷ outward (bits_of (stream_kind S p) + 1) (Din p) ∷ []) (outward 1 (Taken p) ∷ [])

    way_in : (p : ℕ) → p < length leaf.streams.items → (b : Bool) → IsWay p b → (q : PortDecl) → Has (in_by p b) q → Has all_ports q
    way_in p l b e q h = stream_in_there p l q (subst (λ c. Has (in_by p c) q) (sym e) h)

    way_out : (p : ℕ) → p < length leaf.streams.items → (b : Bool) → IsWay p b → (q : PortDecl) → Has (out_by p b) q → Has all_ports q
    way_out p l b e q h = stream_out_there p l q (subst (λ c. Has (out_by p c) q) (sym e) h)

    pub rdy_port : (p : ℕ) → p < length leaf.streams.items → IsWay p true → Has all_ports (inward 1 (Rdy p))
    rdy_port p l e = way_in p l true e (inward 1 (Rdy p)) (inl refl)

    pub wr_port : (p : ℕ) → p < length leaf.streams.items → IsWay p true → Has all_ports (outward 1 (Wr p))
    wr_port p l e = way_out p l true e (outward 1 (Wr p)) (inl refl)

    pub din_port : (p : ℕ) → p < length leaf.streams.items → IsWay p true → Has all_ports (outward (bits_of (stream_kind S p) + 1) (Din p))
    din_port p l e = way_out p l true e (outward (bits_of (stream_kind S p) + 1) (Din p)) (inr (inl refl))

    pub has_port : (p : ℕ) → p < length leaf.streams.items → IsWay p false → Has all_ports (inward 1 (HasPort p))
    has_port p l e = way_in p l false e (inward 1 (HasPort p)) (inl refl)

    pub dout_port : (p : ℕ) → p < length leaf.streams.items → IsWay p false → Has all_ports (inward (bits_of (stream_kind S p) + 1) (Dout p))
    dout_port p l e = way_in p l false e (inward (bits_of (stream_kind S p) + 1) (Dout p)) (inr (inl refl))

    pub take_port : (p : ℕ) → p < length leaf.streams.items → IsWay p false → Has all_ports (outward 1 (Taken p))
    take_port p l e = way_out p l false e (outward 1 (Taken p)) (inl refl)

    -- ---- the streams and memories at positions

    pub record HasStream (p : ℕ) : Type 0 where
      pub number : ℕ
      pub got : slice_get x.streams.items p ≡ Some number
      pub end : End
      pub got_end : slice_get leaf.streams.items p ≡ Some end
      pub at : IsStreamAt program i number end
      pub label : stream_label program (slice_index x.streams.items p) ≡ at.stream.label
      pub bits : bits_of (stream_kind S p) + 1 ≡ token_bits at.stream.kind

    pub stream_at : (p : ℕ) → p < length leaf.streams.items → HasStream p
    stream_at p l =
        let long = ok.streams_len in
        let s = got_some x.streams.items p (omega (arith, long, l)) in
        let e = got_some leaf.streams.items p l in
        let at = ok.streams p s.0 e.0 s.1 e.1 in
        let index : slice_index x.streams.items p ≡ s.0 = get_or_from_slice_get x.streams.items p s.0 0 s.1 in
        let kind : stream_kind S p ≡ e.0.kind = ap (λ o. unwrap_or (option_map (λ (e : End). e.kind) o) U64) e.1 in
        record {
          number = s.0;
          got = s.1;
          end = e.0;
          got_end = e.1;
          at = at;
          label = ap (stream_label program) index ∙ ap (λ o. unwrap_or (option_map (λ (r : Stream). r.label) o) []) at.is;
          bits = ap (λ k. bits_of k + 1) (kind ∙ sym at.kind);
        }

    pub record HasMemory (p : ℕ) : Type 0 where
      pub number : ℕ
      pub got : slice_get x.memories.items p ≡ Some number
      pub kind : Kind
      pub got_kind : slice_get leaf.memories.items p ≡ Some kind
      pub at : IsMemoryAt program i number kind
      pub title : memory_name program (slice_index x.memories.items p) ≡ at.memory.name
      pub bits : bits_of (memory_kind S p) ≡ bits_of at.memory.kind

    pub memory_at : (p : ℕ) → p < length leaf.memories.items → HasMemory p
    memory_at p l =
        let long = ok.memories_len in
        let m = got_some x.memories.items p (omega (arith, long, l)) in
        let k = got_some leaf.memories.items p l in
        let at = ok.memories p m.0 k.0 m.1 k.1 in
        let index : slice_index x.memories.items p ≡ m.0 = get_or_from_slice_get x.memories.items p m.0 0 m.1 in
        let kind : memory_kind S p ≡ k.0 = get_or_from_slice_get leaf.memories.items p k.0 U64 k.1 in
        record {
          number = m.0;
          got = m.1;
          kind = k.0;
          got_kind = k.1;
          at = at;
          title = ap (memory_name program) index ∙ ap (λ o. unwrap_or (option_map (λ (r : Memory). r.name) o) []) at.is;
          bits = ap bits_of (kind ∙ sym at.kind);
        }

    -- ---- each connection is right

    abbrev Right : Connection → Type 0
    Right l = IsOrdered program all_ports l

    clock_right : Right (connected_to (codes "clk") (codes "clk"))
    unfolding clk
    clock_right = AtClock refl refl (inl refl)

    reset_right : Right (connected_to (codes "rst") (codes "rst"))
    unfolding rst
    reset_right = AtInput 1 (inr (inl refl)) (inl refl)

    scalar_bits : (p : ℕ) → p < length leaf.scalars.items → bits_of (register_kind S (slice_index S.scalars p)) ≡ bits_of (parameter_kind leaf p)
    scalar_bits p l =
        let well : IsLeaf leaf = ready.well_formed.leaves x.body leaf got_leaf in
        let v = got_some leaf.scalars.items p l in
        let k = got_some leaf.vars.items v.0 (well.scalars_in p v.0 v.1) in
        let regs : slice_get machine.regs.items v.0 ≡ Some k.0 = prefix_at leaf.vars.items machine.regs.items v.0 k.0 lowered.regs k.1 in
        let index : slice_index leaf.scalars.items p ≡ v.0 = get_or_from_slice_get leaf.scalars.items p v.0 0 v.1 in
        let own : slice_index S.scalars p ≡ v.0 = ap (λ (l : List ℕ). slice_index l p) lowered.scalars ∙ index in
        let a : register_kind S (slice_index S.scalars p) ≡ k.0 = ap (register_kind S) own ∙ get_or_from_slice_get machine.regs.items v.0 k.0 U64 regs in
        let b : parameter_kind leaf p ≡ k.0 = ap (λ n. slice_index_or leaf.vars.items n U64) index ∙ get_or_from_slice_get leaf.vars.items v.0 k.0 U64 k.1 in
        ap bits_of (a ∙ sym b)

    scalar_right : (p : ℕ) → p < length leaf.scalars.items → Right (connected_to (name (ScalarPort p)) (bound_by i p (slice_get x.scalars.items p)))
    scalar_right p l =
        let among : IsAmong (scalars program ++ parameters program i x leaf) (front program) =
        both_among (scalars program) (parameters program i x leaf) (front program) (λ e h. left_among (ports program) (streams program ++ bounds program ++ ends_of program) e (scalars_among program e h)) (parameters_front program i x leaf got_x got_leaf) in
        let net : IsNet (front program) (bound_by i p (slice_get x.scalars.items p)) (bits_of (parameter_kind leaf p)) =
        net_in (scalars program ++ parameters program i x leaf) (front program) among _ (bits_of (parameter_kind leaf p)) (parameter_net program i x leaf ok p l) in
        AtInput (bits_of (register_kind S (slice_index S.scalars p))) (scalar_port p l) (subst (λ w. IsNet (front program) (bound_by i p (slice_get x.scalars.items p)) w) (sym (scalar_bits p l)) net)

    module _ (p : ℕ) (l : p < length leaf.streams.items) where
      abbrev here : HasStream p
      here = stream_at p l

      abbrev r : Stream
      r = here.at.stream

      abbrev v : ℕ
      v = bits_of (stream_kind S p) + 1

      written_right : IsWay p true → (c : Connection) → Has (written_connections p r.label) c → Right c
      written_right e c (inl q) = subst Right q (AtInput 1 (rdy_port p l e) (link_front program here.number r here.at.is 1 (s_rdy r.label) (inr (inr (inl refl)))))
      written_right e c (inr (inl q)) = subst Right q (AtOutput 1 (wr_port p l e) (link_open program here.number r here.at.is 1 (s_wr r.label) (inr (inl refl))))
      written_right e c (inr (inr (inl q))) =
          let open_net = link_open program here.number r here.at.is (token_bits r.kind) (s_din r.label) (inl refl) in
          subst Right q (AtOutput v (din_port p l e) (subst (λ w. IsOpen (standing program) (s_din r.label) w) (sym here.bits) open_net))
      written_right e c (inr (inr (inr n))) = absurd n

      read_right : IsWay p false → (c : Connection) → Has (read_connections p r.label) c → Right c
      read_right e c (inl q) = subst Right q (AtInput 1 (has_port p l e) (link_front program here.number r here.at.is 1 (s_has r.label) (inr (inr (inr (inl refl))))))
      read_right e c (inr (inl q)) =
          let net = link_front program here.number r here.at.is (token_bits r.kind) (s_dout r.label) (inr (inr (inr (inr (inl refl))))) in
          subst Right q (AtInput v (dout_port p l e) (subst (λ w. IsNet (front program) (s_dout r.label) w) (sym here.bits) net))
      read_right e c (inr (inr (inl q))) = subst Right q (AtOutput 1 (take_port p l e) (take_open program here.number r here.at.is))
      read_right e c (inr (inr (inr n))) = absurd n

      stream_right : (b : Bool) → IsWay p b → (c : Connection) → Has (cond b (written_connections p r.label) (read_connections p r.label)) c → Right c
      stream_right true e c h = written_right e c h
      stream_right false e c h = read_right e c h

    memory_right : (p : ℕ) (h : HasMemory p) → p < length leaf.memories.items → (c : Connection) → Has (named_connections p h.at.memory.name) c → Right c
    memory_right p h l c (inl q) = subst Right q (AtInput 1 (memory_in_there p l _ (inl refl)) (answer_net program h.number h.at.memory h.at.is 1 (m_ack h.at.memory.name) (inr (inr (inr (inl refl))))))
    memory_right p h l c (inr (inl q)) =
        let r = h.at.memory in
        let net = answer_net program h.number r h.at.is (bits_of r.kind) (m_rdata r.name) (inr (inr (inr (inr (inl refl))))) in
        subst Right q (AtInput (bits_of (memory_kind S p)) (memory_in_there p l _ (inr (inl refl))) (subst (λ w. IsNet (front program) (m_rdata r.name) w) (sym h.bits) net))
    memory_right p h l c (inr (inr (inl q))) = subst Right q (AtOutput 64 (memory_out_there p l _ (inl refl)) (outlet_open program h.number h.at.memory h.at.is 64 (m_addr h.at.memory.name) (inl refl)))
    memory_right p h l c (inr (inr (inr (inl q)))) =
        let r = h.at.memory in
        let open_net = outlet_open program h.number r h.at.is (bits_of r.kind) (m_wdata r.name) (inr (inl refl)) in
        subst Right q (AtOutput (bits_of (memory_kind S p)) (memory_out_there p l _ (inr (inl refl))) (subst (λ w. IsOpen (standing program) (m_wdata r.name) w) (sym h.bits) open_net))
    memory_right p h l c (inr (inr (inr (inr (inl q))))) =
        subst Right q (AtOutput 1 (memory_out_there p l _ (inr (inr (inl refl)))) (outlet_open program h.number h.at.memory h.at.is 1 (m_we h.at.memory.name) (inr (inr (inl refl)))))
    memory_right p h l c (inr (inr (inr (inr (inr n))))) = absurd n

    scalar_of : (p : ℕ) → p < length leaf.scalars.items → (c : Connection) → Has (scalar_connections i x p) c → Right c
    scalar_of p l c (inl q) = subst Right q (scalar_right p l)
    scalar_of p l c (inr n) = absurd n

    pub end_right : (c : Connection) → Has ends c → Right c
    end_right c (inl q) = subst Right q clock_right
    end_right c (inr (inl q)) = subst Right q reset_right
    end_right c (inr (inr (inl q))) = subst Right q (AtOutput 1 done_port (ended_open program i (some_index program.instances.items i x got_x)))
    end_right c (inr (inr (inr h))) =
        let scalars = each (scalar_connections i x) (length leaf.scalars.items) in
        let streams = each (stream_connections program x leaf) (length leaf.streams.items) in
        let memories = each (memory_connections program x) (length leaf.memories.items) in
        ⊎_elim
        (λ k.
        ⊎_elim (λ l. let r = of_each (scalar_connections i x) (length leaf.scalars.items) c l in scalar_of r.0 r.1 c r.2)
        (λ l.
        let r = of_each (stream_connections program x leaf) (length leaf.streams.items) c l in
        let b = is_written (slice_get leaf.streams.items r.0) in
        stream_right r.0 r.1 b refl c (subst (λ t. Has (cond b (written_connections r.0 t) (read_connections r.0 t)) c) (stream_at r.0 r.1).label r.2))
        (has_split scalars streams c k))
        (λ l.
        let r = of_each (memory_connections program x) (length leaf.memories.items) c l in
        let m = memory_at r.0 r.1 in
        memory_right r.0 m r.1 c (subst (λ t. Has (named_connections r.0 t) c) m.title r.2))
        (has_split (scalars ++ streams) memories c h)

    pub task_joined : IsJoined (lower_modules program machines added) (standing program) (task_name leaf.name) ends
    task_joined = record {
      child = child;
      named = named;
      same = λ y. same y ∙ ap (λ (ps : List PortDecl). ported ps y) (sym ports_are);
      joins = subst (λ (ps : List PortDecl). AllByRecursion (IsJoin (standing program) ps) ends) (sym ports_are) (all_from (IsJoin (standing program) all_ports) ends (λ c h. to_join program all_ports c (end_right c h)));
    }
