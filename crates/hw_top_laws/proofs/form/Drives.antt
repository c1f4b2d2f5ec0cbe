-- What the instances of the top drive, as lists: each task its end, what it writes and takes, and what it asks of memories; each
-- channel its answers.
use Rattle.std.proofs.Common.{◌≡◌, ℕ, ◌+◌, ◌-◌, ◌*◌, ◌<◌, Bool, true, false, cond, List, [], ◌∷◌, ◌++◌, length, map, Some, inl, inr, refl, ap, subst, ◌∙◌}
use Rattle.std.specs.Prelude.{codes, slice_get, slice_index}
use Rattle.std.specs.List.{flat_map}
use Rattle.tapa_base.specs.Kinds.{bits_of}
use Rattle.tapa_syntax.specs.declared.program.Instance.{Instance}
use Rattle.tapa_syntax.specs.declared.program.Leaf.{Leaf}
use Rattle.tapa_syntax.specs.declared.program.Memory.{Memory}
use Rattle.tapa_syntax.specs.declared.program.Program.{Program}
use Rattle.tapa_syntax.specs.declared.program.Stream.{Stream}
use Rattle.task_fsm.specs.declared.machine.Fsm.{Fsm}
use Rattle.vlog_tree.specs.declared.tree.Connection.{Connection}
use Rattle.vlog_tree.specs.declared.tree.PortDecl.{PortDecl}
use Rattle.vlog_tree.specs.declared.tree.Atom.TheVariants.{Net}
use Rattle.vlog_tree.specs.declared.tree.BinaryOp.TheVariants.{Or}
use Rattle.vlog_tree.specs.declared.tree.Value.{Value}
use Rattle.vlog_tree.specs.declared.tree.Value.TheVariants.{Binary}
use Rattle.tapa_base.specs.Lists.{Has}
use Rattle.vlog_tree.specs.Labels.{rst, done, scalar, m_ack, m_rdata, m_addr, m_wdata, m_we, s_din, s_wr, s_rdy}
use Rattle.vlog_tree.specs.Table.{Name, clk, port_declared, net_kind_is_input, ports_of}
use Rattle.vlog_tree.specs.V4.{connection_driven}
use Rattle.vlog_module_laws.proofs.Larger.{known_by}
use Rattle.vlog_run_laws.proofs.runs.Alone.{module_is}
use Rattle.hw_build.specs.Elements.{Element, Input, Output, Outlet, Wire, InstanceWire, Instance as InstanceElement}
use Rattle.hw_build.specs.Fitting.{instance_driven}
use Rattle.hw_build.specs.Trees.{numbered, tree_nodes}
use Rattle.hw_build.specs.Scope.{each}
use Rattle.hw_build.specs.Fits.{AreOnce}
use Rattle.hw_channel_lines.specs.Names.{channel_name}
use Rattle.hw_channel_laws.specs.modules.Rules.{outer_ports}
use Rattle.hw_channel_lines.specs.Texts.{clocks, connected_to}
use Rattle.hw_lines.specs.declared.nets.Net.TheVariants.{Done, Scalar as ScalarPort, Has as HasPort, Dout, Taken, Din, Wr, Rdy, Ack, Rdata, Addr, Wdata, We}
use Rattle.hw_lines.specs.Nets.{name}
use Rattle.hw_lines.specs.Shape.{Shape, stream_kind, register_kind, memory_kind}
use Rattle.hw_lines.specs.Texts.{is_written, task_name}
use Rattle.hw_task_laws.specs.names.Ports.{inward, outward}
use Rattle.hw_task_laws.proofs.names.Empty.{GiveNone, both_none, more_none}
use Rattle.hw_top_laws.specs.joins.Joins.{input_port, output_port, port_names}
use Rattle.hw_top_laws.proofs.joins.Joined.{input_kind, output_kind}
use Rattle.hw_top_lines.specs.Names.{s_has, s_dout, s_take, task_instance, channel_instance, ended_net, waits, bound_net}
use Rattle.hw_top_lines.specs.Bounds.{bound_by, parameters}
use Rattle.hw_top_lines.specs.Legal.{IsReady}
use Rattle.hw_top_lines.specs.Texts.{memory_ports, ports, token_bits, stream_wires, stream_label, memory_name, at_instance, scalar_connections, written_connections, read_connections, stream_connections, named_connections, memory_connections, task_connections, still_waits, is_detached, waiting, none_waits, doneness, channel_connections, wires, instances}
use Rattle.hw_top_laws.specs.modules.Lower.{lower_modules, KeepPromises}
use Rattle.hw_top_laws.proofs.modules.Lower.{lower_ports}
use Rattle.hw_top_laws.proofs.design.OutsideParts.{flat_both, flat_each, each_nothing}
use Rattle.hw_top_laws.proofs.form.Channels.{outer}
use Rattle.hw_top_laws.proofs.form.PartByPart.{bounds_by, waits_by, done_by, wires_by, ports_by, instances_by}
use Rattle.hw_top_laws.proofs.form.Tasks.{IsPart, S, all_ports, named, child, ports_are, scalar_port as scalar_end_port, rdy_port, wr_port, din_port, has_port, dout_port, take_port, memory_in_there, memory_out_there, done_port}

-- ---- parts without links and instances

module _ {A : Type 0} (g : Element → List A) (of_wire : (w : ℕ) (x : Name) (v : Value) → g (Wire w x v) ≡ []) (program : Program) where
  abbrev n : ℕ
  n = length program.instances.items

  one_none : (w : ℕ) (x : Name) (v : Value) → GiveNone g (Wire w x v ∷ [])
  one_none w x v = more_none g (Wire w x v) [] (of_wire w x v) refl

  pub bounds_none : GiveNone g (each (at_instance program (parameters program)) n)
  bounds_none = bounds_by (GiveNone g) refl (both_none g) program (λ i p w k v. one_none w (bound_net i p k) v) (λ i p w k m v. one_none w (numbered (bound_net i p k) m) v)

  pub waits_none : GiveNone g (each (waiting program) n ++ tree_nodes 1 waits n (n - 1))
  waits_none =
      waits_by (GiveNone g) refl (both_none g) program (λ i. one_none 1 (numbered waits i) (still_waits i (is_detached (slice_get program.instances.items i))))
      (λ m. one_none 1 (numbered waits (n + m)) (Binary (Net (numbered waits (2 * m))) Or (Net (numbered waits (2 * m + 1)))))

  pub done_none : ((v : Value) → g (Output 1 done v) ≡ []) → GiveNone g (doneness program)
  done_none of_output = done_by (GiveNone g) refl (both_none g) program waits_none (more_none g (Output 1 done (none_waits n)) [] (of_output (none_waits n)) refl)

  module _ (of_link : (w : ℕ) (x : Name) → g (InstanceWire w x) ≡ []) where
    link_none : (w : ℕ) (x : Name) → GiveNone g (InstanceWire w x ∷ [])
    link_none w x = more_none g (InstanceWire w x) [] (of_link w x) refl

    pub wires_none : GiveNone g (wires program)
    wires_none = wires_by (GiveNone g) refl (both_none g) program stream bounds_none (λ i l. link_none 1 (ended_net i)) (λ s r e. link_none 1 (s_take r.label)) where
      stream : (s : ℕ) (r : Stream) → slice_get program.streams.items s ≡ Some r → GiveNone g (stream_wires (Some r))
      stream s r e =
          let b = token_bits r.kind in
          rw (of_link b (s_din r.label), of_link 1 (s_wr r.label), of_link 1 (s_rdy r.label), of_link 1 (s_has r.label), of_link b (s_dout r.label)) refl

module _ {A : Type 0} (g : Element → List A) (of_input : (w : ℕ) (x : Name) → g (Input w x) ≡ []) (of_outlet : (w : ℕ) (x : Name) → g (Outlet w x) ≡ []) (program : Program) where
  pub ports_none : GiveNone g (ports program)
  ports_none = ports_by (GiveNone g) refl (both_none g) program (λ k c e. more_none g (Input (bits_of c.kind) (scalar c.name)) [] (of_input (bits_of c.kind) (scalar c.name)) refl) memory where
    memory : (k : ℕ) (m : Memory) → slice_get program.memories.items k ≡ Some m → GiveNone g (memory_ports (Some m))
    memory k m e =
        let b = bits_of m.kind in
        rw (of_outlet 64 (m_addr m.name), of_outlet b (m_wdata m.name), of_outlet 1 (m_we m.name), of_input 1 (m_ack m.name), of_input b (m_rdata m.name)) refl

-- what stands before the instances
pub standing_none : {A : Type 0} (g : Element → List A) (program : Program) → ((w : ℕ) (x : Name) (v : Value) → g (Wire w x v) ≡ []) → ((w : ℕ) (x : Name) → g (InstanceWire w x) ≡ []) → ((v : Value) → g (Output 1 done v) ≡ [])
    → ((w : ℕ) (x : Name) → g (Input w x) ≡ []) → ((w : ℕ) (x : Name) → g (Outlet w x) ≡ []) → GiveNone g (ports program ++ wires program ++ doneness program)
standing_none g program wire link output input outlet =
    both_none g (ports program ++ wires program) (doneness program)
    (both_none g (ports program) (wires program) (ports_none g input outlet program) (wires_none g wire program link)) (done_none g wire program output)

module _ {A : Type 0} (g : Element → List A) (of_part : (k i : Name) (ls : List Connection) → g (InstanceElement k i ls) ≡ []) (program : Program) (added : List ℕ) where
  part_none : (k i : Name) (ls : List Connection) → GiveNone g (InstanceElement k i ls ∷ [])
  part_none k i ls = more_none g (InstanceElement k i ls) [] (of_part k i ls) refl

  pub instances_none : GiveNone g (instances program added)
  instances_none =
      instances_by (GiveNone g) refl (both_none g) program added (λ i x leaf at body. part_none (task_name leaf.name) (task_instance x.label) (task_connections program i x leaf))
      (λ s r at. part_none (channel_name (token_bits r.kind) r.depth (slice_index added s)) (channel_instance r.label) (channel_connections r.label))

-- ---- what a connection drives

module _ (ports : List PortDecl) (once : AreOnce (port_names ports)) where
  abbrev drives : Connection → List Name
  drives l = connection_driven (map port_declared ports) l

  drives_none : (w : ℕ) (l : Connection) → Has ports (input_port w l.port) → drives l ≡ []
  unfolding connection_driven
  drives_none w l h = ap (λ b. cond b [] (l.net ∷ [])) (ap net_kind_is_input (input_kind ports once w l.port h))

  drives_net : (w : ℕ) (l : Connection) → Has ports (output_port w l.port) → drives l ≡ l.net ∷ []
  unfolding connection_driven
  drives_net w l h = ap (λ b. cond b [] (l.net ∷ [])) (ap net_kind_is_input (output_kind ports once w l.port h))

-- ---- what an instance of a task drives

abbrev pub stream_drives : Program → Instance → Leaf → ℕ → List Name
stream_drives program x leaf p =
    cond (is_written (slice_get leaf.streams.items p)) (s_wr (stream_label program (slice_index x.streams.items p)) ∷ s_din (stream_label program (slice_index x.streams.items p)) ∷ [])
    (s_take (stream_label program (slice_index x.streams.items p)) ∷ [])

abbrev pub memory_drives : Program → Instance → ℕ → List Name
memory_drives program x p =
    m_addr (memory_name program (slice_index x.memories.items p)) ∷ m_wdata (memory_name program (slice_index x.memories.items p)) ∷ m_we (memory_name program (slice_index x.memories.items p)) ∷ []

abbrev pub task_drives : Program → ℕ → Instance → Leaf → List Name
task_drives program i x leaf =
    ended_net i ∷ (each (stream_drives program x leaf) (length leaf.streams.items) ++ each (memory_drives program x) (length leaf.memories.items))

abbrev pub channel_drives : Stream → List Name
channel_drives r = s_rdy r.label ∷ s_has r.label ∷ s_dout r.label ∷ []

module _ (program : Program) (machines : List Fsm) (added : List ℕ) (ready : IsReady program machines added) (kept : KeepPromises program machines) where
  module _ (i : ℕ) (x : Instance) (leaf : Leaf) (part : IsPart program machines added ready kept i x leaf) where
    abbrev ps : List PortDecl
    ps = all_ports program machines added ready kept i x leaf part

    once : AreOnce (port_names ps)
    once =
        subst (λ (l : List PortDecl). AreOnce (port_names l)) (ports_are program machines added ready kept i x leaf part)
        (lower_ports program machines added ready kept (child program machines added ready kept i x leaf part)
        (module_is (lower_modules program machines added) (task_name leaf.name) (child program machines added ready kept i x leaf part) (named program machines added ready kept i x leaf part)).has)

    abbrev shape : Shape
    shape = S program machines added ready kept i x leaf part

    abbrev driven : Connection → List Name
    driven l = connection_driven (map port_declared ps) l

    scalar_driven : (p : ℕ) → p < length leaf.scalars.items → flat_map driven (scalar_connections i x p) ≡ []
    scalar_driven p l =
        let c = connected_to (name (ScalarPort p)) (bound_by i p (slice_get x.scalars.items p)) in
        rw (drives_none ps once (bits_of (register_kind shape (slice_index shape.scalars p))) c (scalar_end_port program machines added ready kept i x leaf part p l)) refl

    written_driven : (p : ℕ) → p < length leaf.streams.items → is_written (slice_get leaf.streams.items p) ≡ true → (t : Name) → flat_map driven (written_connections p t) ≡ s_wr t ∷ s_din t ∷ []
    written_driven p l e t =
        let e1 = drives_none ps once 1 (connected_to (name (Rdy p)) (s_rdy t)) (rdy_port program machines added ready kept i x leaf part p l e) in
        let e2 = drives_net ps once 1 (connected_to (name (Wr p)) (s_wr t)) (wr_port program machines added ready kept i x leaf part p l e) in
        let e3 = drives_net ps once (bits_of (stream_kind shape p) + 1) (connected_to (name (Din p)) (s_din t)) (din_port program machines added ready kept i x leaf part p l e) in
        rw (e1, e2, e3) refl

    read_driven : (p : ℕ) → p < length leaf.streams.items → is_written (slice_get leaf.streams.items p) ≡ false → (t : Name) → flat_map driven (read_connections p t) ≡ s_take t ∷ []
    read_driven p l e t =
        let e1 = drives_none ps once 1 (connected_to (name (HasPort p)) (s_has t)) (has_port program machines added ready kept i x leaf part p l e) in
        let e2 = drives_none ps once (bits_of (stream_kind shape p) + 1) (connected_to (name (Dout p)) (s_dout t)) (dout_port program machines added ready kept i x leaf part p l e) in
        let e3 = drives_net ps once 1 (connected_to (name (Taken p)) (s_take t)) (take_port program machines added ready kept i x leaf part p l e) in
        rw (e1, e2, e3) refl

    stream_driven : (p : ℕ) → p < length leaf.streams.items → (t : Name) (b : Bool) → is_written (slice_get leaf.streams.items p) ≡ b → flat_map driven (cond b (written_connections p t) (read_connections p t)) ≡ cond b (s_wr t ∷ s_din t ∷ []) (s_take t ∷ [])
    stream_driven p l t true e = written_driven p l e t
    stream_driven p l t false e = read_driven p l e t

    memory_driven : (p : ℕ) → p < length leaf.memories.items → (t : Name) → flat_map driven (named_connections p t) ≡ m_addr t ∷ m_wdata t ∷ m_we t ∷ []
    memory_driven p l t =
        let w = bits_of (memory_kind shape p) in
        let e1 = drives_none ps once 1 (connected_to (name (Ack p)) (m_ack t)) (memory_in_there program machines added ready kept i x leaf part p l (inward 1 (Ack p)) (inl refl)) in
        let e2 = drives_none ps once w (connected_to (name (Rdata p)) (m_rdata t)) (memory_in_there program machines added ready kept i x leaf part p l (inward w (Rdata p)) (inr (inl refl))) in
        let e3 = drives_net ps once 64 (connected_to (name (Addr p)) (m_addr t)) (memory_out_there program machines added ready kept i x leaf part p l (outward 64 (Addr p)) (inl refl)) in
        let e4 = drives_net ps once w (connected_to (name (Wdata p)) (m_wdata t)) (memory_out_there program machines added ready kept i x leaf part p l (outward w (Wdata p)) (inr (inl refl))) in
        let e5 = drives_net ps once 1 (connected_to (name (We p)) (m_we t)) (memory_out_there program machines added ready kept i x leaf part p l (outward 1 (We p)) (inr (inr (inl refl)))) in
        rw (e1, e2, e3, e4, e5) refl

    first_driven : flat_map driven (clocks (connected_to (name Done) (ended_net i) ∷ [])) ≡ ended_net i ∷ []
    unfolding clk rst
    first_driven =
        let e1 = drives_none ps once 1 (connected_to (codes "clk") (codes "clk")) (inl refl) in
        let e2 = drives_none ps once 1 (connected_to (codes "rst") (codes "rst")) (inr (inl refl)) in
        let e3 = drives_net ps once 1 (connected_to (name Done) (ended_net i)) (done_port program machines added ready kept i x leaf part) in
        rw (e1, e2, e3) refl

    ends_driven : flat_map driven (task_connections program i x leaf) ≡ task_drives program i x leaf
    ends_driven =
        let first = clocks (connected_to (name Done) (ended_net i) ∷ []) in
        let scalars = each (scalar_connections i x) (length leaf.scalars.items) in
        let streams = each (stream_connections program x leaf) (length leaf.streams.items) in
        let memories = each (memory_connections program x) (length leaf.memories.items) in
        let written = each (stream_drives program x leaf) (length leaf.streams.items) in
        let stored = each (memory_drives program x) (length leaf.memories.items) in
        flat_both driven (first ++ scalars ++ streams) memories (ended_net i ∷ written) stored
        (flat_both driven (first ++ scalars) streams (ended_net i ∷ []) written
        (flat_both driven first scalars (ended_net i ∷ []) [] first_driven (flat_each driven (scalar_connections i x) (λ k. []) (length leaf.scalars.items) scalar_driven ∙ each_nothing (length leaf.scalars.items)))
        (flat_each driven (stream_connections program x leaf) (stream_drives program x leaf) (length leaf.streams.items)
        (λ p l. stream_driven p l (stream_label program (slice_index x.streams.items p)) (is_written (slice_get leaf.streams.items p)) refl)))
        (flat_each driven (memory_connections program x) (memory_drives program x) (length leaf.memories.items) (λ p l. memory_driven p l (memory_name program (slice_index x.memories.items p))))

    pub task_driven : (t : Name) → instance_driven (lower_modules program machines added) (InstanceElement (task_name leaf.name) t (task_connections program i x leaf)) ≡ task_drives program i x leaf
    task_driven t =
        let lower = lower_modules program machines added in
        let e : ports_of lower (task_name leaf.name) ≡ ps =
        (known_by lower (task_name leaf.name) (child program machines added ready kept i x leaf part) (named program machines added ready kept i x leaf part)).1
        ∙ ports_are program machines added ready kept i x leaf part in
        ap (λ (l : List PortDecl). flat_map (connection_driven (map port_declared l)) (task_connections program i x leaf)) e ∙ ends_driven

  -- and what a channel drives
  module _ (s : ℕ) (r : Stream) (got : slice_get program.streams.items s ≡ Some r) where
    abbrev cs : List PortDecl
    cs = outer_ports (token_bits r.kind)

    channel_once : AreOnce (port_names cs)
    channel_once =
        let o = outer program machines added ready kept s r got in
        subst (λ (l : List PortDecl). AreOnce (port_names l)) o.ports
        (lower_ports program machines added ready kept o.module_is (module_is (lower_modules program machines added) (channel_name (token_bits r.kind) r.depth (slice_index added s)) o.module_is o.named).has)

    channel_ends_driven : flat_map (λ (l : Connection). connection_driven (map port_declared cs) l) (channel_connections r.label) ≡ channel_drives r
    unfolding clk rst
    channel_ends_driven =
        let l = r.label in
        let w = token_bits r.kind in
        let e1 = drives_none cs channel_once 1 (connected_to (codes "clk") (codes "clk")) (inl refl) in
        let e2 = drives_none cs channel_once 1 (connected_to (codes "rst") (codes "rst")) (inr (inl refl)) in
        let e3 = drives_none cs channel_once w (connected_to (codes "din") (s_din l)) (inr (inr (inl refl))) in
        let e4 = drives_none cs channel_once 1 (connected_to (codes "wr") (s_wr l)) (inr (inr (inr (inl refl)))) in
        let e5 = drives_none cs channel_once 1 (connected_to (codes "take") (s_take l)) (inr (inr (inr (inr (inl refl))))) in
        let e6 = drives_net cs channel_once 1 (connected_to (codes "rdy") (s_rdy l)) (inr (inr (inr (inr (inr (inl refl)))))) in
        let e7 = drives_net cs channel_once 1 (connected_to (codes "has") (s_has l)) (inr (inr (inr (inr (inr (inr (inl refl))))))) in
        let e8 = drives_net cs channel_once w (connected_to (codes "dout") (s_dout l)) (inr (inr (inr (inr (inr (inr (inr (inl refl)))))))) in
        rw (e1, e2, e3, e4, e5, e6, e7, e8) refl

    pub channel_driven : (t : Name) → instance_driven (lower_modules program machines added) (InstanceElement (channel_name (token_bits r.kind) r.depth (slice_index added s)) t (channel_connections r.label)) ≡ channel_drives r
    channel_driven t =
        let lower = lower_modules program machines added in
        let o = outer program machines added ready kept s r got in
        let e : ports_of lower (channel_name (token_bits r.kind) r.depth (slice_index added s)) ≡ cs = (known_by lower (channel_name (token_bits r.kind) r.depth (slice_index added s)) o.module_is o.named).1 ∙ o.ports in
        ap (λ (l : List PortDecl). flat_map (connection_driven (map port_declared l)) (channel_connections r.label)) e ∙ channel_ends_driven
