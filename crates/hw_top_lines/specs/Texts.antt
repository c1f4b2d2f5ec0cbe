-- The top module of a circuit by its elements: the top task's scalars and memories as ports, six wires for each stream, the
-- instances of the tasks, connected to these by their parameters, and a channel for each stream.
use Rattle.std.specs.Prelude.{ℕ, zero, suc, ◌-◌, List, [], ◌∷◌, ◌++◌, length, Bool, true, Option, Some, None, option_map, unwrap_or, slice_get, slice_index, if◌then◌else◌, codes}
use Rattle.tapa_base.specs.Kinds.{bits_of}
use Rattle.tapa_syntax.specs.declared.program.Instance.{Instance}
use Rattle.tapa_syntax.specs.declared.program.Leaf.{Leaf}
use Rattle.tapa_syntax.specs.declared.program.Memory.{Memory}
use Rattle.tapa_syntax.specs.declared.program.Program.{Program}
use Rattle.tapa_syntax.specs.declared.program.Scalar.{Scalar}
use Rattle.tapa_syntax.specs.declared.program.Stream.{Stream}
use Rattle.vlog_tree.specs.declared.tree.Atom.TheVariants.{Net as NetAtom, Literal}
use Rattle.vlog_tree.specs.declared.tree.Connection.{Connection}
use Rattle.vlog_tree.specs.declared.tree.Value.{Value}
use Rattle.vlog_tree.specs.declared.tree.Value.TheVariants.{Plain, Invert}
use Rattle.vlog_tree.specs.Form.{ModuleTree}
use Rattle.vlog_tree.specs.Labels.{done, scalar, m_ack, m_rdata, m_addr, m_wdata, m_we, s_din, s_wr, s_rdy}
use Rattle.vlog_tree.specs.Table.{Name}
use Rattle.hw_build.specs.Elements.{Element, Input, Output, Outlet, Wire, InstanceWire, Instance as InstanceElement, built}
use Rattle.hw_build.specs.Trees.{numbered, tree_nodes, tree_root}
use Rattle.hw_build.specs.Scope.{each}
use Rattle.hw_channel_lines.specs.Names.{channel_name}
use Rattle.hw_channel_lines.specs.Texts.{clocks, connected_to}
use Rattle.hw_lines.specs.declared.nets.Net.TheVariants.{Done, Scalar as ScalarPort, Has, Dout, Taken, Din, Wr, Rdy, Ack, Rdata, Addr, Wdata, We}
use Rattle.hw_lines.specs.Nets.{name}
use Rattle.hw_lines.specs.Texts.{is_written, task_name}
pub use Rattle.circuit_meaning.specs.Ports.{token_bits}
use Rattle.hw_top_lines.specs.Names.{s_has, s_dout, s_take, task_instance, channel_instance, ended_net, waits}
use Rattle.hw_top_lines.specs.Bounds.{parameters, bound_by}

-- ---- ports

abbrev pub scalar_port : Option Scalar → List Element
scalar_port None = []
scalar_port (Some c) = Input (bits_of c.kind) (scalar c.name) ∷ []

-- a memory gets an address, a cell and whether to store it there, and answers with a cell
abbrev pub memory_ports : Option Memory → List Element
memory_ports None = []
memory_ports (Some m) =
    Outlet 64 (m_addr m.name) ∷ Outlet (bits_of m.kind) (m_wdata m.name) ∷ Outlet 1 (m_we m.name) ∷ Input 1 (m_ack m.name) ∷ Input (bits_of m.kind) (m_rdata m.name) ∷ []

abbrev pub ports : Program → List Element
ports program =
    each (λ x. scalar_port (slice_get program.scalars.items x)) (length program.scalars.items)
    ++ each (λ m. memory_ports (slice_get program.memories.items m)) (length program.memories.items)

-- ---- streams

abbrev pub stream_wires : Option Stream → List Element
stream_wires None = []
stream_wires (Some r) =
    InstanceWire (token_bits r.kind) (s_din r.label) ∷ InstanceWire 1 (s_wr r.label) ∷ InstanceWire 1 (s_rdy r.label)
    ∷ InstanceWire 1 (s_has r.label) ∷ InstanceWire (token_bits r.kind) (s_dout r.label) ∷ []

-- whether a token is taken may depend on all inputs of a task, so its wire comes after all other wires
abbrev pub take_wire : Option Stream → List Element
take_wire None = []
take_wire (Some r) = InstanceWire 1 (s_take r.label) ∷ []

-- ---- instances

abbrev pub of_leaf : (Instance → Leaf → List Element) → Instance → Option Leaf → List Element
of_leaf f x None = []
of_leaf f x (Some leaf) = f x leaf

abbrev pub of_instance : Program → (Instance → Leaf → List Element) → Option Instance → List Element
of_instance program f None = []
of_instance program f (Some x) = of_leaf f x (slice_get program.bodies.items x.body)

abbrev pub at_instance : Program → (ℕ → Instance → Leaf → List Element) → ℕ → List Element
at_instance program f i = of_instance program (f i) (slice_get program.instances.items i)

-- the label of the stream, and the name of the memory, of a number
abbrev pub stream_label : Program → ℕ → Name
stream_label program s = unwrap_or (option_map (λ (r : Stream). r.label) (slice_get program.streams.items s)) []

abbrev pub memory_name : Program → ℕ → Name
memory_name program m = unwrap_or (option_map (λ (r : Memory). r.name) (slice_get program.memories.items m)) []

-- parameter p of each sort, at a stream of a label or a memory of a name
abbrev pub scalar_connections : ℕ → Instance → ℕ → List Connection
scalar_connections i x p = connected_to (name (ScalarPort p)) (bound_by i p (slice_get x.scalars.items p)) ∷ []

abbrev pub written_connections : ℕ → Name → List Connection
written_connections p l = connected_to (name (Rdy p)) (s_rdy l) ∷ connected_to (name (Wr p)) (s_wr l) ∷ connected_to (name (Din p)) (s_din l) ∷ []

abbrev pub read_connections : ℕ → Name → List Connection
read_connections p l = connected_to (name (Has p)) (s_has l) ∷ connected_to (name (Dout p)) (s_dout l) ∷ connected_to (name (Taken p)) (s_take l) ∷ []

abbrev pub stream_connections : Program → Instance → Leaf → ℕ → List Connection
stream_connections program x leaf p =
    if is_written (slice_get leaf.streams.items p) then written_connections p (stream_label program (slice_index x.streams.items p))
    else read_connections p (stream_label program (slice_index x.streams.items p))

abbrev pub named_connections : ℕ → Name → List Connection
named_connections p m =
    connected_to (name (Ack p)) (m_ack m) ∷ connected_to (name (Rdata p)) (m_rdata m) ∷ connected_to (name (Addr p)) (m_addr m)
    ∷ connected_to (name (Wdata p)) (m_wdata m) ∷ connected_to (name (We p)) (m_we m) ∷ []

abbrev pub memory_connections : Program → Instance → ℕ → List Connection
memory_connections program x p = named_connections p (memory_name program (slice_index x.memories.items p))

-- the nets of an instance of a task
abbrev pub task_connections : Program → ℕ → Instance → Leaf → List Connection
task_connections program i x leaf =
    clocks (connected_to (name Done) (ended_net i) ∷ [])
    ++ each (scalar_connections i x) (length leaf.scalars.items) ++ each (stream_connections program x leaf) (length leaf.streams.items)
    ++ each (memory_connections program x) (length leaf.memories.items)

abbrev pub task_part : Program → ℕ → Instance → Leaf → List Element
task_part program i x leaf = InstanceElement (task_name leaf.name) (task_instance x.label) (task_connections program i x leaf) ∷ []

-- ---- when all is done

abbrev pub ended_wire : ℕ → List Element
ended_wire i = InstanceWire 1 (ended_net i) ∷ []

-- an instance is waited for until it has ended, and a detached one never (TAPA: `invoke<tapa::detach>`)
abbrev pub still_waits : ℕ → Bool → Value
still_waits i detached = if detached then Plain (Literal 1 0) else Invert (NetAtom (ended_net i))

abbrev pub is_detached : Option Instance → Bool
is_detached None = true
is_detached (Some x) = x.detached

abbrev pub waiting : Program → ℕ → List Element
waiting program i = Wire 1 (numbered waits i) (still_waits i (is_detached (slice_get program.instances.items i))) ∷ []

-- no instance is waited for
abbrev pub none_waits : ℕ → Value
none_waits zero = Plain (Literal 1 1)
none_waits (suc n) = Invert (NetAtom (tree_root waits (suc n)))

abbrev pub doneness : Program → List Element
doneness program =
    each (waiting program) (length program.instances.items) ++ tree_nodes 1 waits (length program.instances.items) (length program.instances.items - 1)
    ++ (Output 1 done (none_waits (length program.instances.items)) ∷ [])

-- ---- channels

abbrev pub channel_connections : Name → List Connection
channel_connections l =
    clocks (connected_to (codes "din") (s_din l) ∷ connected_to (codes "wr") (s_wr l) ∷ connected_to (codes "take") (s_take l)
    ∷ connected_to (codes "rdy") (s_rdy l) ∷ connected_to (codes "has") (s_has l) ∷ connected_to (codes "dout") (s_dout l) ∷ [])

-- of a stream with `late` cycles of added latency
abbrev pub channel_part : ℕ → Option Stream → List Element
channel_part late None = []
channel_part late (Some r) = InstanceElement (channel_name (token_bits r.kind) r.depth late) (channel_instance r.label) (channel_connections r.label) ∷ []

-- ---- the module

-- wires come before the instances that drive them
abbrev pub wires : Program → List Element
wires program =
    each (λ s. stream_wires (slice_get program.streams.items s)) (length program.streams.items)
    ++ each (at_instance program (parameters program)) (length program.instances.items)
    ++ each ended_wire (length program.instances.items)
    ++ each (λ s. take_wire (slice_get program.streams.items s)) (length program.streams.items)

abbrev pub instances : Program → List ℕ → List Element
instances program added =
    each (at_instance program (task_part program)) (length program.instances.items)
    ++ each (λ s. channel_part (slice_index added s) (slice_get program.streams.items s)) (length program.streams.items)

-- by the added latency of each stream
abbrev pub top_elements : Program → List ℕ → List Element
top_elements program added = ports program ++ wires program ++ doneness program ++ instances program added

abbrev pub top_tree : Program → List ℕ → ModuleTree
top_tree program added = built (task_name program.top) (top_elements program added)
