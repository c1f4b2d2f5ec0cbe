-- The ports of a task's module after its clock and its reset.
use Rattle.std.specs.Prelude.{◌≡◌, ℕ, ◌+◌, List, [], ◌∷◌, ◌++◌, length, slice_index, if◌then◌else◌}
use Rattle.std.specs.List.{flat_map}
use Rattle.tapa_base.specs.Kinds.{bits_of}
use Rattle.vlog_tree.specs.declared.tree.Direction.TheVariants.{Input as Inward, Output as Outward}
use Rattle.vlog_tree.specs.declared.tree.PortDecl.{PortDecl}
use Rattle.vlog_tree.specs.Table.{Name}
use Rattle.hw_build.specs.Elements.{element_ports, empty, built}
use Rattle.hw_build.specs.Scope.{each}
use Rattle.hw_lines.specs.declared.nets.Net.{Net}
use Rattle.hw_lines.specs.declared.nets.Net.TheVariants.{Done, Scalar, Has, Dout, Taken, Din, Wr, Rdy, Ack, Rdata, Addr, Wdata, We}
use Rattle.hw_lines.specs.Nets.{name}
use Rattle.hw_lines.specs.Shape.{Shape, stream_kind, register_kind, memory_kind}
use Rattle.hw_lines.specs.Texts.{writes, task_elements}

abbrev pub inward : ℕ → Net → PortDecl
inward w x = record { direction = Inward; width = w; name = name x }

abbrev pub outward : ℕ → Net → PortDecl
outward w x = record { direction = Outward; width = w; name = name x }

-- a scalar parameter has an input of its kind's bits
abbrev pub scalar_input : Shape → ℕ → List PortDecl
scalar_input S i = inward (bits_of (register_kind S (slice_index S.scalars i))) (Scalar i) ∷ []

-- a stream that is read has inputs for whether it has a token and for the token, and an output that takes it; one that is
-- written has an input for whether it is ready, and outputs for a token and to write it. A token has its kind's bits and one more
abbrev pub stream_in : Shape → ℕ → List PortDecl
stream_in S s = if writes S s then inward 1 (Rdy s) ∷ [] else inward 1 (Has s) ∷ inward (bits_of (stream_kind S s) + 1) (Dout s) ∷ []

abbrev pub stream_out : Shape → ℕ → List PortDecl
stream_out S s = if writes S s then outward 1 (Wr s) ∷ outward (bits_of (stream_kind S s) + 1) (Din s) ∷ [] else outward 1 (Taken s) ∷ []

-- a memory has inputs for an acknowledgement and a cell, and outputs for the address, a cell and to store it
abbrev pub memory_in : Shape → ℕ → List PortDecl
memory_in S m = inward 1 (Ack m) ∷ inward (bits_of (memory_kind S m)) (Rdata m) ∷ []

abbrev pub memory_out : Shape → ℕ → List PortDecl
memory_out S m = outward 64 (Addr m) ∷ outward (bits_of (memory_kind S m)) (Wdata m) ∷ outward 1 (We m) ∷ []

-- the inputs and then the outputs, each of the scalars, the streams and the memories in order
abbrev pub task_inputs : Shape → List PortDecl
task_inputs S = each (scalar_input S) (length S.scalars) ++ each (stream_in S) (length S.streams) ++ each (memory_in S) (length S.memories)

abbrev pub task_outputs : Shape → List PortDecl
task_outputs S = (outward 1 Done ∷ []) ++ each (stream_out S) (length S.streams) ++ each (memory_out S) (length S.memories)

abbrev pub PortsAreThese : Type 0
PortsAreThese = (S : Shape) → flat_map element_ports (task_elements S) ≡ task_inputs S ++ task_outputs S

-- after the clock and the reset these are the module's
abbrev pub ModulesHavePorts : Type 0
ModulesHavePorts = (S : Shape) (title : Name) → (built title (task_elements S)).ports ≡ (empty title).ports ++ (task_inputs S ++ task_outputs S)
