-- A stream of a program as an edge between instances.
use Rattle.std.specs.Prelude.{ℕ, ◌+◌, ◌<◌, List, length}
use Rattle.tapa_base.specs.Kinds.{bits_of}
use Rattle.tapa_syntax.specs.declared.program.Stream.{Stream}
use Rattle.task_graph.specs.declared.Edge.{Edge}
use Rattle.task_graph.specs.Streams.{from_of, to_of}

-- as wide as its kind, and one bit for the end of a transmission
abbrev pub edge_of : Stream → Edge
edge_of r = record { from = r.producer; to = r.consumer; width = bits_of r.kind + 1; label = r.label }

-- both ends of each edge are below a number
abbrev pub EndBelow : ℕ → List Edge → Type 0
EndBelow n edges = (e : ℕ) → e < length edges → (from_of edges e < n) × (to_of edges e < n)
