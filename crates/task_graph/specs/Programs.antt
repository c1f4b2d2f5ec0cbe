-- The graph of a program.
use Rattle.std.specs.Prelude.{◌≡◌, ℕ, suc, ◌+◌, ◌<◌, List, map, length, slice_get}
use Rattle.std.specs.Option.{option_map_or}
use Rattle.tapa_base.specs.Kinds.{bits_of}
use Rattle.tapa_syntax.specs.declared.program.Instance.{Instance}
use Rattle.tapa_syntax.specs.declared.program.Leaf.{Leaf}
use Rattle.tapa_syntax.specs.declared.program.Program.{Program}
use Rattle.tapa_syntax.specs.declared.program.Stream.{Stream}
use Rattle.task_graph.specs.declared.Edge.{Edge}
use Rattle.task_graph.specs.declared.Graph.{Graph}
use Rattle.task_graph.specs.declared.Use.{Use}
use Rattle.task_graph.specs.Edges.{edge_of}
use Rattle.task_graph.specs.Uses.{use_of}

-- Its instances and streams are the program's, in order, and each instance uses what its leaf is estimated to take. The
-- type of a graph says which instances are in one group, and how groups are numbered.
pub record IsGraphOf (program : Program) (graph : Graph) : Type 0 where
  pub labels : graph.labels.items ≡ map (λ (i : Instance). i.label) program.instances.items
  pub uses : graph.uses.items ≡ map (use_of program.bodies.items) program.instances.items
  pub edges : graph.edges.items ≡ map edge_of program.streams.items
