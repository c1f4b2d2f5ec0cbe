-- Graphs as they grow.
use Rattle.std.specs.Prelude.{◌++◌}
use Rattle.vlog_tree.specs.Loops.{Edges}
use Rattle.vlog_net_graph.specs.declared.names.GraphDraft.{GraphDraft}
use Rattle.vlog_net_graph.specs.Names.{IsDraftOf, IsListed}

-- the new graph has these edges after those of the old one
pub record Adds (old new : GraphDraft) (more : Edges) : Type 0 where
  pub graph : (edges : Edges) → IsDraftOf edges old → IsDraftOf (edges ++ more) new
  pub listed : IsListed old → IsListed new
