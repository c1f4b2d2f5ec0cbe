use Rattle.std.proofs.Common.{◌≡◌, ◌++◌, drop}
use Rattle.std.specs.List.{flat_map}
use Rattle.vlog_tree.specs.Loops.{Edges, own_containment}
use Rattle.vlog_net_graph.specs.Names.{IsDraftOf}
use Rattle.vlog_net_graph.proofs.containment.containment_draft.Given as goal

abbrev pub invariant-loop-m : goal.invariant-loop-m
invariant-loop-m l = (done : Edges) × IsDraftOf done l.g × (done ++ flat_map own_containment (drop l.m-index l.modules) ≡ flat_map own_containment l.modules)
