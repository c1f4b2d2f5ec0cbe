use Rattle.std.proofs.Common.{◌≡◌, take}
use Rattle.number_graph.specs.Graphs.{rows_of}
use Rattle.sim_flat.specs.Kinds.{all_kinds}
use Rattle.sim_flat.proofs.kinds.kinds_of.Given as goal

abbrev pub invariant-loop-m : goal.invariant-loop-m
invariant-loop-m l = rows_of l.out.items ≡ all_kinds l.names (take l.m-index l.modules)
