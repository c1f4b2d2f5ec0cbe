use Rattle.std.proofs.Common.{◌≡◌, drop}
use Rattle.std.specs.List.{flat_map}
use Rattle.sim_flat.specs.Written.{written, join_writes, joined_of}
use Rattle.sim_flat.proofs.tables.joined_of.Given as goal

abbrev pub invariant-loop-l : goal.invariant-loop-l
invariant-loop-l l = written (flat_map (join_writes l.inner l.scope) (drop l.l-index l.connections)) l.joined.items ≡ joined_of l.inner l.scope l.connections
