use Rattle.std.proofs.Common.{◌≡◌, drop}
use Rattle.std.specs.List.{flat_map}
use Rattle.sim_flat.specs.Written.{written, output_writes}
use Rattle.sim_flat.proofs.tables.drive_all.Given as goal

abbrev pub invariant-loop-l : goal.invariant-loop-l
invariant-loop-l l = written (flat_map (output_writes l.inner l.scope l.child) (drop l.l-index l.connections)) l.sources.items ≡ written (flat_map (output_writes l.inner l.scope l.child) l.connections) l.fn.sources.items
