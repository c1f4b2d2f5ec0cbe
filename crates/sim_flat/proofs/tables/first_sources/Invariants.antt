use Rattle.std.proofs.Common.{◌≡◌, ◌++◌, drop, map}
use Rattle.sim_flat.specs.Written.{first_source}
use Rattle.sim_flat.proofs.tables.first_sources.Given as goal

abbrev pub invariant-loop-d : goal.invariant-loop-d
invariant-loop-d l = l.sources.items ++ map first_source (drop l.d-index l.d-items) ≡ map first_source l.d-items
