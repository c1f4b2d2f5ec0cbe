use Rattle.std.proofs.Common.{◌≡◌, ◌++◌, drop, map}
use Rattle.sim_flat.specs.Sizes.{names_in}
use Rattle.sim_flat.proofs.sizes.names_of.Given as goal

abbrev pub invariant-loop-table : goal.invariant-loop-table
invariant-loop-table l = l.names.items ++ map names_in (drop l.table-index l.tables) ≡ map names_in l.tables
