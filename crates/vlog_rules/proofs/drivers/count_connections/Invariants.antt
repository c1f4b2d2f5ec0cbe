use Rattle.std.proofs.Common.{◌≡◌, ◌++◌, ℕ, List, drop}
use Rattle.std.specs.List.{flat_map}
use Rattle.vlog_rules.specs.Drives.{CountsPlaces}
use Rattle.vlog_tree.specs.Table.{times_in}
use Rattle.vlog_tree.specs.V4.{connection_driven}
use Rattle.vlog_rules.proofs.drivers.count_connections.Given as goal

abbrev pub invariant-loop-l : goal.invariant-loop-l
invariant-loop-l l =
    (names : List (List ℕ)) → CountsPlaces l.scope l.fn.counts.items (times_in names)
    → (done : List (List ℕ)) × CountsPlaces l.scope l.counts.items (times_in done) × (done ++ flat_map (connection_driven l.ports) (drop l.l-index l.connections) ≡ names ++ flat_map (connection_driven l.ports) l.connections)
