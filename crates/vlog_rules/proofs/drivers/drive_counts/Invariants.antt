use Rattle.std.proofs.Common.{◌≡◌, ◌++◌, ℕ, List, drop}
use Rattle.std.specs.List.{flat_map}
use Rattle.vlog_rules.specs.Drives.{CountsPlaces}
use Rattle.vlog_tree.specs.Table.{times_in}
use Rattle.vlog_tree.specs.V4.{line_driven}
use Rattle.vlog_rules.proofs.drivers.drive_counts.Given as goal

abbrev pub invariant-loop-i : goal.invariant-loop-i
invariant-loop-i l = (done : List (List ℕ)) × CountsPlaces l.scope l.counts.items (times_in done) × (done ++ flat_map (line_driven l.library) (drop l.i-index l.items) ≡ flat_map (line_driven l.library) l.items)
