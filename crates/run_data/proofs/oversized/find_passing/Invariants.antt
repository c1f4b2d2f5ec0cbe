use Rattle.std.proofs.Common.{◌≡◌, ◌≤◌, ◌-◌, drop}
use Rattle.serde_json.specs.View.{view}
use Rattle.run_data.specs.Data.{passing_from, most_cells_of_all}
use Rattle.run_data.specs.Seen.{first}
use Rattle.run_data.proofs.oversized.find_passing.Given as goal

abbrev pub invariant-loop-port : goal.invariant-loop-port
invariant-loop-port l =
    (l.room ≤ most_cells_of_all)
    × (first (passing_from 0 (view l.file) l.ports) ≡ first (passing_from (most_cells_of_all - l.room) (view l.file) (drop l.port-index l.ports)))
