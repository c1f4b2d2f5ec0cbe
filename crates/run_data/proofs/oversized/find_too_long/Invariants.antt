use Rattle.std.proofs.Common.{◌≡◌, drop, filter, nat_lt}
use Rattle.serde_json.specs.View.{view}
use Rattle.run_data.specs.Data.{cells_in, most_cells_of_one}
use Rattle.run_data.specs.Seen.{first}
use Rattle.run_data.proofs.oversized.find_too_long.Given as goal

abbrev pub invariant-loop-port : goal.invariant-loop-port
invariant-loop-port l =
    first (filter (λ port. nat_lt most_cells_of_one (cells_in (view l.file) port)) l.ports)
    ≡ first (filter (λ port. nat_lt most_cells_of_one (cells_in (view l.file) port)) (drop l.port-index l.ports))
