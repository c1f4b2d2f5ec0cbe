use Rattle.std.proofs.Common.{◌≡◌, drop, filter, not}
use Rattle.serde_json.specs.Find.{get_member}
use Rattle.run_data.specs.Data.{has_right_bits, members_at}
use Rattle.run_data.specs.Seen.{seen, first}
use Rattle.run_data.proofs.misfit.find_misfit_in.Given as goal

abbrev pub invariant-loop-port : goal.invariant-loop-port
invariant-loop-port l =
    first (filter (λ port. not (has_right_bits l.group port (get_member port.name (members_at (seen l.found))))) l.port-items)
    ≡ first (filter (λ port. not (has_right_bits l.group port (get_member port.name (members_at (seen l.found))))) (drop l.port-index l.port-items))
