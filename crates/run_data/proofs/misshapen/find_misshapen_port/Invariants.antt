use Rattle.std.proofs.Common.{◌≡◌, drop, filter, not}
use Rattle.serde_json.specs.Find.{get_member}
use Rattle.run_data.specs.Data.{is_shaped, members_at}
use Rattle.run_data.specs.Seen.{seen, first}
use Rattle.run_data.proofs.misshapen.find_misshapen_port.Given as goal

abbrev pub invariant-loop-port : goal.invariant-loop-port
invariant-loop-port l =
    first (filter (λ port. not (is_shaped l.group (get_member port.name (members_at (seen l.found))))) l.ports)
    ≡ first (filter (λ port. not (is_shaped l.group (get_member port.name (members_at (seen l.found))))) (drop l.port-index l.ports))
