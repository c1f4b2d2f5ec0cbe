use Rattle.std.proofs.Common.{◌≡◌, map, take, unwrap_or, option_and_then}
use Rattle.serde_json.specs.Find.{get_member}
use Rattle.run_data.specs.Data.{bits_of, members_at}
use Rattle.run_data.specs.Seen.{seen}
use Rattle.run_data.proofs.values.scalars.Given as goal

abbrev pub invariant-loop-port : goal.invariant-loop-port
invariant-loop-port l = l.values.items ≡ map (λ port. unwrap_or (option_and_then (bits_of port.bits) (get_member port.name (members_at (seen l.found)))) 0) (take l.port-index l.port-items)
