use Rattle.std.proofs.Common.{◌≡◌, map, take}
use Rattle.serde_json.specs.Find.{get_member}
use Rattle.run_data.specs.Data.{is_ready, items_at, members_at}
use Rattle.run_data.specs.Seen.{seen}
use Rattle.run_data.proofs.values.waits.Given as goal

abbrev pub invariant-loop-port : goal.invariant-loop-port
invariant-loop-port l = map (λ ready. ready.items) l.waits.items ≡ map (λ port. map is_ready (items_at (get_member port.name (members_at (seen l.found))))) (take l.port-index l.port-items)
