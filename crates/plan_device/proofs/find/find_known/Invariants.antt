use Rattle.std.proofs.Common.{◌≡◌, drop, filter, not, true}
use Rattle.serde_json.specs.Find.{get_member}
use Rattle.run_data.specs.Data.{is_absent_or, members_at}
use Rattle.run_data.specs.Seen.{seen, first}
use Rattle.plan_device.specs.Tests.{member_passes}
use Rattle.plan_device.proofs.find.find_known.Given as goal

abbrev pub invariant-loop-name : goal.invariant-loop-name
invariant-loop-name l =
    first (filter (λ name. not (is_absent_or (member_passes l.check l.group true) (get_member name (members_at (seen l.found))))) l.names)
    ≡ first (filter (λ name. not (is_absent_or (member_passes l.check l.group true) (get_member name (members_at (seen l.found))))) (drop l.name-index l.names))
