use Rattle.std.proofs.Common.{◌≡◌, ◌&&◌, ℕ, List, filter, not, false, map}
use Rattle.serde_json.specs.Data.{Data as Json}
use Rattle.run_data.specs.Seen.{first, has_name}
use Rattle.plan_device.specs.Tests.{member_passes}
use Rattle.plan_device.proofs.Entries.{entry_of}
use Rattle.plan_device.proofs.find.find_unknown_member.Given as goal

abbrev pub invariant-loop-key : goal.invariant-loop-key
invariant-loop-key l =
    (goal.iterator-loop-key).can_next l.key-iterator ×
    (goal.iterator-loop-key).is_finite l.key-iterator ×
    (first (filter (λ (m : List ℕ × Json). not (has_name l.table m.0) && not (member_passes l.check l.group false m.1)) (map entry_of l.members.entries))
    ≡ first (filter (λ (m : List ℕ × Json). not (has_name l.table m.0) && not (member_passes l.check l.group false m.1)) (map entry_of l.key-iterator)))
