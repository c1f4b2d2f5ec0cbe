use Rattle.std.proofs.Common.{◌≡◌, filter, not, map, string_bytes}
use Rattle.std.specs.Map.{keys_of as entry_keys}
use Rattle.run_data.specs.Seen.{first}
use Rattle.plan_device.specs.Faults.{is_key_in}
use Rattle.plan_device.proofs.misshapen.find_unknown_key.Given as goal

abbrev pub invariant-loop-key : goal.invariant-loop-key
invariant-loop-key l =
    (goal.iterator-loop-key).can_next l.key-iterator ×
    (goal.iterator-loop-key).is_finite l.key-iterator ×
    (first (filter (λ name. not (is_key_in l.format name)) (map string_bytes (entry_keys l.members.entries)))
    ≡ first (filter (λ name. not (is_key_in l.format name)) (map string_bytes l.key-iterator)))
