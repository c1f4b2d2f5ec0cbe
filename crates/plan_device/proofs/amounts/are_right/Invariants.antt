use Rattle.std.proofs.Common.{◌≡◌, ℕ, List, map}
use Rattle.std.specs.List.{list_all}
use Rattle.serde_json.specs.Data.{Data as Json}
use Rattle.plan_device.specs.Asked.{is_right}
use Rattle.plan_device.proofs.Entries.{entry_of}
use Rattle.plan_device.proofs.amounts.are_right.Given as goal

abbrev pub invariant-loop-name : goal.invariant-loop-name
invariant-loop-name l =
    (goal.iterator-loop-name).can_next l.name-iterator ×
    (goal.iterator-loop-name).is_finite l.name-iterator ×
    (list_all (λ (m : List ℕ × Json). is_right l.asked m.0 m.1) (map entry_of l.members.entries)
    ≡ list_all (λ (m : List ℕ × Json). is_right l.asked m.0 m.1) (map entry_of l.name-iterator))
