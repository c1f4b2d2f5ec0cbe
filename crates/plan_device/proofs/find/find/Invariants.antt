use Rattle.std.proofs.Common.{◌≡◌, drop}
use Rattle.std.specs.List.{flat_map}
use Rattle.serde_json.specs.View.{view}
use Rattle.run_data.specs.Seen.{first}
use Rattle.plan_device.specs.Faults.{faulty_at}
use Rattle.plan_device.specs.Known.{names_known}
use Rattle.plan_device.proofs.find.find.Given as goal

abbrev pub invariant-loop-key : goal.invariant-loop-key
invariant-loop-key l =
    first (flat_map (faulty_at l.check (names_known l.known) (view l.file)) l.key-items)
    ≡ first (flat_map (faulty_at l.check (names_known l.known) (view l.file)) (drop l.key-index l.key-items))
