use Rattle.std.proofs.Common.{◌≡◌, ℕ, List, take}
use Rattle.run_data.specs.Data.{is_among}
use Rattle.run_data.specs.Seen.{has_name}
use Rattle.plan_device.proofs.names.table_of.Given as goal

abbrev pub invariant-loop-name : goal.invariant-loop-name
invariant-loop-name l = (name : List ℕ) → has_name l.table name ≡ is_among (take l.name-index l.names) name
