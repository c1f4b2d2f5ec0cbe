use Rattle.std.proofs.Common.{◌≡◌, length}
use Rattle.plan_device.proofs.Pinned.{IsTable}
use Rattle.plan_device.proofs.pins.pin_groups.Given as goal

abbrev pub invariant-loop-i : goal.invariant-loop-i
invariant-loop-i l = (length l.slots.items ≡ l.groups) × IsTable l.group l.pins l.slots.items l.i
