use Rattle.std.proofs.Common.{◌≡◌, take}
use Rattle.slot_plan.proofs.search.rooms_of.Given as goal

abbrev pub invariant-loop-amount : goal.invariant-loop-amount
invariant-loop-amount l = l.copied.items ≡ take l.amount-index l.room
