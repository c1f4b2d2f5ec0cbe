use Rattle.std.proofs.Common.{◌≡◌, take}
use Rattle.slot_split.proofs.regions.copy_of.Given as goal

abbrev pub invariant-loop-amount : goal.invariant-loop-amount
invariant-loop-amount l = l.copied.items ≡ take l.amount-index l.uses
