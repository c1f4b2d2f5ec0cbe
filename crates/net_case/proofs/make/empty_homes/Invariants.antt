use Rattle.std.proofs.Common.{◌≡◌, length}
use Rattle.net_case.proofs.make.empty_homes.Given as goal

abbrev pub invariant-loop-i : goal.invariant-loop-i
invariant-loop-i g l = length l.homes.items ≡ l._i
