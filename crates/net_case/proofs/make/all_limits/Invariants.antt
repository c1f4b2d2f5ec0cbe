use Rattle.net_case.specs.Make.{AreLimits}
use Rattle.net_case.proofs.make.all_limits.Given as goal

abbrev pub invariant-loop-i : goal.invariant-loop-i
invariant-loop-i l = AreLimits l.program l.i l.all.items
