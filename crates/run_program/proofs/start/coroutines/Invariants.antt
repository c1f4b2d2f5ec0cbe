use Rattle.std.proofs.Common.{◌≡◌, length}
use Rattle.run_program.specs.Started.{AreStarted}
use Rattle.run_program.proofs.start.coroutines.Given as goal

abbrev pub invariant-loop-i : goal.invariant-loop-i
invariant-loop-i l = (length l.all.items ≡ l.i) × AreStarted l.program l.input l.i l.all.items
