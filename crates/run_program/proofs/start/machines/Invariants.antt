use Rattle.std.proofs.Common.{◌≡◌, length}
use Rattle.run_program.specs.Started.{AreLowered}
use Rattle.run_program.proofs.start.machines.Given as goal

abbrev pub invariant-loop-body : goal.invariant-loop-body
invariant-loop-body l = (length l.all.items ≡ l.body) × AreLowered l.program l.body l.all.items
