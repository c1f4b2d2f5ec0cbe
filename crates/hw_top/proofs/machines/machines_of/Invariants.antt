use Rattle.std.proofs.Common.{◌≡◌, length}
use Rattle.hw_top.proofs.Lowering.{AreOf}
use Rattle.hw_top.proofs.machines.machines_of.Given as goal

abbrev pub invariant-loop-b : goal.invariant-loop-b
invariant-loop-b l = record {
  as_many : length l.machines.items ≡ l.b;
  each : AreOf l.program.bodies.items l.machines.items;
}
