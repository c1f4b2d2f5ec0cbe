use Rattle.std.proofs.Common.{◌≡◌}
use Rattle.net_core.specs.Ports.{port_count}
use Rattle.net_case.specs.Batch.{KeepsTokens, AreRoomsWhole}
use Rattle.net_case.proofs.run.make_rooms.Given as goal

abbrev pub invariant-loop-p : goal.invariant-loop-p
invariant-loop-p l = record {
  kept : KeepsTokens l.fn.ports l.ports;
  count : port_count l.ports ≡ port_count l.fn.ports;
  whole : AreRoomsWhole l.limits.items l.p l.ports;
}
