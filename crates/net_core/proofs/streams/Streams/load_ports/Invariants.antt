use Rattle.net_core.specs.Load.{AreKept, AreLoaded, HasPorts}
use Rattle.net_core.proofs.streams.Streams.load_ports.Given as goal

abbrev pub invariant-loop-p : goal.invariant-loop-p
invariant-loop-p l = record {
  kept : AreKept l.fn.self l.self;
  ports : HasPorts l.program l.self;
  loaded : AreLoaded l.program l.p l.i l.fn.self l.self;
}
