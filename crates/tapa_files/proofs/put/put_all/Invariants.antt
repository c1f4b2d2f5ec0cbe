use Rattle.std.proofs.Common.{◌≡◌, length}
use Rattle.tapa_files.proofs.Known.{IsPutTo}
use Rattle.tapa_files.proofs.put.put_all.Given as goal

abbrev pub invariant-loop-rest : goal.invariant-loop-rest
invariant-loop-rest g l =
    IsPutTo (g.O.Sink.contents l.fn.sink) (g.O.Sink.contents l.sink) l.bytes l.rest
    × (g.O.Sink.faults l.sink ≡ g.O.Sink.faults l.fn.sink)

abbrev pub decreases-loop-rest : goal.decreases-loop-rest
decreases-loop-rest g l = length l.rest
