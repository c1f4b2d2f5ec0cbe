use Rattle.std.proofs.Common.{ap, arith}
use Rattle.net_core.specs.Bindings.{arity}
use Rattle.net_core.proofs.construct.writer_of.Goals as goal

pub returns : goal.returns
returns c =
    let w = c.requires.connected.written_at c.args.s c.requires.stream in
    let l = w.1.0.0 in
    let e = ap (arity c.args.program.now) c.producer-j.ensures.is in
    absurd (c.loop-p.invariant w.0 (omega arith) w.1)
