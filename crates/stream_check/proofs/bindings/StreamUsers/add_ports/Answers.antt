use Rattle.std.proofs.Common.{true, false, sym, ◌∙◌, get_or}
use Rattle.stream_check.proofs.Bound.{ends_end}
use Rattle.stream_check.proofs.bindings.StreamUsers.add_ports.Goals as goal

pub returns-then-position-ends-clause-written : goal.returns-then-position-ends-clause-written
returns-then-position-ends-clause-written c = λ s d h.
    sym (ends_end c.args.instance c.loop-position.position s true c.args.streams.now c.args.ends.now (get_or c.loop-position.self.writers.rows.items s d) c.if-position-ends.true)
    ∙ c.loop-position.invariant.written s d h

pub returns-then-position-ends-clause-read : goal.returns-then-position-ends-clause-read
returns-then-position-ends-clause-read c = λ s d h.
    sym (ends_end c.args.instance c.loop-position.position s false c.args.streams.now c.args.ends.now (get_or c.loop-position.self.readers.rows.items s d) c.if-position-ends.true)
    ∙ c.loop-position.invariant.read s d h
